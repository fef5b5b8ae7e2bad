-- Document 01, "Events" and "What comes back", as rows: the bounds of every field, the mode that an event belongs to, and the number and
-- values of each answer.
use Rattle.std.specs.Prelude.{ℕ, Bool, true, false, not, ◌&&◌, List, [], ◌∷◌, ◌++◌, eqb}
use Rattle.processor.specs.Access.{access, between}
use Rattle.processor.specs.Rows.{at_each, at_none, notified, flagged}
use Rattle.processor.specs.declared.controls.Controls.{Controls}
use Rattle.processor.specs.declared.controls.Record.{Record}
use Rattle.events.specs.declared.event.Event.{Event}
use Rattle.events.specs.declared.event.Event.TheVariants.{Entry, Request, MemoryRead, MemoryWrite, ToCr8, FromCr8, Rdmsr, Wrmsr, Boundary}
use Rattle.events.specs.declared.answer.Refusal.{Refusal}
use Rattle.events.specs.declared.answer.Refusal.TheVariants.{PageLength, DescriptorLength, Bounds, Mode, EntryCheck}
use Rattle.events.specs.declared.answer.Answer.TheVariants.{Refused, Redirected, Passthrough, Fault, Exit, Delivered, Quiet}
use Rattle.events.specs.Answers.{refusal_number, refusal_check, numbers_of}
use Rattle.rows.specs.RowBench.{tells}
use Rattle.events.specs.Events.{offset_in_bounds, vector_in_bounds, size_in_bounds, value_in_bounds, cr8_in_bounds, activity_in_bounds, event_in_bounds, in_bounds, root_only, allowed}

-- offset 0 to 4095; vector 0 to 255; sizes 1, 2, 4, 8; a CR8 value and a register 0 to 15; activity 0 to 3
abbrev pub field_rows : List Bool
field_rows =
    at_each offset_in_bounds (0 ∷ 0x080 ∷ 4095 ∷ []) ∷ at_none offset_in_bounds (4096 ∷ 4097 ∷ 0xffff ∷ []) ∷
    at_each vector_in_bounds (0 ∷ 0x60 ∷ 255 ∷ []) ∷ at_none vector_in_bounds (256 ∷ 0x160 ∷ 0xffff ∷ []) ∷
    at_each size_in_bounds (1 ∷ 2 ∷ 4 ∷ 8 ∷ []) ∷ at_none size_in_bounds (0 ∷ 3 ∷ 5 ∷ 6 ∷ 7 ∷ 9 ∷ 16 ∷ 255 ∷ []) ∷
    at_each cr8_in_bounds (0 ∷ 15 ∷ []) ∷ at_none cr8_in_bounds (16 ∷ 17 ∷ 255 ∷ []) ∷
    at_each activity_in_bounds (0 ∷ 1 ∷ 2 ∷ 3 ∷ []) ∷ at_none activity_in_bounds (4 ∷ 5 ∷ 255 ∷ []) ∷ []

-- A write's value must fit its size: the largest that does, and the smallest that doesn't.
abbrev pub value_rows : List Bool
value_rows =
    at_each (value_in_bounds 1) (0 ∷ 0xff ∷ []) ∷ at_none (value_in_bounds 1) (0x100 ∷ 0xffff ∷ []) ∷
    at_each (value_in_bounds 2) (0x100 ∷ 0xffff ∷ []) ∷ at_none (value_in_bounds 2) (0x1_0000 ∷ 0xffff_ffff ∷ []) ∷
    at_each (value_in_bounds 4) (0x1_0000 ∷ 0xffff_ffff ∷ []) ∷ at_none (value_in_bounds 4) (0x1_0000_0000 ∷ 0xffff_ffff_ffff_ffff ∷ []) ∷
    at_each (value_in_bounds 8) (0x1_0000_0000 ∷ 0xffff_ffff_ffff_ffff ∷ []) ∷ at_none (value_in_bounds 8) (0x1_0000_0000_0000_0000 ∷ []) ∷
    at_none (value_in_bounds 3) (0 ∷ 1 ∷ []) ∷ at_none (value_in_bounds 0) (0 ∷ []) ∷ []

-- Threshold and notification vector have no bounds of their own.
abbrev controls_to : ℕ → Controls
controls_to flags = notified 0xffff flags 0xffff_ffff

abbrev pub event_rows : List Bool
event_rows =
    event_in_bounds (Entry (controls_to 0x7ff)) ∷ not (event_in_bounds (Entry (controls_to 0x800))) ∷
    event_in_bounds (Request 255) ∷ not (event_in_bounds (Request 256)) ∷
    -- both flags of a read may be on
    event_in_bounds (MemoryRead (access 4095 8 true true)) ∷ not (event_in_bounds (MemoryRead (access 4096 1 false false))) ∷
    not (event_in_bounds (MemoryRead (access 0 3 false false))) ∷
    -- of a write, the fetch flag must be off
    event_in_bounds (MemoryWrite (access 4095 2 false true) 0xffff) ∷ not (event_in_bounds (MemoryWrite (access 4095 2 true false) 0xffff)) ∷
    not (event_in_bounds (MemoryWrite (access 4096 2 false false) 0)) ∷ not (event_in_bounds (MemoryWrite (access 0 2 false false) 0x1_0000)) ∷
    not (event_in_bounds (MemoryWrite (access 0 3 false false) 0)) ∷
    event_in_bounds (ToCr8 15 15) ∷ not (event_in_bounds (ToCr8 16 0)) ∷ not (event_in_bounds (ToCr8 0 16)) ∷
    event_in_bounds (FromCr8 15) ∷ not (event_in_bounds (FromCr8 16)) ∷
    -- every 32-bit index and every 64-bit value
    event_in_bounds (Rdmsr 0xffff_ffff) ∷ event_in_bounds (Wrmsr 0xffff_ffff 0xffff_ffff_ffff_ffff) ∷
    event_in_bounds (Boundary (between true true true 3)) ∷ not (event_in_bounds (Boundary (between false false false 4))) ∷ []

abbrev held : Bool → ℕ → Record
held guest flags = record { guest = guest; rvi = 0; svi = 0; recognised = false; controls = flagged flags }

-- the record's flags are bounded as an entry's are, whatever the event
abbrev pub record_rows : List Bool
record_rows =
    in_bounds (held false 0x7ff) (Request 255) ∷ not (in_bounds (held false 0x800) (Request 255)) ∷
    not (in_bounds (held false 0x7ff) (Request 256)) ∷ not (in_bounds (held true 0x8000_0000) (Rdmsr 0)) ∷ []

-- allowed in root mode and not in guest mode; allowed in guest mode and not in root mode
abbrev root_alone : Event → Bool
root_alone e = root_only e && allowed (held false 0) e && not (allowed (held true 0) e)

abbrev guest_alone : Event → Bool
guest_alone e = not (root_only e) && allowed (held true 0) e && not (allowed (held false 0) e)

-- Root only: entry, request. Guest only: every other event.
abbrev pub mode_rows : List Bool
mode_rows =
    root_alone (Entry (flagged 0)) ∷ root_alone (Request 0x60) ∷ guest_alone (MemoryRead (access 0x080 1 false false)) ∷
    guest_alone (MemoryWrite (access 0x080 1 false false) 0) ∷ guest_alone (ToCr8 0 0) ∷ guest_alone (FromCr8 0) ∷ guest_alone (Rdmsr 0x808) ∷
    guest_alone (Wrmsr 0x808 0) ∷ guest_alone (Boundary (between true false false 0)) ∷ []

-- each refusal has its number, and refusal 4 alone its check
abbrev refused_by : Refusal → ℕ → ℕ → Bool
refused_by refusal number check = eqb (refusal_number refusal) number && eqb (refusal_check refusal) check

abbrev pub refusal_rows : List Bool
refusal_rows =
    refused_by PageLength 1 0 ∷ refused_by DescriptorLength 5 0 ∷ refused_by Bounds 2 0 ∷ refused_by Mode 3 0 ∷ refused_by (EntryCheck 6) 4 6 ∷
    refused_by (EntryCheck 1) 4 1 ∷ []

-- each answer has its number and its values; numbers not named are 0
abbrev pub answer_rows : List Bool
answer_rows =
    tells (numbers_of (Refused 4 6)) 0 4 6 ∷ tells (numbers_of (Redirected 0x5c)) 1 0x5c 0 ∷ tells (numbers_of Passthrough) 2 0 0 ∷ tells (numbers_of Fault) 3 0 0 ∷
    tells (numbers_of (Exit 28 0x308)) 4 28 0x308 ∷ tells (numbers_of (Delivered 0x71)) 5 0x71 0 ∷ tells (numbers_of Quiet) 6 0 0 ∷ []

abbrev pub bounds_rows : List Bool
bounds_rows = field_rows ++ value_rows ++ event_rows ++ record_rows ++ mode_rows ++ refusal_rows ++ answer_rows

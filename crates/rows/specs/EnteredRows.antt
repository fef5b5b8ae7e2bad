-- Document 01, "Entry and request", with E2 of document 02, as rows.
use Rattle.std.specs.Prelude.{ℕ, Bool, true, false, List, [], ◌∷◌, ◌++◌}
use Rattle.processor.specs.Rows.{Word, word}
use Rattle.processor.specs.declared.controls.Controls.{Controls}
use Rattle.processor.specs.declared.controls.Record.{Record}
use Rattle.events.specs.declared.answer.Numbers.{Numbers}
use Rattle.events.specs.declared.event.Event.TheVariants.{Entry, Request}
use Rattle.rows.specs.RowBench.{Row, quiet, exit}
use Rattle.rows.specs.RowStart.{marked, busy, guest, root, of_event}

-- VTPR's byte and VPPR's, with 31 in service and 52 requested
abbrev page : ℕ → ℕ → List ℕ
page vtpr vppr = marked (word 0x080 vtpr ∷ word 0x0a0 vppr ∷ word 0x110 0x0002_0000 ∷ word 0x220 0x0004_0000 ∷ [])

-- the controls in force before an entry
abbrev before : Controls
before = record { flags = 0x120; threshold = 3; notification = 7; eoi_exit_0 = 4; eoi_exit_1 = 3; eoi_exit_2 = 2; eoi_exit_3 = 1 }

-- an entry at VPPR A5A5A570 with these controls, from root mode: VTPR, RVI, SVI and whether an interrupt is recognised
abbrev enter : ℕ → ℕ → ℕ → Bool → Controls → Numbers → Record → List Word → Row
enter vtpr rvi svi recognised c a state ws = of_event (page vtpr 0xa5a5_a570) (root rvi svi recognised before) (Entry c) a state ws

abbrev entries : List Row
entries =
    -- VID on: PPR virtualization, all 32 bits of VPPR, then evaluation by the new VPPR
    enter 0xa5a5_a54f 0x52 0x31 false (busy 0x31 0) quiet (guest 0x52 0x31 true (busy 0x31 0)) (word 0x0a0 0x4f ∷ []) ∷
    enter 0xa5a5_a55f 0x52 0x31 true (busy 0x31 0) quiet (guest 0x52 0x31 false (busy 0x31 0)) (word 0x0a0 0x5f ∷ []) ∷
    enter 0xa5a5_a54f 0x71 0x63 false (busy 0x33 0) quiet (guest 0x71 0x63 true (busy 0x33 0)) (word 0x0a0 0x60 ∷ []) ∷
    enter 0xa5a5_a54f 0x65 0x63 true (busy 0x35 0) quiet (guest 0x65 0x63 false (busy 0x35 0)) (word 0x0a0 0x60 ∷ []) ∷
    -- interrupt-window exiting on: nothing is recognised; threshold and posting change nothing of it
    enter 0xa5a5_a54f 0x52 0x31 true (busy 0x71 0) quiet (guest 0x52 0x31 false (busy 0x71 0)) (word 0x0a0 0x4f ∷ []) ∷
    enter 0xa5a5_a54f 0x52 0x31 false (busy 0x3b 0xffff_ffff) quiet (guest 0x52 0x31 true (busy 0x3b 0xffff_ffff)) (word 0x0a0 0x4f ∷ []) ∷
    -- VID off: nothing is recognised, and the page stays
    enter 0xa5a5_a54f 0x52 0x31 true (busy 0x01 4) quiet (guest 0x52 0x31 false (busy 0x01 4)) [] ∷
    enter 0xa5a5_a54f 0x52 0x31 true (busy 0x03 4) quiet (guest 0x52 0x31 false (busy 0x03 4)) [] ∷
    enter 0xa5a5_a54f 0x52 0x31 true (busy 0x0b 0) quiet (guest 0x52 0x31 false (busy 0x0b 0)) [] ∷
    enter 0xa5a5_a54f 0x52 0x31 true (busy 0x00 5) quiet (guest 0x52 0x31 false (busy 0x00 5)) [] ∷
    enter 0xa5a5_a5f0 0x52 0x31 true (busy 0x01 15) quiet (guest 0x52 0x31 false (busy 0x01 15)) [] ∷
    -- so it is where evaluation would recognise
    of_event (page 0xa5a5_a54f 0xa5a5_a500) (root 0x52 0x31 true before) (Entry (busy 0x01 4)) quiet (guest 0x52 0x31 false (busy 0x01 4)) [] ∷
    of_event (page 0xa5a5_a54f 0xa5a5_a500) (root 0x52 0x31 false before) (Entry (busy 0x00 0)) quiet (guest 0x52 0x31 false (busy 0x00 0)) [] ∷
    -- no other control is looked at
    enter 0xa5a5_a54f 0x52 0x31 true (busy 0x5eb 4) quiet (guest 0x52 0x31 false (busy 0x5eb 4)) [] ∷
    enter 0xa5a5_a54f 0x52 0x31 true (busy 0x5ed 4) quiet (guest 0x52 0x31 false (busy 0x5ed 4)) [] ∷
    enter 0xa5a5_a54f 0x52 0x31 true (busy 0x021 4) quiet (guest 0x52 0x31 false (busy 0x021 4)) [] ∷
    enter 0xa5a5_a54f 0x52 0x31 false (busy 0x5bb 0) quiet (guest 0x52 0x31 true (busy 0x5bb 0)) (word 0x0a0 0x4f ∷ []) ∷
    enter 0xa5a5_a54f 0x52 0x31 true (busy 0x023 5) (exit 43 0) (root 0x52 0x31 false (busy 0x023 5)) [] ∷
    -- exit 43 at once: the record takes these controls; page, RVI and SVI stay
    enter 0xa5a5_a54f 0x52 0x31 true (busy 0x03 5) (exit 43 0) (root 0x52 0x31 false (busy 0x03 5)) [] ∷
    enter 0xa5a5_a5ef 0x52 0x31 true (busy 0x0b 15) (exit 43 0) (root 0x52 0x31 false (busy 0x0b 15)) [] ∷ []

-- a request in root mode: RVI and whether an interrupt is recognised before it, the vector; RVI then, and VIRR's word
abbrev requests : ℕ → Bool → ℕ → ℕ → List Word → Row
requests rvi recognised vector end ws =
    of_event (page 0xa5a5_a54f 0xa5a5_a500) (root rvi 0x31 recognised (busy 0x31 0)) (Request vector) quiet (root end 0x31 recognised (busy 0x31 0)) ws

abbrev request_rows : List Row
request_rows =
    -- above RVI, below it, equal to it; recognition is not looked at
    requests 0x52 true 0x71 0x71 (word 0x230 0x0002_0000 ∷ []) ∷ requests 0x52 false 0x71 0x71 (word 0x230 0x0002_0000 ∷ []) ∷
    requests 0x52 true 0x31 0x52 (word 0x210 0x0002_0000 ∷ []) ∷ requests 0x52 true 0x52 0x52 [] ∷
    -- RVI below a request that VIRR has: VIRR is not searched
    requests 0x00 false 0x31 0x31 (word 0x210 0x0002_0000 ∷ []) ∷
    requests 0x52 false 0x53 0x53 (word 0x220 0x000c_0000 ∷ []) ∷
    -- the ends of VIRR
    requests 0x00 false 0x00 0x00 (word 0x200 0x0000_0001 ∷ []) ∷ requests 0x52 false 0x00 0x52 (word 0x200 0x0000_0001 ∷ []) ∷
    requests 0x52 false 0xff 0xff (word 0x270 0x8000_0000 ∷ []) ∷ []

abbrev pub entry_rows : List Row
entry_rows = entries ++ request_rows

-- Document 01, "What comes back", as rows: which refusal, in the order 1, 2, 3, 4, with page and record unchanged.
use Rattle.std.specs.Prelude.{ℕ, true, false, List, [], ◌∷◌, ◌++◌, replicate}
use Rattle.processor.specs.Access.{access, between}
use Rattle.processor.specs.Rows.{word}
use Rattle.processor.specs.declared.controls.Record.{Record}
use Rattle.events.specs.declared.event.Event.TheVariants.{Entry, Request, MemoryRead, MemoryWrite, ToCr8, FromCr8, Rdmsr, Wrmsr, Boundary}
use Rattle.meaning.specs.Input.{Input, given, leaves}
use Rattle.meaning.specs.Bench.{boundary_open}
use Rattle.rows.specs.RowBench.{Row, refused, quiet}
use Rattle.rows.specs.RowStart.{marked, busy, guest, root, of}

-- pages of other lengths, one with VTPR, and a page at VTPR 4F
abbrev pub short_page : List ℕ
short_page = replicate 4095 0x4f

abbrev pub long_page : List ℕ
long_page = replicate 4097 0x4f

abbrev page : List ℕ
page = marked (word 0x080 0xa5a5_a54f ∷ [])

-- an input that gets this refusal and check, and leaves page and record
abbrev gets : ℕ → ℕ → List ℕ → Record → Input → Row
gets number check p r i = of p r i (refused number check) r []

-- in root mode, and in guest mode, with these flags in force
abbrev outside : ℕ → Record
outside flags = root 0x52 0x31 true (busy flags 0)

abbrev inside : ℕ → Record
inside flags = guest 0x52 0x31 true (busy flags 0)

-- 1: the page slice isn't 4,096 bytes, whatever else is wrong
abbrev length_rows : List Row
length_rows =
    gets 1 0 short_page (outside 0x31) (given (Request 0x60)) ∷ gets 1 0 long_page (outside 0x31) (given (Request 0x60)) ∷
    gets 1 0 [] (outside 0x31) (given (Request 0x60)) ∷ gets 1 0 short_page (inside 0x3b) (given (MemoryRead (access 0x080 4 false false))) ∷
    gets 1 0 long_page (inside 0x3b) (given boundary_open) ∷ gets 1 0 short_page (outside 0x31) (given (Entry (busy 0x31 0))) ∷
    gets 1 0 short_page (inside 0x831) (given (Request 0x100)) ∷ gets 1 0 long_page (outside 0x31) (given (Entry (busy 0x10 0))) ∷ []

-- 2: a field outside the bounds, in either mode and before any check: of the record; of each event
abbrev bounds_rows : List Row
bounds_rows =
    gets 2 0 page (outside 0x831) (given (Request 0x60)) ∷ gets 2 0 page (inside 0x833) (given boundary_open) ∷
    gets 2 0 page (inside 0x8000_0033) (given (Request 0x60)) ∷ gets 2 0 page (outside 0x831) (given (Entry (busy 0x10 0))) ∷
    gets 2 0 page (outside 0x31) (given (Entry (busy 0x831 0))) ∷ gets 2 0 page (outside 0x31) (given (Entry (busy 0x810 0))) ∷
    gets 2 0 page (inside 0x31) (given (Entry (busy 0x831 0))) ∷
    gets 2 0 page (outside 0x31) (given (Request 0x100)) ∷ gets 2 0 page (inside 0x31) (given (Request 0x100)) ∷
    gets 2 0 page (inside 0x3b) (given (MemoryRead (access 0x1000 1 false false))) ∷ gets 2 0 page (outside 0x3b) (given (MemoryRead (access 0x080 3 false false))) ∷
    gets 2 0 page (inside 0x3b) (given (MemoryWrite (access 0x1000 1 false false) 0)) ∷ gets 2 0 page (inside 0x3b) (given (MemoryWrite (access 0x080 1 true false) 0)) ∷
    gets 2 0 page (inside 0x3b) (given (MemoryWrite (access 0x080 1 false false) 0x100)) ∷ gets 2 0 page (inside 0x3b) (given (ToCr8 16 0)) ∷
    gets 2 0 page (outside 0x3b) (given (ToCr8 0 16)) ∷ gets 2 0 page (inside 0x3b) (given (FromCr8 16)) ∷
    gets 2 0 page (inside 0x3b) (given (Boundary (between true false false 4))) ∷ []

-- 3: the event is not allowed in this mode, before any check
abbrev mode_rows : List Row
mode_rows =
    gets 3 0 page (inside 0x31) (given (Entry (busy 0x31 0))) ∷ gets 3 0 page (inside 0x31) (given (Entry (busy 0x10 0))) ∷
    gets 3 0 page (inside 0x31) (given (Request 0x60)) ∷ gets 3 0 page (outside 0x3b) (given (MemoryRead (access 0x080 4 false false))) ∷
    gets 3 0 page (outside 0x3b) (given (MemoryWrite (access 0x080 1 false false) 0)) ∷ gets 3 0 page (outside 0x3b) (given (ToCr8 15 15)) ∷
    gets 3 0 page (outside 0x3b) (given (FromCr8 15)) ∷ gets 3 0 page (outside 0x3d) (given (Rdmsr 0x808)) ∷
    gets 3 0 page (outside 0x3d) (given (Wrmsr 0x808 0x100)) ∷ gets 3 0 page (outside 0x33) (given boundary_open) ∷ []

-- 4: an entry check fails, with the first failing check
abbrev check_rows : List Row
check_rows =
    gets 4 1 page (outside 0x31) (given (Entry (busy 0x10 0))) ∷ gets 4 2 page (outside 0x31) (given (Entry (busy 0x07 0))) ∷
    gets 4 3 page (outside 0x31) (given (Entry (busy 0x11 0))) ∷ gets 4 4 page (outside 0x31) (given (Entry (busy 0x01 16))) ∷
    gets 4 5 page (outside 0x31) (given (Entry (busy 0x631 0))) ∷ gets 4 6 page (outside 0x31) (given (Entry (busy 0x01 5))) ∷ []

-- A guest that leaves takes no page: one of any length stays, and no interrupt is recognised any more. In root mode, and with flags outside
-- their bounds, it is refused.
abbrev leave_rows : List Row
leave_rows =
    of short_page (inside 0x7ff) leaves quiet (root 0x52 0x31 false (busy 0x7ff 0)) [] ∷
    of [] (inside 0x31) leaves quiet (root 0x52 0x31 false (busy 0x31 0)) [] ∷
    of long_page (inside 0x31) leaves quiet (root 0x52 0x31 false (busy 0x31 0)) [] ∷
    gets 2 0 page (inside 0x800) leaves ∷ gets 2 0 page (outside 0x800) leaves ∷ gets 3 0 page (outside 0x31) leaves ∷ []

abbrev pub refusal_rows : List Row
refusal_rows = length_rows ++ bounds_rows ++ mode_rows ++ check_rows ++ leave_rows

-- Document 01, "The five procedures", as rows: PPR virtualization alone, and EOI virtualization by a write at 0B0.
use Rattle.std.specs.Prelude.{ℕ, true, false, List, [], ◌∷◌, ◌++◌}
use Rattle.processor.specs.Rows.{Word, word, exiting}
use Rattle.processor.specs.declared.controls.Controls.{Controls}
use Rattle.processor.specs.declared.controls.Record.{Record}
use Rattle.events.specs.declared.answer.Numbers.{Numbers}
use Rattle.meaning.specs.Bench.{ppr_alone}
use Rattle.rows.specs.RowBench.{Row, quiet, exit, write_eoi}
use Rattle.rows.specs.RowStart.{marked, busy, guest, root, of_event}

-- PPR virtualization alone: VTPR, SVI and the VPPR that comes of them, all 32 bits of it
abbrev ppr : ℕ → ℕ → ℕ → Row
ppr vtpr svi vppr =
    let r = guest 0x95 svi true (busy 0x3b 5) in
    record { begin = record { page = marked (word 0x080 vtpr ∷ []); state = r }; deed = ppr_alone; answers = []; state = r; changed = word 0x0a0 vppr ∷ [] }

abbrev ppr_rows : List Row
ppr_rows =
    ppr 0xa5a5_a56f 0x60 0x6f ∷ ppr 0xa5a5_a55f 0x63 0x60 ∷ ppr 0xa5a5_a561 0x6f 0x61 ∷ ppr 0x0000_0071 0x6f 0x71 ∷ ppr 0xffff_ff00 0x00 0x00 ∷
    ppr 0xa5a5_a50f 0xff 0xf0 ∷ []

-- an EOI at VTPR 2F and RVI 52, with these words of VISR; VEOI becomes 0
abbrev eoi : List Word → ℕ → Controls → Numbers → Record → List Word → Row
eoi service svi c a state end =
    of_event (marked (word 0x080 0xa5a5_a52f ∷ service)) (guest 0x52 svi true c) write_eoi a state (word 0x0b0 0 ∷ end)

-- old = SVI; clear VISR bit old; SVI = highest in VISR; PPR virtualization; exit 45 with qualification old if its EOI-exit bit is set, else
-- evaluation, quiet
abbrev eoi_rows : List Row
eoi_rows =
    -- a vector of each of the four words, with its own EOI-exit bit alone
    eoi (word 0x110 0x0002_0000 ∷ []) 0x31 (exiting 0x33 0x2_0000_0000_0000 0 0 0) (exit 45 0x31)
    (root 0x52 0x00 false (exiting 0x33 0x2_0000_0000_0000 0 0 0)) (word 0x110 0 ∷ word 0x0a0 0x2f ∷ []) ∷
    eoi (word 0x130 0x0002_0000 ∷ []) 0x71 (exiting 0x33 0 0x2_0000_0000_0000 0 0) (exit 45 0x71)
    (root 0x52 0x00 false (exiting 0x33 0 0x2_0000_0000_0000 0 0)) (word 0x130 0 ∷ word 0x0a0 0x2f ∷ []) ∷
    eoi (word 0x150 0x0002_0000 ∷ []) 0xb1 (exiting 0x33 0 0 0x2_0000_0000_0000 0) (exit 45 0xb1)
    (root 0x52 0x00 false (exiting 0x33 0 0 0x2_0000_0000_0000 0)) (word 0x150 0 ∷ word 0x0a0 0x2f ∷ []) ∷
    eoi (word 0x170 0x0002_0000 ∷ []) 0xf1 (exiting 0x33 0 0 0 0x2_0000_0000_0000) (exit 45 0xf1)
    (root 0x52 0x00 false (exiting 0x33 0 0 0 0x2_0000_0000_0000)) (word 0x170 0 ∷ word 0x0a0 0x2f ∷ []) ∷
    -- every other EOI-exit bit; the EOI-exit bit of the new SVI is not looked at
    eoi (word 0x130 0x0002_0001 ∷ []) 0x71 (exiting 0x33 0xffff_ffff_ffff_ffff 0xfffd_ffff_ffff_ffff 0xffff_ffff_ffff_ffff 0xffff_ffff_ffff_ffff) quiet
    (guest 0x52 0x60 false (exiting 0x33 0xffff_ffff_ffff_ffff 0xfffd_ffff_ffff_ffff 0xffff_ffff_ffff_ffff 0xffff_ffff_ffff_ffff))
    (word 0x130 1 ∷ word 0x0a0 0x60 ∷ []) ∷
    -- SVI is the highest left, in its own word or in a lower one; evaluation by the new VPPR
    eoi (word 0x110 0x0002_0000 ∷ word 0x130 0x0002_0000 ∷ []) 0x71 (busy 0x33 0) quiet (guest 0x52 0x31 true (busy 0x33 0))
    (word 0x130 0 ∷ word 0x0a0 0x30 ∷ []) ∷
    eoi (word 0x110 0x0002_0000 ∷ word 0x130 0x0002_0000 ∷ []) 0x71 (busy 0x73 0) quiet (guest 0x52 0x31 false (busy 0x73 0))
    (word 0x130 0 ∷ word 0x0a0 0x30 ∷ []) ∷
    eoi (word 0x170 0xc000_0000 ∷ []) 0xff (busy 0x33 0) quiet (guest 0x52 0xfe false (busy 0x33 0)) (word 0x170 0x4000_0000 ∷ word 0x0a0 0xf0 ∷ []) ∷
    -- nothing in service: no service bit changes and SVI is 0; vector 0's EOI-exit bit is looked at
    eoi [] 0x00 (exiting 0x33 0 0 0 0) quiet (guest 0x52 0x00 true (exiting 0x33 0 0 0 0)) (word 0x0a0 0x2f ∷ []) ∷
    eoi [] 0x00 (busy 0x33 0) (exit 45 0x00) (root 0x52 0x00 false (busy 0x33 0)) (word 0x0a0 0x2f ∷ []) ∷
    -- SVI without its bit, below another or above it: the highest in VISR is SVI then
    eoi (word 0x130 0x0002_0000 ∷ []) 0x31 (busy 0x33 0) quiet (guest 0x52 0x71 false (busy 0x33 0)) (word 0x0a0 0x70 ∷ []) ∷
    eoi (word 0x110 0x0002_0000 ∷ word 0x130 0x0002_0000 ∷ []) 0x31 (busy 0x33 0) quiet (guest 0x52 0x71 false (busy 0x33 0))
    (word 0x110 0 ∷ word 0x0a0 0x70 ∷ []) ∷
    eoi (word 0x110 0x0002_0000 ∷ []) 0x71 (busy 0x33 0) quiet (guest 0x52 0x31 true (busy 0x33 0)) (word 0x0a0 0x30 ∷ []) ∷ []

abbrev pub procedure_rows : List Row
procedure_rows = ppr_rows ++ eoi_rows

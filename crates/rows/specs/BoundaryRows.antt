-- Document 01, "Boundary", as rows.
use Rattle.std.specs.Prelude.{ℕ, Bool, true, false, not, List, [], ◌∷◌, ◌++◌}
use Rattle.processor.specs.Access.{between}
use Rattle.processor.specs.Rows.{Word, word}
use Rattle.events.specs.declared.event.Event.{Event}
use Rattle.events.specs.declared.event.Event.TheVariants.{Boundary}
use Rattle.meaning.specs.Boundary.{matters}
use Rattle.rows.specs.RowBench.{Row, quiet, exit, delivered}
use Rattle.rows.specs.RowStart.{marked, busy, guest, root, of_event, keeps}

-- 31 in service; 52 and 71 requested; VPPR 30 with other bytes above it
abbrev page : List ℕ
page = marked (word 0x0a0 0xa5a5_a530 ∷ word 0x110 0x0002_0000 ∷ word 0x220 0x0004_0000 ∷ word 0x230 0x0002_0000 ∷ [])

-- quiet, and nothing changes, whether an interrupt is recognised or not
abbrev closed : ℕ → Bool → Event → Row
closed flags recognised e = keeps page (guest 0x71 0x31 recognised (busy flags 0)) e quiet

abbrev closed_rows : List Row
closed_rows =
    -- IF off; blocking by STI; blocking by MOV SS; activity 2 and 3; each with a window to exit by too
    closed 0x33 true (Boundary (between false false false 0)) ∷ closed 0x33 true (Boundary (between true true false 0)) ∷ closed 0x33 true (Boundary (between true false true 0)) ∷
    closed 0x33 true (Boundary (between true false false 2)) ∷ closed 0x33 true (Boundary (between true false false 3)) ∷
    closed 0x73 true (Boundary (between false false false 0)) ∷ closed 0x73 true (Boundary (between true true false 0)) ∷ closed 0x73 true (Boundary (between true false true 1)) ∷
    closed 0x73 true (Boundary (between true false false 2)) ∷ closed 0x73 true (Boundary (between true false false 3)) ∷
    -- open, nothing recognised
    closed 0x33 false (Boundary (between true false false 0)) ∷ closed 0x33 false (Boundary (between true false false 1)) ∷ []

-- Open with control 6: exit 7, recognised or not.
abbrev window : ℕ → Bool → ℕ → Row
window flags recognised activity =
    of_event page (guest 0x71 0x31 recognised (busy flags 0)) (Boundary (between true false false activity)) (exit 7 0) (root 0x71 0x31 false (busy flags 0)) []

abbrev window_rows : List Row
window_rows = window 0x73 true 0 ∷ window 0x73 false 0 ∷ window 0x40 true 1 ∷ []

-- v = RVI; set VISR v; SVI = v; VPPR = v with low four bits cleared, all 32 bits of it; clear VIRR v; RVI = highest in VIRR; recognition
-- off; delivered v
abbrev deliver : List ℕ → ℕ → ℕ → ℕ → ℕ → ℕ → List Word → Row
deliver p flags activity rvi svi end ws =
    of_event p (guest rvi svi true (busy flags 0)) (Boundary (between true false false activity)) (delivered rvi) (guest end rvi false (busy flags 0)) ws

abbrev delivery_rows : List Row
delivery_rows =
    deliver page 0x33 0 0x71 0x31 0x52 (word 0x130 0x0002_0000 ∷ word 0x0a0 0x70 ∷ word 0x230 0 ∷ []) ∷
    deliver page 0x7bf 1 0x71 0x31 0x52 (word 0x130 0x0002_0000 ∷ word 0x0a0 0x70 ∷ word 0x230 0 ∷ []) ∷
    -- the last request; one beside another in its word; the highest vector; with VID off too
    deliver (marked (word 0x220 0x0004_0000 ∷ [])) 0x31 0 0x52 0x00 0x00 (word 0x120 0x0004_0000 ∷ word 0x0a0 0x50 ∷ word 0x220 0 ∷ []) ∷
    deliver (marked (word 0x120 0x0001_0000 ∷ word 0x220 0x0006_0000 ∷ [])) 0x31 0 0x52 0x50 0x51
    (word 0x120 0x0005_0000 ∷ word 0x0a0 0x50 ∷ word 0x220 0x0002_0000 ∷ []) ∷
    deliver (marked (word 0x270 0x8000_0000 ∷ word 0x200 0x0000_0001 ∷ [])) 0x00 0 0xff 0x00 0x00
    (word 0x170 0x8000_0000 ∷ word 0x0a0 0xf0 ∷ word 0x270 0 ∷ []) ∷
    -- RVI below another request: it is delivered, and RVI is the highest then
    deliver page 0x33 0 0x52 0x31 0x71 (word 0x120 0x0004_0000 ∷ word 0x0a0 0x50 ∷ word 0x220 0 ∷ []) ∷
    -- RVI without its bit: it is delivered all the same
    deliver page 0x33 0 0x95 0x31 0x71 (word 0x140 0x0020_0000 ∷ word 0x0a0 0x90 ∷ []) ∷ []

-- a boundary of these flags matters: RVI, SVI and the mode are not looked at
abbrev matter : ℕ → Bool → Bool → Bool → Bool → ℕ → Bool
matter flags recognised interrupts sti movSs activity = matters (guest 0x71 0x31 recognised (busy flags 0)) interrupts sti movSs activity

-- open, and control 6 is on or an interrupt is recognised
abbrev pub matter_rows : List Bool
matter_rows =
    matter 0x33 true true false false 0 ∷ matter 0x33 true true false false 1 ∷ matter 0x73 false true false false 0 ∷ matter 0x40 true true false false 0 ∷
    not (matter 0x7bf false true false false 0) ∷ not (matter 0x73 true false false false 0) ∷ not (matter 0x73 true true true false 0) ∷
    not (matter 0x73 true true false true 0) ∷ not (matter 0x73 true true false false 2) ∷ not (matter 0x73 true false true true 0) ∷
    matters (root 0x71 0x31 true (busy 0x33 0)) true false false 0 ∷ []

abbrev pub boundary_rows : List Row
boundary_rows = closed_rows ++ window_rows ++ delivery_rows

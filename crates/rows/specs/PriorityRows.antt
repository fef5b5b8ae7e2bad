-- Document 01, "The five procedures" and "Boundary", as rows: what is decided from numbers alone.
use Rattle.std.specs.Prelude.{Bool, true, false, not, List, [], ◌∷◌, ◌++◌, eqb}
use Rattle.processor.specs.Rows.{at_each, at_none, controls, flagged}
use Rattle.processor.specs.Logic.{larger}
use Rattle.priorities.specs.Priorities.{class, low_cleared, ppr, below_threshold, evaluated, open_boundary}

-- A vector's class is its bits 7:4.
abbrev pub class_rows : List Bool
class_rows =
    eqb (class 0x00) 0 ∷ eqb (class 0x0f) 0 ∷ eqb (class 0x10) 1 ∷ eqb (class 0x71) 7 ∷ eqb (class 0xff) 15 ∷
    eqb (low_cleared 0x0f) 0x00 ∷ eqb (low_cleared 0x10) 0x10 ∷ eqb (low_cleared 0x71) 0x70 ∷ eqb (low_cleared 0xff) 0xf0 ∷ []

-- PPR virtualization, by VTPR's byte and SVI: VTPR's class above SVI's, equal to it, below it
abbrev pub ppr_rows : List Bool
ppr_rows =
    eqb (ppr 0x7f 0x63) 0x7f ∷ eqb (ppr 0x21 0x1f) 0x21 ∷ eqb (ppr 0x6f 0x60) 0x6f ∷ eqb (ppr 0x60 0x6f) 0x60 ∷ eqb (ppr 0x61 0x6f) 0x61 ∷ eqb (ppr 0x6e 0x6f) 0x6e ∷ eqb (ppr 0x0f 0x0a) 0x0f ∷
    eqb (ppr 0x00 0x00) 0x00 ∷ eqb (ppr 0x5f 0x63) 0x60 ∷ eqb (ppr 0x00 0xff) 0xf0 ∷ eqb (ppr 0x0f 0x10) 0x10 ∷ []

-- TPR virtualization with VID off: VTPR's class is below threshold bits 3:0, whatever its bits 31:4 are
abbrev pub threshold_rows : List Bool
threshold_rows =
    at_none (below_threshold (controls 0x01 0)) (0x00 ∷ 0x0f ∷ 0xff ∷ []) ∷
    at_each (below_threshold (controls 0x01 1)) (0x00 ∷ 0x0f ∷ []) ∷ at_none (below_threshold (controls 0x01 1)) (0x10 ∷ 0xff ∷ []) ∷
    at_each (below_threshold (controls 0x01 5)) (0x00 ∷ 0x4f ∷ []) ∷ at_none (below_threshold (controls 0x01 5)) (0x50 ∷ 0xff ∷ []) ∷
    at_each (below_threshold (controls 0x01 15)) (0x00 ∷ 0xef ∷ []) ∷ at_none (below_threshold (controls 0x01 15)) (0xf0 ∷ 0xff ∷ []) ∷
    at_none (below_threshold (controls 0x01 16)) (0x00 ∷ 0xff ∷ []) ∷
    at_each (below_threshold (controls 0x01 0x15)) (0x4f ∷ []) ∷ at_none (below_threshold (controls 0x01 0x15)) (0x50 ∷ []) ∷
    at_each (below_threshold (controls 0x01 0xffff_fff5)) (0x4f ∷ []) ∷ at_none (below_threshold (controls 0x01 0xffff_fff5)) (0x50 ∷ []) ∷ []

-- Evaluation, by the flags, RVI and VPPR: classes are compared and not whole bytes, and control 6 alone is asked
abbrev pub evaluation_rows : List Bool
evaluation_rows =
    evaluated (flagged 0x31) 0x70 0x6f ∷ evaluated (flagged 0x31) 0x10 0x0f ∷ evaluated (flagged 0x31) 0xff 0x00 ∷
    evaluated (flagged 0x7bf) 0x70 0x6f ∷ evaluated (flagged 0) 0x70 0x6f ∷
    not (evaluated (flagged 0x31) 0x65 0x60) ∷ not (evaluated (flagged 0x31) 0x60 0x60) ∷ not (evaluated (flagged 0x31) 0x6f 0x70) ∷
    not (evaluated (flagged 0x31) 0x0f 0x00) ∷ not (evaluated (flagged 0x31) 0x00 0x00) ∷
    not (evaluated (flagged 0x71) 0x70 0x6f) ∷ not (evaluated (flagged 0x40) 0xff 0x00) ∷ []

-- Open means IF on, neither blocking on, activity 0 or 1.
abbrev pub open_rows : List Bool
open_rows =
    at_each (open_boundary true false false) (0 ∷ 1 ∷ []) ∷ at_none (open_boundary true false false) (2 ∷ 3 ∷ []) ∷
    at_none (open_boundary false false false) (0 ∷ 1 ∷ []) ∷ at_none (open_boundary true true false) (0 ∷ 1 ∷ []) ∷
    at_none (open_boundary true false true) (0 ∷ 1 ∷ []) ∷ at_none (open_boundary true true true) (0 ∷ 1 ∷ []) ∷
    at_none (open_boundary false true true) (0 ∷ 1 ∷ []) ∷ []

-- RVI becomes the larger of RVI and the vector.
abbrev pub larger_rows : List Bool
larger_rows = eqb (larger 0x60 0x71) 0x71 ∷ eqb (larger 0x71 0x60) 0x71 ∷ eqb (larger 0x60 0x60) 0x60 ∷ eqb (larger 0x00 0x01) 0x01 ∷ eqb (larger 0x01 0x00) 0x01 ∷ []

abbrev pub priority_rows : List Bool
priority_rows = class_rows ++ ppr_rows ++ threshold_rows ++ evaluation_rows ++ open_rows ++ larger_rows

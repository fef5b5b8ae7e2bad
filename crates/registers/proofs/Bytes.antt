-- Bytes with a byte stored among them. Assumes nothing.
use Prim.Native.Nat.{ℕ, ◌<◌}
use mathlib.Core.Path.{◌≡◌, refl}
use mathlib.Core.Bool.{Bool, true, false}
use mathlib.Core.List.{List}
use lib.Dec.{eqb, ltb}
use lib.ListN.{length, set}
use lib.Seq.{get_or-set_same, get_or-set_other, set_out}
use borrow.Author.Tests.{eqb-true, eqb-false, ltb-true, ltb-false}
use Rattle.page.specs.Page.{byte_at}

-- bytes with a byte stored among them are bytes
pub set-byte : (p : List ℕ) (i x : ℕ) → ((j : ℕ) → byte_at p j < 256) → x < 256 → (j : ℕ) → byte_at (set p i x) j < 256
set-byte p i x h hx j = by (eqb j i) refl
  where
    at : (b : Bool) → ltb i (length p) ≡ b → byte_at (set p i x) i < 256
    at true e = rw (get_or-set_same p i x 0 (ltb-true i (length p) e)) hx
    at false e = rw (set_out p i x (ltb-false i (length p) e)) (h i)

    by : (b : Bool) → eqb j i ≡ b → byte_at (set p i x) j < 256
    by true e = rw (eqb-true j i e) (at (ltb i (length p)) refl)
    by false e = rw (get_or-set_other p i j x 0 (eqb-false j i e)) (h j)

-- What the test of two slices in code says of the definition's. Assumes nothing.
use Rattle.std.proofs.Common.{◌≡◌, ℕ, List, [], ◌∷◌}
use mathlib.Core.Path.{refl, ap}
use mathlib.Core.Bool.{◌&&◌}
use lib.Dec.{eqb}
use lib.Pointwise.{pointwise}
use Rattle.processor.specs.Rows.{same_bytes}

pub same_bytes_pointwise : (a b : List ℕ) → same_bytes a b ≡ pointwise eqb a b
same_bytes_pointwise [] [] = refl
same_bytes_pointwise [] (y ∷ ys) = refl
same_bytes_pointwise (x ∷ xs) [] = refl
same_bytes_pointwise (x ∷ xs) (y ∷ ys) = ap (λ q. eqb x y && q) (same_bytes_pointwise xs ys)

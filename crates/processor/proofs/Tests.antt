-- A test that antt computes at every number below a bound, turned into the fact at each of them. Assumes nothing.
use Prim.Native.Nat.{ℕ, zero, suc, ◌<◌}
use native.Mathlib.Nat.{not-suc-le-zero}
use native.Mathlib.Omega.{arith}
use mathlib.Core.Path.{◌≡◌, refl, subst, sym}
use mathlib.Core.Bool.{Bool, true, false, ◌&&◌, ◌||◌, beq, true≢false, false≢true}
use lib.Dec.{T, eqb}
use borrow.Author.Tests.{eqb-true, eqb-false}
use Rattle.processor.specs.Logic.{all_below}

pub and_left : (a b : Bool) → T (a && b) → T a
and_left true b t = tt
and_left false b t = t

pub and_right : (a b : Bool) → T (a && b) → T b
and_right true b t = t
and_right false b t = absurd t

-- k is the last number below n + 1, or one before it
step : (n : ℕ) (f : ℕ → Bool) (k : ℕ) → k < suc n → T (f n) → (k < n → T (f k)) → (b : Bool) → eqb k n ≡ b → T (f k)
step n f k h last rest true e = subst (λ (m : ℕ). T (f m)) (sym (eqb-true k n e)) last
step n f k h last rest false e = rest (lower (eqb-false k n e))
  where
    lower : (k ≡ n → ⊥) → k < n
    lower ne = omega arith

-- the test holds at every k below n
pub below : (n : ℕ) (f : ℕ → Bool) → T (all_below n f) → (k : ℕ) → k < n → T (f k)
below zero f t k h = absurd (not-suc-le-zero h)
below (suc n) f t k h =
    step n f k h (and_left (f n) (all_below n f) t) (below n f (and_right (f n) (all_below n f) t) k) (eqb k n) refl

-- a test that passes
pub sure : (b : Bool) → T b → b ≡ true
sure true t = refl
sure false t = absurd t

-- two tests that are the same
pub same : (a b : Bool) → T (beq a b) → a ≡ b
same true true t = refl
same true false t = absurd t
same false true t = absurd t
same false false t = refl

-- what a conjunction, a disjunction or a negation tells of its parts
pub left : (a b : Bool) → (a && b) ≡ true → a ≡ true
left true b e = refl
left false b e = e

pub right : (a b : Bool) → (a && b) ≡ true → b ≡ true
right true b e = e
right false b e = absurd (false≢true e)

pub none_left : (a b : Bool) → (a || b) ≡ false → a ≡ false
none_left true b e = e
none_left false b e = refl

pub none_right : (a b : Bool) → (a || b) ≡ false → b ≡ false
none_right true b e = absurd (true≢false e)
none_right false b e = e

pub never : (b : Bool) → (b && false) ≡ false
never true = refl
never false = refl

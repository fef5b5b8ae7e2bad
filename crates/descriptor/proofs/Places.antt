-- The set places of a row of bits as a list: exactly those are its members. Assumes nothing.
use Rattle.std.specs.Prelude.{if◌then◌else◌}
use Prim.Native.Nat.{ℕ, zero, suc, ◌≤◌, ◌<◌}
use native.Mathlib.Nat.{not-suc-le-zero}
use native.Mathlib.Omega.{arith}
use mathlib.Core.Path.{◌≡◌, refl, sym, ◌∙◌, ap}
use mathlib.Core.Bool.{Bool, true, false}
use mathlib.Core.List.{◌∷◌}
use lib.Dec.{eqb}
use borrow.Author.Tests.{eqb-true, eqb-false, ne_eqb}
use Rattle.processor.specs.Logic.{member}
use Rattle.descriptor.specs.Descriptor.{places_below}

-- nothing at n or above
none_above : (f : ℕ → Bool) (n w : ℕ) → n ≤ w → member w (places_below f n) ≡ false
unfolding places_below
none_above f zero w l = refl
none_above f (suc v) w l = by (f v) (none_above f v w (omega arith))
  where
    other : v ≡ w → ⊥
    other e = omega arith

    by : (b : Bool) → member w (places_below f v) ≡ false → member w (if b then (v ∷ places_below f v) else places_below f v) ≡ false
    by true e = simp (ne_eqb v w other) e
    by false e = e

pub places-member : (f : ℕ → Bool) (n w : ℕ) → w < n → member w (places_below f n) ≡ f w
unfolding places_below
places-member f zero w l = absurd (not-suc-le-zero l)
places-member f (suc v) w l = by (eqb v w) refl (f v) refl (places-member f v w)
  where
    lower : (v ≡ w → ⊥) → w < v
    lower n = omega arith

    by : (b : Bool) → eqb v w ≡ b → (c : Bool) → f v ≡ c → (w < v → member w (places_below f v) ≡ f w) → member w (if c then (v ∷ places_below f v) else places_below f v) ≡ f w
    by true e true q ih = simp e (sym q ∙ ap f (eqb-true v w e))
    by true e false q ih = none_above f v w (at (eqb-true v w e)) ∙ sym q ∙ ap f (eqb-true v w e)
      where
        at : v ≡ w → v ≤ w
        at s = omega arith
    by false e true q ih = simp e (ih (lower (eqb-false v w e)))
    by false e false q ih = ih (lower (eqb-false v w e))

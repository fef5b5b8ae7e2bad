-- The search finds a vector exactly where a bit is set, and then the highest; nothing else does. Assumes nothing.
use Rattle.std.specs.Prelude.{Option, None, Some, if◌then◌else◌}
use Prim.Native.Nat.{ℕ, zero, suc, ◌<◌, ◌≤◌}
use native.Mathlib.Nat.{not-suc-le-zero, le_refl}
use native.Mathlib.Omega.{arith}
use mathlib.Core.Path.{◌≡◌, refl, sym, ◌∙◌, ap}
use mathlib.Core.Bool.{Bool, true, false, true≢false}
use mathlib.Core.List.{List}
use lib.Dec.{eqb}
use borrow.Author.Tests.{eqb-true, eqb-false}
use Rattle.registers.specs.Vectors.{is_set, highest_of, highest_below, Finds}

lower : (v w : ℕ) → w < suc v → (w ≡ v → ⊥) → w < v
lower v w l ne = omega arith

module _ (p : List ℕ) (base : ℕ) where
  -- of one vector more, which isn't set
  more : (v : ℕ) (f : Option ℕ) → is_set p base v ≡ false → Finds p base v f → Finds p base (suc v) f
  more v None e h = λ w l. by w l (eqb w v) refl
    where
      by : (w : ℕ) → w < suc v → (b : Bool) → eqb w v ≡ b → is_set p base w ≡ false
      by w l true q = ap (is_set p base) (eqb-true w v q) ∙ e
      by w l false q = h w (lower v w l (eqb-false w v q))
  more v (Some u) e h = (up h.0, h.1, (λ w l s. h.2 w (lower v w l (λ q. true≢false (sym s ∙ ap (is_set p base) q ∙ e))) s))
    where
      up : u < v → u < suc v
      up l = omega arith

  pub finds : (n : ℕ) → Finds p base n (highest_below p base n)
  unfolding highest_of
  finds zero = λ w l. absurd (not-suc-le-zero l)
  finds (suc v) = by (is_set p base v) refl (finds v)
    where
      by : (b : Bool) → is_set p base v ≡ b → Finds p base v (highest_below p base v) → Finds p base (suc v) (if b then Some v else highest_below p base v)
      by true e h = (le_refl (suc v), e, (λ w l s. omega arith))
      by false e h = more v (highest_below p base v) e h

  -- two that keep the promise are one
  one : (n : ℕ) (f g : Option ℕ) → Finds p base n f → Finds p base n g → f ≡ g
  one n None None h k = refl
  one n None (Some v) h k = absurd (true≢false (sym k.1 ∙ h v k.0))
  one n (Some u) None h k = absurd (true≢false (sym h.1 ∙ k u h.0))
  one n (Some u) (Some v) h k = ap (λ x. Some x) (equal (k.2 u h.0 h.1) (h.2 v k.0 k.1))
    where
      equal : u ≤ v → v ≤ u → u ≡ v
      equal a b = omega arith

  pub finds-only : (n : ℕ) (f : Option ℕ) → Finds p base n f → f ≡ highest_below p base n
  finds-only n f h = one n f (highest_below p base n) h (finds n)

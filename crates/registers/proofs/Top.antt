-- The highest set place of a row of bits, below n: what it is, and what setting or clearing one bit does to it. Assumes nothing.
use Rattle.std.specs.Prelude.{Some, unwrap_or, if◌then◌else◌}
use Prim.Native.Nat.{ℕ, zero, suc, ◌≤◌, ◌<◌}
use native.Mathlib.Nat.{not-suc-le-zero, le_refl}
use native.Mathlib.Omega.{arith}
use mathlib.Core.Path.{◌≡◌, refl, sym, ◌∙◌, ap, subst}
use mathlib.Core.Bool.{Bool, true, false, true≢false}
use mathlib.Core.List.{List}
use lib.Dec.{eqb, ltb}
use borrow.Author.Tests.{eq-eqb, eqb-true, eqb-false, ltb-true, ltb-false}
use Rattle.processor.specs.Logic.{larger}
use Rattle.registers.specs.Vectors.{is_set, put, highest_of, highest_below, highest}

-- the highest set place below n, 0 where there is none
abbrev pub top : (ℕ → Bool) → ℕ → ℕ
top f zero = 0
top f (suc v) = if f v then v else top f v

-- the search on a page's register, where none counts as 0, is that of the register's bits
pub highest-top : (p : List ℕ) (base n : ℕ) → unwrap_or (highest_below p base n) 0 ≡ top (is_set p base) n
unfolding highest_of
highest-top p base zero = refl
highest-top p base (suc v) = by (is_set p base v) (highest-top p base v)
  where
    by : (b : Bool) → unwrap_or (highest_below p base v) 0 ≡ top (is_set p base) v → unwrap_or (if b then Some v else highest_below p base v) 0 ≡ (if b then v else top (is_set p base) v)
    by true e = refl
    by false e = e

-- rows that agree below n have one top
pub top-ext : (f g : ℕ → Bool) (n : ℕ) → ((w : ℕ) → w < n → f w ≡ g w) → top f n ≡ top g n
top-ext f g zero h = refl
top-ext f g (suc v) h = simp (h v (le_refl (suc v)), top-ext f g v (λ w l. h w (omega arith)))

-- rows that agree below n have one search; so have registers that agree bit by bit, wherever they lie, and one highest vector
pub found-ext : (f g : ℕ → Bool) (n : ℕ) → ((w : ℕ) → w < n → f w ≡ g w) → highest_of f n ≡ highest_of g n
unfolding highest_of
found-ext f g zero h = refl
found-ext f g (suc v) h = simp (h v (le_refl (suc v)), found-ext f g v (λ w l. h w (omega arith)))

pub found-same : (p q : List ℕ) (a b n : ℕ) → ((w : ℕ) → w < n → is_set p a w ≡ is_set q b w) → highest_below p a n ≡ highest_below q b n
found-same p q a b n h = found-ext (is_set p a) (is_set q b) n h

pub highest-same : (p q : List ℕ) (a b : ℕ) → ((w : ℕ) → w < 256 → is_set p a w ≡ is_set q b w) → highest p a ≡ highest q b
unfolding highest
highest-same p q a b h = ap (λ f. unwrap_or f 0) (found-same p q a b 256 h)

pub top_below : (f : ℕ → Bool) (n : ℕ) → 0 < n → top f n < n
top_below f zero h = absurd (not-suc-le-zero h)
top_below f (suc v) h = go (f v) v (top-under f v)
  where
    top-under : (f : ℕ → Bool) (v : ℕ) → top f v ≤ v
    top-under f zero = le_refl 0
    top-under f (suc v) = under (f v) v (top f v) (top-under f v)
      where
        under : (b : Bool) (v t : ℕ) → t ≤ v → (if b then v else t) ≤ suc v
        under true v t l = omega arith
        under false v t l = omega arith

    go : (b : Bool) (v : ℕ) → top f v ≤ v → (if b then v else top f v) < suc v
    go true v l = omega arith
    go false v l = omega arith

-- no set place lies above it
pub top_least : (f : ℕ → Bool) (n w : ℕ) → w < n → f w ≡ true → w ≤ top f n
top_least f zero w h t = absurd (not-suc-le-zero h)
top_least f (suc v) w h t = go (f v) refl (top_least f v w)
  where
    lower : (w ≡ v → ⊥) → w < v
    lower ne = omega arith

    go : (b : Bool) → f v ≡ b → (w < v → f w ≡ true → w ≤ top f v) → w ≤ (if b then v else top f v)
    go true e ih = omega arith
    go false e ih = ih (lower (λ q. true≢false (sym t ∙ ap f q ∙ e))) t

-- it is set, unless it is 0
pub top_set : (f : ℕ → Bool) (n : ℕ) → 0 < top f n → f (top f n) ≡ true
top_set f zero h = absurd (not-suc-le-zero h)
top_set f (suc v) h = go (f v) refl h (top_set f v)
  where
    go : (b : Bool) → f v ≡ b → 0 < (if b then v else top f v) → (0 < top f v → f (top f v) ≡ true) → f (if b then v else top f v) ≡ true
    go true e l ih = e
    go false e l ih = ih l

-- what is set, with nothing set above it, is the top
pub top_unique : (f : ℕ → Bool) (n t : ℕ) → t < n → f t ≡ true → ((w : ℕ) → w < n → f w ≡ true → w ≤ t) → top f n ≡ t
top_unique f n t h s m = go (ltb 0 (top f n)) refl (top_least f n t h s)
  where
    close : top f n ≤ t → t ≤ top f n → top f n ≡ t
    close l k = omega arith

    nothing : top f n ≤ 0 → t ≤ top f n → top f n ≡ t
    nothing z k = omega arith

    go : (b : Bool) → ltb 0 (top f n) ≡ b → t ≤ top f n → top f n ≡ t
    go true e k = close (m (top f n) (top_below f n (omega arith)) (top_set f n (ltb-true 0 (top f n) e))) k
    go false e k = nothing (ltb-false 0 (top f n) e) k

-- where nothing is set the top is 0
pub top-none : (f : ℕ → Bool) (n : ℕ) → ((w : ℕ) → w < n → f w ≡ false) → top f n ≡ 0
top-none f zero h = refl
top-none f (suc v) h = simp (h v (le_refl (suc v))) (top-none f v (λ w l. h w (omega arith)))

-- setting a bit: the larger of the top and the bit's place
pub top-raise : (f : ℕ → Bool) (n v : ℕ) → v < n → top (put f v true) n ≡ larger (top f n) v
unfolding larger
top-raise f n v h = go (ltb (top f n) v) refl
  where
    at_place : put f v true v ≡ true
    at_place = simp (eq-eqb v v refl)

    kept : (w : ℕ) → f w ≡ true → put f v true w ≡ true
    kept w t = by (eqb v w)
      where
        by : (b : Bool) → (if b then true else f w) ≡ true
        by true = refl
        by false = t

    from : (w : ℕ) → put f v true w ≡ true → (b : Bool) → eqb v w ≡ b → ((v ≡ w) → ⊥) → f w ≡ true
    from w t true e ne = absurd (ne (eqb-true v w e))
    from w t false e ne = simp e at t

    bound : (t : ℕ) → top f n ≤ t → v ≤ t → (w : ℕ) → w < n → put f v true w ≡ true → w ≤ t
    bound t l k w hw s = pick (eqb v w) refl
      where
        pick : (b : Bool) → eqb v w ≡ b → w ≤ t
        pick true e = subst (λ x. x ≤ t) (eqb-true v w e) k
        pick false e = trans (top_least f n w hw (from w s (eqb v w) refl (eqb-false v w e)))
          where
            trans : w ≤ top f n → w ≤ t
            trans a = omega arith

    go : (b : Bool) → ltb (top f n) v ≡ b → top (put f v true) n ≡ (if b then v else top f n)
    go true e = top_unique (put f v true) n v h at_place (bound v (below (ltb-true (top f n) v e)) (le_refl v))
      where
        below : top f n < v → top f n ≤ v
        below l = omega arith
    go false e = stays (ltb 0 (top f n)) refl (ltb-false (top f n) v e)
      where
        stays : (b : Bool) → ltb 0 (top f n) ≡ b → v ≤ top f n → top (put f v true) n ≡ top f n
        stays true q l =
            top_unique (put f v true) n (top f n) (top_below f n (omega arith)) (kept (top f n) (top_set f n (ltb-true 0 (top f n) q)))
            (bound (top f n) (le_refl (top f n)) l)
        stays false q l = zero-top (ltb-false 0 (top f n) q)
          where
            zero-top : top f n ≤ 0 → top (put f v true) n ≡ top f n
            zero-top z =
                top_unique (put f v true) n (top f n) (omega arith) (subst (λ x. put f v true x ≡ true) same at_place) (bound (top f n) (le_refl (top f n)) l)
              where
                same : v ≡ top f n
                same = omega arith

-- a row with fewer bits has no higher top
pub top-fewer : (f g : ℕ → Bool) (n : ℕ) → ((w : ℕ) → w < n → g w ≡ true → f w ≡ true) → top g n ≤ top f n
top-fewer f g n h = go (ltb 0 (top g n)) refl
  where
    go : (b : Bool) → ltb 0 (top g n) ≡ b → top g n ≤ top f n
    go true e = top_least f n (top g n) inside (h (top g n) inside (top_set g n (ltb-true 0 (top g n) e)))
      where
        some : (n : ℕ) → 0 < top g n → 0 < n
        some zero l = l
        some (suc m) l = omega arith

        inside : top g n < n
        inside = top_below g n (some n (ltb-true 0 (top g n) e))
    go false e = zero-top (ltb-false 0 (top g n) e)
      where
        zero-top : top g n ≤ 0 → top g n ≤ top f n
        zero-top z = omega arith

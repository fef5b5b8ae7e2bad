-- Laws of a number's digits. Assumes nothing.
use Rattle.std.specs.Prelude.{if◌then◌else◌}
use native.Mathlib.Omega.{arith}
use Prim.Native.Nat.{ℕ, zero, suc, ◌+◌, ◌*◌, ◌-◌, ◌/◌, ◌^◌, ◌≤◌, ◌<◌}
use mathlib.Core.Path.{◌≡◌, refl, sym, ap, ◌∙◌}
use mathlib.Core.Bool.{Bool, true, false}
use mathlib.Core.List.{List, [], ◌∷◌, ◌++◌, append_assoc, append-nil}
use lib.Dec.{ltb}
use lib.ListN.{get_or}
use Rattle.std.proofs.Math.Nat.{div-div-eq-div-mul}
use borrow.Author.Tests.{ltb-true, lt-ltb, le-ltb}
use Rattle.text.specs.Decimal.{digit, digits, decimal, last_digits, value_from}

below-ten : (k n : ℕ) → n < 10 ^ suc (suc k) → n / 10 < 10 ^ suc k
below-ten k n h = omega arith

-- a bound that is one larger changes nothing
pub more : (k n : ℕ) → n < 10 ^ suc k → digits (suc (suc k)) n ≡ digits (suc k) n
unfolding digits
more zero n h = rw (lt-ltb n 10 h) refl
more (suc k) n h = ap (λ ds. if ltb n 10 then (digit n ∷ []) else (ds ++ (digit n ∷ []))) (more k (n / 10) (below-ten k n h))

-- a number of 64 bits that has more than one digit: those of its tenth, then the last
pub decimal-more : (n : ℕ) → n < 2 ^ 64 → 10 ≤ n → decimal n ≡ decimal (n / 10) ++ (digit n ∷ [])
unfolding digits
decimal-more n h t = rw (le-ltb n 10 t) (ap (λ ds. ds ++ (digit n ∷ [])) (sym (more 18 (n / 10) (omega arith))))

-- ---- one to four digits, and more than four
one-at-least : (k : ℕ) → 1 ≤ 10 ^ k
one-at-least zero = omega arith
one-at-least (suc k) = omega (arith, one-at-least k)

pub exactly : (k n : ℕ) → n < 2 ^ 64 → 10 ^ k ≤ n → n < 10 ^ suc k → decimal n ≡ last_digits (suc k) n
unfolding digits last_digits
exactly zero n w h l = rw (lt-ltb n 10 l) refl
exactly (suc k) n w h l =
    let ten : 10 ≤ n = omega (arith, one-at-least k) in
    decimal-more n w ten ∙ ap (λ (ds : List ℕ). ds ++ (digit n ∷ [])) (exactly k (n / 10) (omega arith) (omega arith) (omega arith))

-- a number without its last k digits
abbrev tenths : ℕ → ℕ → ℕ
tenths zero n = n
tenths (suc k) n = tenths k (n / 10)

but_last : (k n : ℕ) → n < 2 ^ 64 → 10 ^ k ≤ n → decimal n ≡ decimal (tenths k n) ++ last_digits k n
unfolding last_digits
but_last zero n w h = sym (append-nil (decimal n))
but_last (suc k) n w h =
    let ten : 10 ≤ n = omega (arith, one-at-least k) in
    decimal-more n w ten
    ∙ (ap (λ (ds : List ℕ). ds ++ (digit n ∷ [])) (but_last k (n / 10) (omega arith) (omega arith))
    ∙ append_assoc (decimal (tenths k (n / 10))) (last_digits k (n / 10)) (digit n ∷ []))

pub but-last-four : (n : ℕ) → n < 2 ^ 64 → 10000 ≤ n → decimal n ≡ decimal (n / 10000) ++ last_digits 4 n
but-last-four n w h =
    let same : n / 10 / 10 / 10 / 10 ≡ n / 10000 = omega arith in
    but_last 4 n w h ∙ ap (λ (m : ℕ). decimal m ++ last_digits 4 n) same

-- ---- the last digits, each written by itself
pub ten-of : (k : ℕ) → k < 4 → get_or (1 ∷ 10 ∷ 100 ∷ 1000 ∷ []) k 0 ≡ 10 ^ k
ten-of zero h = refl
ten-of (suc zero) h = refl
ten-of (suc (suc zero)) h = refl
ten-of (suc (suc (suc zero))) h = refl
ten-of (suc (suc (suc (suc k)))) h = absurd (omega arith)

pub one-more : (i k n : ℕ) → 0 < k → k ≤ i → last_digits (i - (k - 1)) (n / 10 ^ (k - 1)) ≡ last_digits (i - k) (n / 10 ^ k) ++ (digit (n / 10 ^ (k - 1)) ∷ [])
unfolding last_digits
one-more i zero n p h = absurd (omega arith)
one-more i (suc j) n p h =
    let same : suc j - 1 ≡ j = omega arith in
    let more : i - j ≡ suc (i - suc j) = omega arith in
    let power : 10 ^ j * 10 ≡ 10 ^ suc j = omega arith in
    let tenth : n / 10 ^ j / 10 ≡ n / 10 ^ suc j = div-div-eq-div-mul n (10 ^ j) 10 ∙ ap (λ (m : ℕ). n / m) power in
    rw (same, more, tenth) refl

-- ---- a number's digits stand for it, so no two numbers print alike
last-digit : (m : ℕ) (ds : List ℕ) (d : ℕ) → value_from m (ds ++ (d ∷ [])) ≡ 10 * value_from m ds + (d - 0x30)
last-digit m [] d = refl
last-digit m (e ∷ ds) d = last-digit (10 * m + (e - 0x30)) ds d

reads-back : (k n : ℕ) → n < 10 ^ k → value_from 0 (digits k n) ≡ n
unfolding digits
reads-back zero n h = omega arith
reads-back (suc k) n h = by (ltb n 10) refl (reads-back k (n / 10) (omega arith))
  where
    by : (x : Bool) → ltb n 10 ≡ x → value_from 0 (digits k (n / 10)) ≡ n / 10 → value_from 0 (if x then (digit n ∷ []) else (digits k (n / 10) ++ (digit n ∷ []))) ≡ n
    by true e tenth = omega (arith, ltb-true n 10 e)
    by false e tenth = simp last-digit (omega (arith, tenth))

pub decimal-reads-back : (n : ℕ) → n < 2 ^ 64 → value_from 0 (decimal n) ≡ n
decimal-reads-back n h = reads-back 20 n (omega arith)

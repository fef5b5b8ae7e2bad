-- How long a number, a line and a last line are. Assumes nothing.
use Rattle.std.specs.Prelude.{if◌then◌else◌}
use native.Mathlib.Omega.{arith}
use Prim.Native.Nat.{ℕ, zero, suc, ◌/◌, ◌^◌, ◌≤◌, ◌<◌}
use mathlib.Core.Path.{◌≡◌, refl}
use mathlib.Core.Bool.{Bool, true, false}
use mathlib.Core.List.{[], ◌∷◌, ◌++◌}
use lib.Dec.{ltb}
use lib.ListN.{length, length-append}
use borrow.Author.Tests.{ltb-false}
use Rattle.events.specs.declared.answer.Numbers.{Numbers}
use Rattle.text.specs.Decimal.{digit, digits, last_digits}
use Rattle.text.specs.Lines.{field, line, done_line, bad_line}

-- a number below a power of ten has no more digits than its exponent
pub short : (k j n : ℕ) → n < 10 ^ suc j → length (digits k n) ≤ suc j
unfolding digits
short zero j n h = omega arith
short (suc k) j n h = by (ltb n 10) refl j h (λ i l. short k i (n / 10) l)
  where
    by : (x : Bool) → ltb n 10 ≡ x → (i : ℕ) → n < 10 ^ suc i → ((i : ℕ) → n / 10 < 10 ^ suc i → length (digits k (n / 10)) ≤ suc i) → length (if x then (digit n ∷ []) else (digits k (n / 10) ++ (digit n ∷ []))) ≤ suc i
    by true e i l tenth = omega arith
    by false e zero l tenth = absurd (omega (arith, ltb-false n 10 e))
    by false e (suc i) l tenth = simp length-append (omega (arith, tenth i (omega arith)))

-- digits are at most as many as their bound
pub at_most : (k n : ℕ) → length (digits k n) ≤ k
unfolding digits
at_most zero n = omega arith
at_most (suc k) n = by (ltb n 10) (at_most k (n / 10))
  where
    by : (x : Bool) → length (digits k (n / 10)) ≤ k → length (if x then (digit n ∷ []) else (digits k (n / 10) ++ (digit n ∷ []))) ≤ suc k
    by true tenth = omega arith
    by false tenth = simp length-append (omega arith)

pub last-length : (k n : ℕ) → length (last_digits k n) ≡ k
unfolding last_digits
last-length zero n = refl
last-length (suc k) n = simp length-append (omega (arith, last-length k (n / 10)))

pub field-at-most : (n after : ℕ) → length (field n after) ≤ 21
field-at-most n after = simp length-append (omega (arith, at_most 20 n))

-- A line: a record number of at most 5 digits, an answer of 1, two numbers of at most 20, three blanks and the line's end.
pub line-short : (number : ℕ) (a : Numbers) → number < 10 ^ 5 → a.answer < 10 → length (line number a) ≤ 50
unfolding line
line-short number a h k =
    simp length-append (omega (arith, short 20 4 number h, short 20 0 a.answer k, at_most 20 a.first, at_most 20 a.second))

-- A last line: "done", a blank, a count of at most 5 digits and the line's end.
pub done-short : (count : ℕ) → count < 10 ^ 5 → length (done_line count) ≤ 11
unfolding done_line
done-short count h = simp length-append (omega (arith, short 20 4 count h))

pub bad-short : (number : ℕ) → number < 10 ^ 5 → length (bad_line number) ≤ 11
unfolding bad_line
bad-short number h = simp length-append (omega (arith, short 20 4 number h))

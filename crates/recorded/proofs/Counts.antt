-- The count reported is that of the records whose lines are printed. Assumes nothing.
use Rattle.std.specs.Prelude.{if◌then◌else◌}
use native.Mathlib.Omega.{arith}
use Prim.Native.Nat.{ℕ, zero, suc, ◌+◌, ◌/◌}
use mathlib.Core.Path.{◌≡◌, refl, ap}
use mathlib.Core.Bool.{Bool, true, false}
use mathlib.Core.List.{List, [], ◌∷◌, ◌++◌}
use lib.Dec.{eqb, ltb}
use lib.ListN.{length}
use borrow.Author.Tests.{ne_eqb}
use Rattle.events.specs.declared.answer.Numbers.{Numbers}
use Rattle.text.specs.Decimal.{digit, digits}
use Rattle.text.specs.Lines.{line, done_line, bad_line, line_end}
use Rattle.recorded.specs.Session.{Session, begin, session_after, answers_to}
use Rattle.recorded.specs.Replay.{bodies, ends_bad, lines, last_line, text_from, is_trace, replay_text, replayed}
use Rattle.recorded.specs.Theorems.{line_ends, Counted}

-- a line for each body
pub answers-length : (s : Session) (bs : List (List ℕ)) → length (answers_to s bs) ≡ length bs
answers-length s [] = refl
answers-length s (b ∷ bs) = ap suc (answers-length (session_after s b) bs)

-- line ends add up; a number has none
ends-append : (xs ys : List ℕ) → line_ends (xs ++ ys) ≡ line_ends xs + line_ends ys
ends-append [] ys = omega arith
ends-append (x ∷ xs) ys = by (eqb x line_end) (ends-append xs ys)
  where
    by : (q : Bool) → line_ends (xs ++ ys) ≡ line_ends xs + line_ends ys → (if q then (1 + line_ends (xs ++ ys)) else line_ends (xs ++ ys)) ≡ (if q then (1 + line_ends xs) else line_ends xs) + line_ends ys
    by true e = omega arith
    by false e = e

no_end : (n : ℕ) → eqb (digit n) line_end ≡ false
no_end n = ne_eqb (digit n) line_end (λ e. omega arith)

digits-none : (k n : ℕ) → line_ends (digits k n) ≡ 0
unfolding digits
digits-none zero n = refl
digits-none (suc k) n = by (ltb n 10) (digits-none k (n / 10))
  where
    by : (q : Bool) → line_ends (digits k (n / 10)) ≡ 0 → line_ends (if q then (digit n ∷ []) else (digits k (n / 10) ++ (digit n ∷ []))) ≡ 0
    by true e = simp (no_end n)
    by false e = simp (ends-append, e, no_end n)

-- a line has one, its last character
line-ends : (number : ℕ) (a : Numbers) → line_ends (line number a) ≡ 1
unfolding line
line-ends number a = simp (ends-append, digits-none)

lines-ends : (n : ℕ) (ns : List Numbers) → line_ends (lines n ns) ≡ length ns
lines-ends n [] = refl
lines-ends n (a ∷ ns) = simp (ends-append, line-ends, lines-ends (n + 1) ns) (omega arith)

bad-ends : (number : ℕ) → line_ends (bad_line number) ≡ 1
unfolding bad_line
bad-ends number = simp (ends-append, digits-none)

last-ends : (bad : Bool) (count : ℕ) → line_ends (last_line bad count) ≡ 1
unfolding last_line done_line
last-ends true count = bad-ends (count + 1)
last-ends false count = simp (ends-append, digits-none)

from-none : (n : ℕ) → 0 + n ≡ n
from-none n = omega arith

pub replay-counted : (t : List ℕ) (limit : ℕ) → Counted t limit
unfolding replay_text replayed text_from
replay-counted t limit = record {
  text = λ e. simp e (ap (λ (m : ℕ). lines 0 (answers_to begin (bodies limit t 1)) ++ last_line (ends_bad limit t 1) m) (from-none (length (bodies limit t 1))));
  printed = answers-length begin (replayed t limit);
  ends = by (is_trace t);
}
  where
    by : (q : Bool) → line_ends (if q then text_from limit t 1 0 begin else bad_line 0) ≡ length (if q then bodies limit t 1 else []) + 1
    by true = simp (ends-append, lines-ends, last-ends, answers-length)
    by false = bad-ends 0

-- What the test of a field's place says in numbers. Assumes nothing.
use native.Mathlib.Omega.{arith}
use Prim.Native.Nat.{ℕ, ◌+◌, ◌-◌, ◌≤◌}
use mathlib.Core.Path.{◌≡◌, refl, sym}
use mathlib.Core.Bool.{Bool, true, false}
use mathlib.Core.List.{List}
use lib.Dec.{leb}
use lib.ListN.{length}
use borrow.Author.Tests.{leb-true, leb-false, le-leb, lt-leb, not-false}
use Rattle.trace.specs.Fields.{has}
use Rattle.trace.specs.Format.{length_at, cut_short}

-- the test by a difference is the test by a sum
pub shifted : (at n len : ℕ) → n ≤ len → leb at (len - n) ≡ leb (at + n) len
shifted at n len h = by (leb at (len - n)) refl
  where
    by : (x : Bool) → leb at (len - n) ≡ x → x ≡ leb (at + n) len
    by true e = sym (le-leb (at + n) len (omega (arith, leb-true at (len - n) e)))
    by false e = sym (lt-leb (at + n) len (omega (arith, leb-false at (len - n) e)))

pub has-whole : (b : List ℕ) (at n : ℕ) → has b at n ≡ true → at + n ≤ length b
has-whole b at n e = leb-true (at + n) (length b) e

-- a record that is not cut short stands whole in the trace
pub not-cut : (t : List ℕ) (place : ℕ) → cut_short t place ≡ false → place + (2 + length_at t place) ≤ length t
unfolding cut_short
not-cut t place e = has-whole t place (2 + length_at t place) (not-false _ e)

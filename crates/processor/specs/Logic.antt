-- What every page of the definitions uses: choice by a test, one bit and a field of bits of a number, the larger of two, lists of
-- tests and of numbers.
use Rattle.std.specs.Prelude.{ℕ, zero, suc, ◌+◌, ◌-◌, ◌/◌, ◌%◌, ◌^◌, Bool, true, false, ◌&&◌, ◌||◌, List, [], ◌∷◌, eqb, ltb, if◌then◌else◌}

-- bit k of n
abbrev pub bit : ℕ → ℕ → Bool
bit n k = eqb (n / 2 ^ k % 2) 1

-- bits high:low of n, as a number
abbrev pub bits : ℕ → ℕ → ℕ → ℕ
bits high low n = n / 2 ^ low % 2 ^ (high + 1 - low)

-- the larger of two numbers
unfoldable pub larger : ℕ → ℕ → ℕ
larger m n = if ltb m n then n else m

-- the number stands in the list
abbrev pub member : ℕ → List ℕ → Bool
member w [] = false
member w (v ∷ vs) = eqb v w || member w vs

-- the list without the elements at which the test passes
abbrev pub without : (ℕ → Bool) → List ℕ → List ℕ
without f [] = []
without f (x ∷ xs) = if f x then without f xs else (x ∷ without f xs)

-- the test passes at some element of the list
abbrev pub any : (ℕ → Bool) → List ℕ → Bool
any f [] = false
any f (x ∷ xs) = f x || any f xs

-- the test passes at every number below n
abbrev pub all_below : ℕ → (ℕ → Bool) → Bool
all_below zero f = true
all_below (suc n) f = f n && all_below n f

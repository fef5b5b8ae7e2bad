-- What clearing a descriptor leaves: filling its first bytes with 0 clears them one by one, whatever its length, and halving a byte
-- and doubling it again clears its bit 0. Assumes nothing.
use Rattle.std.proofs.Common.{◌≡◌, ◌∙◌, ℕ, zero, suc, ◌*◌, ◌/◌, false, List, [], ◌∷◌, ◌++◌, length, replicate, take, drop, set, min, refl, ap, arith}
use Rattle.registers.specs.Vectors.{put_bit}
use native.Mathlib.Numerals.{unary_clauses}
use Rattle.descriptor.specs.Descriptor.{cleared_below}

-- the first n bytes filled, as many as there are
abbrev filled : List ℕ → ℕ → List ℕ
filled d n = replicate (length (take n d)) 0 ++ drop n d

-- one byte more
more : (d : List ℕ) (k : ℕ) → filled d (suc k) ≡ set (filled d k) k 0
more [] zero = refl
more [] (suc k) = refl
more (x ∷ d) zero = refl
more (x ∷ d) (suc k) = ap (λ l. 0 ∷ l) (more d k)

bytewise : (d : List ℕ) (n : ℕ) → filled d n ≡ cleared_below d n
unfolding cleared_below
bytewise d zero = refl
bytewise d (suc k) = more d k ∙ ap (λ l. set l k 0) (bytewise d k)

-- those that there are
within : (d : List ℕ) (n : ℕ) → filled d (min (length d) n) ≡ filled d n
within [] zero = refl
within [] (suc n) = simp unary_clauses refl
within (x ∷ d) zero = simp unary_clauses refl
within (x ∷ d) (suc n) = simp unary_clauses (ap (λ l. 0 ∷ l) (within d n))

pub cleared-front : (d front : List ℕ) (n m : ℕ) → front ≡ replicate (length (take n d)) 0 → n ≡ min (length d) m → front ++ drop n d ≡ cleared_below d m
cleared-front d front n m f e = ap (λ l. l ++ drop n d) f ∙ ap (λ k. filled d k) e ∙ within d m ∙ bytewise d m

pub bit0-cleared : (byte : ℕ) → byte / 2 * 2 ≡ put_bit byte 0 false
bit0-cleared byte = grind arith

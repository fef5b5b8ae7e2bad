-- The search for the highest set place: a word's by its leading zeros, word by word down a row of 256 bits; the words of a register.
-- Assumes nothing.
use Rattle.std.specs.Prelude.{Option, Some, if◌then◌else◌}
use Prim.Native.Nat.{ℕ, zero, suc, ◌+◌, ◌-◌, ◌*◌, ◌/◌, ◌%◌, ◌^◌, ◌<◌, ◌≤◌}
use native.Mathlib.Nat.{not-suc-le-zero, le_refl, zero-add, add-zero, add-suc, mul_comm, sub-add_cancel, pow-succ', le-div_iff_mul-le, div-lt_iff_lt-mul}
use native.Mathlib.Omega.{arith}
use mathlib.Core.Path.{◌≡◌, refl, sym, ◌∙◌, ap}
use mathlib.Core.Bool.{Bool, true, false}
use mathlib.Core.List.{List}
use lib.Count.{count_leading_zeros, leading_unique}
use lib.Pow.{pow_pos}
use borrow.Author.Tests.{eqb-true, eqb-false, ne_eqb}
use Rattle.processor.specs.Logic.{bit}
use Rattle.page.specs.Page.{byte_at, word_at}
use Rattle.registers.specs.Vectors.{is_set, highest_of, highest_set, word_bits, found_at, Places, highest_bit}
use Rattle.registers.proofs.Top.{found-ext}
use Rattle.registers.proofs.Words.{vector-in-word}

-- ---- the highest set bit of a word, by its leading zeros
pub bit-most : (word n : ℕ) → highest_bit word n ≤ n
unfolding highest_bit
bit-most word zero = le_refl 0
bit-most word (suc k) = by (bit word k) (highest_bit word k) (bit-most word k)
  where
    by : (b : Bool) (t : ℕ) → t ≤ k → (if b then suc k else t) ≤ suc k
    by true t l = le_refl (suc k)
    by false t l = omega arith

-- m bits hold the word, and no fewer do
abbrev Length : ℕ → ℕ → Type 0
Length word m = (word < 2 ^ m) × (2 ^ m ≤ 2 * word + 1)

-- counted from 1, the highest set bit is the word's length
bit_length : (word n : ℕ) → word < 2 ^ n → Length word (highest_bit word n)
unfolding highest_bit
bit_length word zero h = (h, omega arith)
bit_length word (suc k) h = by (bit word k) refl (bit_length word k)
  where
    quotient : word / 2 ^ k < 2
    quotient = (div-lt_iff_lt-mul (pow_pos k)).1 (rw (sym (pow-succ' 2 k)) h)

    set : word / 2 ^ k % 2 ≡ 1 → 1 ≤ word / 2 ^ k
    set e = omega arith

    double : 1 * 2 ^ k ≤ word → 2 * 2 ^ k ≤ 2 * word + 1
    double l = omega arith

    clear : (word / 2 ^ k % 2 ≡ 1 → ⊥) → word / 2 ^ k < 2 → word / 2 ^ k < 1
    clear e l = omega arith

    below : word < 1 * 2 ^ k → word < 2 ^ k
    below l = omega arith

    by : (b : Bool) → bit word k ≡ b → (word < 2 ^ k → Length word (highest_bit word k)) → Length word (if b then suc k else highest_bit word k)
    by true e ih = (h, rw (pow-succ' 2 k) (double ((le-div_iff_mul-le (pow_pos k)).0 (set (eqb-true (word / 2 ^ k % 2) 1 e)))))
    by false e ih = ih (below ((div-lt_iff_lt-mul (pow_pos k)).0 (clear (eqb-false (word / 2 ^ k % 2) 1 e) quotient)))

-- so it is what the leading zeros leave of a word's n bits
pub leading-highest : (word n : ℕ) → word < 2 ^ n → n - count_leading_zeros n word ≡ highest_bit word n
leading-highest word n h =
    let length = bit_length word n h in
    rest (count_leading_zeros n word) (highest_bit word n) (bit-most word n)
    (leading_unique n word (n - highest_bit word n) (highest_bit word n) (sub-add_cancel (bit-most word n)) length.0 length.1)
  where
    rest : (zeros high : ℕ) → high ≤ n → n - high ≡ zeros → n - zeros ≡ high
    rest zeros high l e = omega arith

-- ---- down a row of 256 bits that stands in words, from word `left`
-- the search of m places and n more above them, by the highest of those n
abbrev after : (ℕ → Bool) → ℕ → ℕ → Option ℕ
after f m zero = highest_of f m
after f m (suc k) = Some (m + k)

block : (f : ℕ → Bool) (word m n : ℕ) → ((k : ℕ) → k < n → f (m + k) ≡ bit word k) → highest_of f (m + n) ≡ after f m (highest_bit word n)
unfolding highest_of highest_bit
block f word m zero h = ap (λ x. highest_of f x) (add-zero m)
block f word m (suc k) h = ap (λ x. highest_of f x) (add-suc m k) ∙ by (bit word k) (h k (le_refl (suc k))) (block f word m k (λ j l. h j (omega arith)))
  where
    by : (b : Bool) → f (m + k) ≡ b → highest_of f (m + k) ≡ after f m (highest_bit word k) → (if f (m + k) then Some (m + k) else highest_of f (m + k)) ≡ after f m (if b then suc k else highest_bit word k)
    by true e ih = simp e
    by false e ih = simp e ih

module _ (f : ℕ → Bool) (word left : ℕ) (at-bit : (k : ℕ) → k < 32 → f (32 * (left - 1) + k) ≡ bit word k) (some : 0 < left) (most : left ≤ 8) (rest : highest_of f 256 ≡ highest_of f (32 * left)) where
  by_word : highest_of f 256 ≡ after f (32 * (left - 1)) (highest_bit word 32)
  by_word = rest ∙ ap (λ x. highest_of f x) down ∙ block f word (32 * (left - 1)) 32 at-bit
    where
      down : 32 * left ≡ 32 * (left - 1) + 32
      down = omega arith

  pub word-found : (found : ℕ) → found ≡ highest_bit word 32 → 0 < found → Places f (32 * (left - 1) + found - 1)
  word-found zero e h = absurd (not-suc-le-zero h)
  word-found (suc k) e h = record { within = within (bit-most word 32); found = is-vector ∙ sym (by_word ∙ ap (λ x. after f (32 * (left - 1)) x) (sym e)) }
    where
      within : highest_bit word 32 ≤ 32 → 32 * (left - 1) + suc k - 1 ≤ 256
      within l = omega arith

      below : highest_bit word 32 ≤ 32 → 32 * (left - 1) + suc k - 1 ≡ 256 → ⊥
      below l q = omega arith

      place : 32 * (left - 1) + suc k - 1 ≡ 32 * (left - 1) + k
      place = omega arith

      is-vector : found_at (32 * (left - 1) + suc k - 1) ≡ Some (32 * (left - 1) + k)
      is-vector = simp (ne_eqb _ _ (below (bit-most word 32))) (ap (λ x. Some x) place)

  pub word_next : (found : ℕ) → found ≡ highest_bit word 32 → found ≤ 0 → highest_of f 256 ≡ highest_of f (32 * (left - 1))
  word_next zero e h = by_word ∙ ap (λ x. after f (32 * (left - 1)) x) (sym e)
  word_next (suc k) e h = absurd (not-suc-le-zero h)

-- after the last word nothing is left
pub words-over : (f : ℕ → Bool) (left : ℕ) → left ≤ 0 → highest_of f 256 ≡ highest_of f (32 * left) → Places f 256
unfolding highest_of
words-over f zero h e = record { within = le_refl 256; found = sym e }
words-over f (suc n) h e = absurd (not-suc-le-zero h)

-- ---- rows that stand in words
-- a bit of one of the words
pub row-bit : (p : List ℕ) (step left k : ℕ) → k < 32 → word_bits p step (32 * (left - 1) + k) ≡ bit (word_at p (step * (left - 1))) k
row-bit p step left k h = simp (row (left - 1) k h, column (left - 1) k h)
  where
    row : (a k : ℕ) → k < 32 → (32 * a + k) / 32 ≡ a
    row a k h = omega arith

    column : (a k : ℕ) → k < 32 → (32 * a + k) % 32 ≡ k
    column a k h = omega arith

-- a register that the slice starts with
pub register-words : (p : List ℕ) → ((i : ℕ) → byte_at p i < 256) → highest_of (word_bits p 16) 256 ≡ highest_set p 0
register-words p bytes = found-ext (word_bits p 16) (is_set p 0) 256 (λ v l. sym (vector-in-word p 0 v bytes ∙ ap (λ x. bit (word_at p x) (v % 32)) (zero-add (v / 32 * 16) ∙ mul_comm (v / 32) 16)))

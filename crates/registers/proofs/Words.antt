-- Document 01's own words for a vector's place: bit (v mod 32) of the word at the register's base + 16 × floor(v/32). The definitions
-- take that bit from its byte; here the two are shown to be one. Assumes nothing.
use Prim.Native.Nat.{ℕ, zero, suc, ◌+◌, ◌-◌, ◌*◌, ◌/◌, ◌%◌, ◌^◌, ◌<◌}
use native.Mathlib.Nat.{add_assoc, add-zero, mul_assoc, div-one, add-mul-div_left, add-mul-mod_self_left, div-div-eq-div-mul}
use native.Mathlib.Omega.{arith}
use mathlib.Core.Path.{◌≡◌, sym, ◌∙◌, ap}
use mathlib.Core.List.{List}
use lib.Dec.{eqb, eqb→eq}
use lib.Pow.{pow_pos}
use Rattle.processor.specs.Logic.{bit}
use Rattle.processor.proofs.Tests.{below}
use Rattle.page.specs.Page.{byte_at, word_at}
use Rattle.registers.specs.Vectors.{is_set}

-- a bit of the low byte, whatever lies above it
halves : (i : ℕ) → i < 8 → 256 ≡ 2 ^ i * (2 * 2 ^ (7 - i))
halves i h = eqb→eq 256 (2 ^ i * (2 * 2 ^ (7 - i))) (below 8 (λ i. eqb 256 (2 ^ i * (2 * 2 ^ (7 - i)))) tt i h)

pub low_bit : (b r i : ℕ) → i < 8 → bit (b + 256 * r) i ≡ bit b i
low_bit b r i h =
    ap (λ x. eqb (x % 2) 1)
    (ap (λ x. (b + x * r) / 2 ^ i) (halves i h)
    ∙ ap (λ x. (b + x) / 2 ^ i) (mul_assoc (2 ^ i) (2 * 2 ^ (7 - i)) r)
    ∙ add-mul-div_left b (2 * 2 ^ (7 - i) * r) (pow_pos i)
    ∙ ap (λ x. b / 2 ^ i + x) (mul_assoc 2 (2 ^ (7 - i)) r))
    ∙ ap (λ x. eqb x 1) (add-mul-mod_self_left (b / 2 ^ i) 2 (2 ^ (7 - i) * r))

-- a word's bit by its byte and the bit in it
places : (k : ℕ) → k < 32 → 2 ^ k ≡ 2 ^ (8 * (k / 8)) * 2 ^ (k % 8)
places k h = eqb→eq (2 ^ k) (2 ^ (8 * (k / 8)) * 2 ^ (k % 8)) (below 32 (λ k. eqb (2 ^ k) (2 ^ (8 * (k / 8)) * 2 ^ (k % 8))) tt k h)

-- the bytes of a word above byte j
abbrev above : List ℕ → ℕ → ℕ → ℕ
above p a j = word_at p a / 2 ^ (8 * j) / 256

module _ (p : List ℕ) (a : ℕ) (bytes : (i : ℕ) → byte_at p i < 256) where
  pub byte_of : (j : ℕ) → j < 4 → word_at p a / 2 ^ (8 * j) ≡ byte_at p (a + j) + 256 * above p a j
  unfolding word_at
  byte_of j h = by j h (bytes a) (bytes (a + 1)) (bytes (a + 2)) (bytes (a + 3))
    where
      digit : (b₀ b₁ b₂ b₃ : ℕ) → b₀ < 256 → b₁ < 256 → b₂ < 256 → b₃ < 256 → (b₀ + 0x100 * b₁ + 0x1_0000 * b₂ + 0x100_0000 * b₃) % 256 ≡ b₀
      digit b₀ b₁ b₂ b₃ h₀ h₁ h₂ h₃ = omega arith

      low : (x b : ℕ) → x % 256 ≡ b → x ≡ b + 256 * (x / 256)
      low x b e = omega arith

      by : (j : ℕ) → j < 4 → byte_at p a < 256 → byte_at p (a + 1) < 256 → byte_at p (a + 2) < 256 → byte_at p (a + 3) < 256 → word_at p a / 2 ^ (8 * j) ≡ byte_at p (a + j) + 256 * (word_at p a / 2 ^ (8 * j) / 256)
      by zero h h₀ h₁ h₂ h₃ = low (word_at p a / 1) (byte_at p (a + 0)) (rw (div-one, add-zero) (digit (byte_at p a) (byte_at p (a + 1)) (byte_at p (a + 2)) (byte_at p (a + 3)) h₀ h₁ h₂ h₃))
      by (suc zero) h h₀ h₁ h₂ h₃ = low (word_at p a / 0x100) (byte_at p (a + 1)) (omega arith)
      by (suc (suc zero)) h h₀ h₁ h₂ h₃ = low (word_at p a / 0x1_0000) (byte_at p (a + 2)) (omega arith)
      by (suc (suc (suc zero))) h h₀ h₁ h₂ h₃ = low (word_at p a / 0x100_0000) (byte_at p (a + 3)) (omega arith)
      by (suc (suc (suc (suc j)))) h h₀ h₁ h₂ h₃ = absurd (over h)
        where
          over : suc (suc (suc (suc j))) < 4 → ⊥
          over l = omega arith

  pub word-bit : (k : ℕ) → k < 32 → bit (word_at p a) k ≡ bit (byte_at p (a + k / 8)) (k % 8)
  word-bit k h =
      ap (λ x. eqb (word_at p a / x % 2) 1) (places k h)
      ∙ ap (λ x. eqb (x % 2) 1) (sym (div-div-eq-div-mul (word_at p a) (2 ^ (8 * (k / 8))) (2 ^ (k % 8))))
      ∙ ap (λ x. bit x (k % 8)) (byte_of (k / 8) (omega arith))
      ∙ low_bit (byte_at p (a + k / 8)) (above p a (k / 8)) (k % 8) (omega arith)

-- vector v is bit (v mod 32) of the word at base + 16 × floor(v/32)
pub vector-in-word : (p : List ℕ) (base v : ℕ) → ((i : ℕ) → byte_at p i < 256) → is_set p base v ≡ bit (word_at p (base + v / 32 * 16)) (v % 32)
unfolding is_set
vector-in-word p base v bytes =
    ap (λ x. bit (byte_at p x) (v % 8)) (sym (add_assoc base (v / 32 * 16) (v % 32 / 8)))
    ∙ ap (λ x. bit (byte_at p (base + v / 32 * 16 + v % 32 / 8)) x) same
    ∙ sym (word-bit p (base + v / 32 * 16) bytes (v % 32) (omega arith))
  where
    same : v % 8 ≡ v % 32 % 8
    same = omega arith

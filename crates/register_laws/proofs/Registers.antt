-- What setting or clearing one bit of a register does to every bit of it, and what a byte stored elsewhere does, over the register's
-- base. Assumes nothing.
use Rattle.std.specs.Prelude.{if◌then◌else◌}
use Prim.Native.Nat.{ℕ, ◌+◌, ◌*◌, ◌/◌, ◌%◌, ◌≤◌, ◌<◌}
use native.Mathlib.Omega.{arith}
use mathlib.Core.Path.{◌≡◌, refl, sym, ◌∙◌, ap}
use mathlib.Core.Bool.{Bool, true, false, beq}
use mathlib.Core.List.{List}
use lib.Dec.{eqb, ltb, ltb→lt}
use lib.ListN.{length, get_or, set}
use lib.Seq.{get_or-set_same, get_or-set_other}
use borrow.Author.Tests.{eqb-true, eqb-false, eq-eqb, ne_eqb}
use Rattle.processor.specs.Logic.{bit, all_below}
use Rattle.processor.proofs.Tests.{below, same}
use Rattle.page.specs.Page.{byte_at}
use Rattle.stores.specs.Stores.{set_byte}
use Rattle.registers.specs.Vectors.{vector_byte, put_bit, is_set, put, put_vector, highest}
use Rattle.setting.proofs.Bits.{at_byte, both, of-both}
use Rattle.registers.proofs.Top.{highest-top, highest-same, top-fewer, top_below}

-- one bit of a byte changed, read at each bit: on and off, computed at every byte and pair of bits
abbrev bit_test : ℕ → ℕ → ℕ → Bool → Bool
bit_test b k j on = beq (bit (put_bit b k on) j) (if eqb k j then on else bit b j)

pub bit-put : (b k j : ℕ) (on : Bool) → b < 256 → k < 8 → j < 8 → bit (put_bit b k on) j ≡ (if eqb k j then on else bit b j)
bit-put b k j on hb hk hj =
    same (bit (put_bit b k on) j) (if eqb k j then on else bit b j)
    (of-both (bit_test b k j) (below 8 (λ j. both (bit_test b k j)) (at_byte (λ b k. all_below 8 (λ j. both (bit_test b k j))) tt b k hb hk) j hj) on)

-- a byte with one bit changed is a byte
pub put_bit-byte : (b k : ℕ) (on : Bool) → b < 256 → k < 8 → put_bit b k on < 256
put_bit-byte b k on hb hk =
    ltb→lt (put_bit b k on) 256
    (of-both (λ on. ltb (put_bit b k on) 256) (at_byte (λ b k. both (λ on. ltb (put_bit b k on) 256)) tt b k hb hk) on)

-- a vector's byte lies within the register, and a vector has a byte and bit of its own
pub vector-within : (v : ℕ) → v < 256 → vector_byte v < 0x80
vector-within v h = omega arith

parts : (v : ℕ) → v ≡ v / 32 * 32 + v % 32 / 8 * 8 + v % 8
parts v = omega arith

third : (v : ℕ) → v % 32 / 8 < 4
third v = omega arith

digits : (a b a' b' : ℕ) → b < 4 → b' < 4 → a * 16 + b ≡ a' * 16 + b' → (a ≡ a') × (b ≡ b')
digits a b a' b' h h' e = (omega arith, omega arith)

own-place : (v w : ℕ) → vector_byte v ≡ vector_byte w → v % 8 ≡ w % 8 → v ≡ w
own-place v w e f =
    let d = digits (v / 32) (v % 32 / 8) (w / 32) (w % 32 / 8) (third v) (third w) e in
    parts v ∙ simp (d.0, d.1, f) (sym (parts w))

module _ (p : List ℕ) (base : ℕ) (fits : base + 0x80 ≤ length p) (bytes : (i : ℕ) → byte_at p i < 256) where
  -- every bit of the register after one is set or cleared
  pub is_set-put : (v : ℕ) (on : Bool) → v < 256 → (w : ℕ) → is_set (put_vector p base v on) base w ≡ put (is_set p base) v on w
  unfolding is_set put_vector
  is_set-put v on hv w = by_byte (eqb (vector_byte v) (vector_byte w)) refl
    where
      low : v % 8 < 8
      low = omega arith

      low' : w % 8 < 8
      low' = omega arith

      inside : vector_byte v < 0x80 → base + vector_byte v < length p
      inside l = omega arith

      -- the same byte: one bit of it is changed
      by_bit : vector_byte v ≡ vector_byte w → (t : Bool) → eqb (v % 8) (w % 8) ≡ t → (if t then on else bit (byte_at p (base + vector_byte v)) (w % 8)) ≡ (if eqb v w then on else bit (byte_at p (base + vector_byte w)) (w % 8))
      by_bit e true q = simp (eq-eqb v w (own-place v w e (eqb-true (v % 8) (w % 8) q)))
      by_bit e false q = simp (ne_eqb v w (λ s. eqb-false (v % 8) (w % 8) q (ap (λ x. x % 8) s)), e)

      changed : get_or (set p (base + vector_byte v) (put_bit (byte_at p (base + vector_byte v)) (v % 8) on)) (base + vector_byte v) 0 ≡ put_bit (byte_at p (base + vector_byte v)) (v % 8) on
      changed = get_or-set_same p (base + vector_byte v) (put_bit (byte_at p (base + vector_byte v)) (v % 8) on) 0 (inside (vector-within v hv))

      by_byte : (t : Bool) → eqb (vector_byte v) (vector_byte w) ≡ t → bit (get_or (set p (base + vector_byte v) (put_bit (byte_at p (base + vector_byte v)) (v % 8) on)) (base + vector_byte w) 0) (w % 8) ≡ (if eqb v w then on else bit (byte_at p (base + vector_byte w)) (w % 8))
      by_byte true e =
          ap (λ j. bit (get_or (set p (base + vector_byte v) (put_bit (byte_at p (base + vector_byte v)) (v % 8) on)) (base + j) 0) (w % 8)) (sym (eqb-true (vector_byte v) (vector_byte w) e))
          ∙ ap (λ x. bit x (w % 8)) changed
          ∙ bit-put (byte_at p (base + vector_byte v)) (v % 8) (w % 8) on (bytes (base + vector_byte v)) low low'
          ∙ by_bit (eqb-true (vector_byte v) (vector_byte w) e) (eqb (v % 8) (w % 8)) refl
      by_byte false e =
          ap (λ x. bit x (w % 8)) (get_or-set_other p (base + vector_byte v) (base + vector_byte w) (put_bit (byte_at p (base + vector_byte v)) (v % 8) on) 0 (λ s. eqb-false (vector_byte v) (vector_byte w) e (cancel s)))
          ∙ sym (simp (ne_eqb v w (λ s. eqb-false (vector_byte v) (vector_byte w) e (ap vector_byte s))))
        where
          cancel : base + vector_byte w ≡ base + vector_byte v → vector_byte v ≡ vector_byte w
          cancel s = omega arith

-- a byte stored outside the register's bytes changes no bit of it
pub is_set-other : (p : List ℕ) (base at x w : ℕ) → (base + vector_byte w ≡ at → ⊥) → is_set (set_byte p at x) base w ≡ is_set p base w
unfolding is_set
is_set-other p base at x w ne = ap (λ b. bit b (w % 8)) (get_or-set_other p at (base + vector_byte w) x 0 ne)

-- registers that agree bit by bit have one highest vector
pub highest-ext : (p q : List ℕ) (base : ℕ) → ((w : ℕ) → w < 256 → is_set p base w ≡ is_set q base w) → highest p base ≡ highest q base
highest-ext p q base h = highest-same p q base base h

-- a register with fewer bits has no higher vector
pub highest-fewer : (p q : List ℕ) (base : ℕ) → ((w : ℕ) → w < 256 → is_set q base w ≡ true → is_set p base w ≡ true) → highest q base ≤ highest p base
unfolding highest
highest-fewer p q base h = rw (highest-top q base 256, highest-top p base 256) (top-fewer (is_set p base) (is_set q base) 256 h)

-- the highest vector is a byte
pub highest-byte : (p : List ℕ) (base : ℕ) → highest p base < 256
unfolding highest
highest-byte p base = rw (highest-top p base 256) (top_below (is_set p base) 256 (omega arith))

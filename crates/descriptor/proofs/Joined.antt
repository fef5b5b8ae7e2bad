-- Posted bits that join VIRR: word by word it is the same as byte by byte, every vector of VIRR is then set that was set or is posted,
-- and no other byte of the page changes. Assumes nothing.
use Prim.Native.Nat.{ℕ, zero, suc, ◌+◌, ◌*◌, ◌/◌, ◌%◌, ◌^◌, ◌≤◌, ◌<◌, zero-le}
use native.Mathlib.Nat.{add-zero, div-one, add-mul-mod_self_left, le_refl}
use native.Mathlib.Omega.{arith}
use mathlib.Core.Path.{◌≡◌, refl, sym, ◌∙◌, ap, ap₂}
use mathlib.Core.Bool.{Bool, true, false, ◌&&◌, ◌||◌, beq}
use mathlib.Core.List.{List}
use lib.Bits.{bit_or, or_shr, or_mod}
use lib.Dec.{eqb, ltb, lit<}
use lib.ListN.{length, length-set}
use lib.Seq.{get_or-set_same, get_or-set_other}
use borrow.Author.Tests.{eqb-true, eqb-false, lt-ltb, ltb-true, ltb-false, le-ltb}
use Rattle.processor.specs.Logic.{bit, all_below}
use Rattle.processor.specs.Offsets.{virr}
use Rattle.processor.proofs.Tests.{below, same}
use Rattle.page.specs.Page.{byte_at, word_at}
use Rattle.stores.specs.Stores.{set_byte, set_word}
use Rattle.registers.specs.Vectors.{vector_byte, is_set}
use Rattle.registers.proofs.Bytes.{set-byte}
use Rattle.registers.proofs.Words.{low_bit, byte_of}
use Rattle.descriptor.specs.Descriptor.{posted, place_of, with_bits, joined_byte, joined_below, joined}

-- ---- the bits of two numbers, joined
either-bit : (x y : ℕ) → x < 2 → y < 2 → eqb (bit_or x y) 1 ≡ (eqb y 1 || eqb x 1)
either-bit x y hx hy =
    same (eqb (bit_or x y) 1) (eqb y 1 || eqb x 1)
    (below 2 (λ y. beq (eqb (bit_or x y) 1) (eqb y 1 || eqb x 1)) (below 2 (λ x. all_below 2 (λ y. beq (eqb (bit_or x y) 1) (eqb y 1 || eqb x 1))) tt x hx) y hy)

bit-or : (a b k : ℕ) → bit (bit_or a b) k ≡ (bit b k || bit a k)
bit-or a b k =
    ap (λ x. eqb (x % 2) 1) (or_shr a b k)
    ∙ ap (λ x. eqb x 1) (or_mod (a / 2 ^ k) (b / 2 ^ k) 1)
    ∙ either-bit (a / 2 ^ k % 2) (b / 2 ^ k % 2) (omega arith) (omega arith)

low_byte : (n k : ℕ) → k < 8 → bit (n % 0x100) k ≡ bit n k
low_byte n k h = sym (ap (λ x. bit x k) whole ∙ low_bit (n % 0x100) (n / 0x100) k h)
  where
    whole : n ≡ n % 0x100 + 256 * (n / 0x100)
    whole = omega arith

with-bit : (a b k : ℕ) → k < 8 → bit (with_bits a b) k ≡ (bit b k || bit a k)
with-bit a b k h = low_byte (bit_or a b) k h ∙ bit-or a b k

-- ---- word by word
module _ (q d : List ℕ) (j : ℕ) (page-bytes : (i : ℕ) → byte_at q i < 256) (bytes : (i : ℕ) → byte_at d i < 256) where
  abbrev at : ℕ
  at = virr + 16 * j

  abbrev both : ℕ
  both = bit_or (word_at q at) (word_at d (4 * j))

  -- a byte of a word
  digit : (p : List ℕ) (a i : ℕ) → ((i : ℕ) → byte_at p i < 256) → i < 4 → word_at p a / 2 ^ (8 * i) % 2 ^ 8 ≡ byte_at p (a + i) % 2 ^ 8
  digit p a i h l = ap (λ x. x % 0x100) (byte_of p a h i l) ∙ add-mul-mod_self_left (byte_at p (a + i)) 0x100 _

  digit-joined : (i : ℕ) → i < 4 → with_bits (byte_at q (at + i)) (byte_at d (4 * j + i)) ≡ both / 2 ^ (8 * i) % 0x100
  digit-joined i l =
      or_mod (byte_at q (at + i)) (byte_at d (4 * j + i)) 8
      ∙ ap₂ bit_or (sym (digit q at i page-bytes l)) (sym (digit d (4 * j) i bytes l))
      ∙ sym (or_mod (word_at q at / 2 ^ (8 * i)) (word_at d (4 * j) / 2 ^ (8 * i)) 8)
      ∙ ap (λ x. x % 0x100) (sym (or_shr (word_at q at) (word_at d (4 * j)) (8 * i)))

  place : (i k : ℕ) → i < 4 → k ≡ 4 * j + i → place_of k ≡ at + i
  place i k l e = omega arith

  -- byte i of the word, where the byte of VIRR is still as it was
  joins : (x : List ℕ) (i k : ℕ) → i < 4 → k ≡ 4 * j + i → byte_at x (at + i) ≡ byte_at q (at + i) → joined_byte x d k ≡ set_byte x (at + i) (both / 2 ^ (8 * i) % 0x100)
  joins x i k l e b =
      ap₂ (λ a m. set_byte x a (with_bits (byte_at x a) (byte_at d m))) (place i k l e) e
      ∙ ap (λ y. set_byte x (at + i) (with_bits y (byte_at d (4 * j + i)))) b
      ∙ ap (λ y. set_byte x (at + i) y) (digit-joined i l)

  apart : (m n : ℕ) → m < n → at + n ≡ at + m → ⊥
  apart m n l e = omega arith

  pub word-joined : joined_byte (joined_byte (joined_byte (joined_byte q d (4 * j)) d (suc (4 * j))) d (suc (suc (4 * j)))) d (suc (suc (suc (4 * j)))) ≡ set_word q at both
  unfolding set_word
  word-joined =
      ap (λ x. joined_byte (joined_byte (joined_byte x d (suc (4 * j))) d (suc (suc (4 * j)))) d (suc (suc (suc (4 * j))))) first
      ∙ ap (λ x. joined_byte (joined_byte x d (suc (suc (4 * j)))) d (suc (suc (suc (4 * j))))) (joins s₀ 1 (suc (4 * j)) (lit< tt) (omega arith) kept₁)
      ∙ ap (λ x. joined_byte x d (suc (suc (suc (4 * j))))) (joins s₁ 2 (suc (suc (4 * j))) (lit< tt) (omega arith) kept₂)
      ∙ joins s₂ 3 (suc (suc (suc (4 * j)))) (lit< tt) (omega arith) kept₃
    where
      s₀ : List ℕ
      s₀ = set_byte q at (both % 0x100)

      s₁ : List ℕ
      s₁ = set_byte s₀ (at + 1) (both / 0x100 % 0x100)

      s₂ : List ℕ
      s₂ = set_byte s₁ (at + 2) (both / 0x1_0000 % 0x100)

      first : joined_byte q d (4 * j) ≡ s₀
      first = joins q 0 (4 * j) (lit< tt) (omega arith) refl ∙ ap₂ (λ a x. set_byte q a (x % 0x100)) (add-zero at) (div-one both)

      front : (m n : ℕ) → 0 < n → at + n ≡ at → ⊥
      front m n l e = omega arith

      kept₁ : byte_at s₀ (at + 1) ≡ byte_at q (at + 1)
      kept₁ = get_or-set_other q at (at + 1) _ 0 (front 0 1 (lit< tt))

      kept₂ : byte_at s₁ (at + 2) ≡ byte_at q (at + 2)
      kept₂ = get_or-set_other s₀ (at + 1) (at + 2) _ 0 (apart 1 2 (lit< tt)) ∙ get_or-set_other q at (at + 2) _ 0 (front 0 2 (lit< tt))

      kept₃ : byte_at s₂ (at + 3) ≡ byte_at q (at + 3)
      kept₃ =
          get_or-set_other s₁ (at + 2) (at + 3) _ 0 (apart 2 3 (lit< tt))
          ∙ get_or-set_other s₀ (at + 1) (at + 3) _ 0 (apart 1 3 (lit< tt))
          ∙ get_or-set_other q at (at + 3) _ 0 (front 0 3 (lit< tt))

-- one word more
pub next_word : (p d : List ℕ) (j : ℕ) → ((i : ℕ) → byte_at (joined_below p d (4 * j)) i < 256) → ((i : ℕ) → byte_at d i < 256) → set_word (joined_below p d (4 * j)) (virr + 16 * j) (bit_or (word_at (joined_below p d (4 * j)) (virr + 16 * j)) (word_at d (4 * j))) ≡ joined_below p d (4 * (j + 1))
next_word p d j h b = sym (ap (λ n. joined_below p d n) four ∙ (unfold joined_below in word-joined (joined_below p d (4 * j)) d j h b))
  where
    four : 4 * (j + 1) ≡ suc (suc (suc (suc (4 * j))))
    four = omega arith

-- ---- what joins
abbrev size : ℕ
size = virr + 0x80

module _ (p d : List ℕ) where
  pub joined_length : (n : ℕ) → length (joined_below p d n) ≡ length p
  unfolding joined_below
  joined_length zero = refl
  joined_length (suc k) = length-set (joined_below p d k) (place_of k) _ ∙ joined_length k

  pub joined_bytes : (n : ℕ) → ((i : ℕ) → byte_at p i < 256) → (i : ℕ) → byte_at (joined_below p d n) i < 256
  unfolding joined_below
  joined_bytes zero h = h
  joined_bytes (suc k) h = set-byte (joined_below p d k) (place_of k) _ (joined_bytes k h) (omega arith)

  -- a byte that has no posted vector
  pub joined-other : (n i : ℕ) → ((k : ℕ) → k < n → i ≡ place_of k → ⊥) → byte_at (joined_below p d n) i ≡ byte_at p i
  unfolding joined_below
  joined-other zero i a = refl
  joined-other (suc k) i a = get_or-set_other (joined_below p d k) (place_of k) i _ 0 (a k (le_refl (suc k))) ∙ joined-other k i (λ m l. a m (omega arith))

-- a vector of VIRR after one byte has joined
module _ (q d : List ℕ) (k w : ℕ) (room : size ≤ length q) (few : k < 32) where
  own-byte : k ≡ w / 8 → place_of k ≡ virr + vector_byte w
  own-byte e = omega arith

  other_byte : (k ≡ w / 8 → ⊥) → virr + vector_byte w ≡ place_of k → ⊥
  other_byte n e = n (omega arith)

  pub byte-set : is_set (joined_byte q d k) virr w ≡ (eqb k (w / 8) && posted d w || is_set q virr w)
  unfolding is_set posted
  byte-set = by (eqb k (w / 8)) refl
    where
      inside : place_of k < length q
      inside = omega arith

      by : (b : Bool) → eqb k (w / 8) ≡ b → bit (byte_at (joined_byte q d k) (virr + vector_byte w)) (w % 8) ≡ (b && bit (byte_at d (w / 8)) (w % 8) || bit (byte_at q (virr + vector_byte w)) (w % 8))
      by true e =
          ap (λ i. bit (byte_at (joined_byte q d k) i) (w % 8)) (sym (own-byte (eqb-true k (w / 8) e)))
          ∙ ap (λ x. bit x (w % 8)) (get_or-set_same q (place_of k) _ 0 inside)
          ∙ with-bit (byte_at q (place_of k)) (byte_at d k) (w % 8) (omega arith)
          ∙ ap₂ (λ m i. bit (byte_at d m) (w % 8) || bit (byte_at q i) (w % 8)) (eqb-true k (w / 8) e) (own-byte (eqb-true k (w / 8) e))
      by false e = ap (λ x. bit x (w % 8)) (get_or-set_other q (place_of k) (virr + vector_byte w) _ 0 (other_byte (eqb-false k (w / 8) e)))

-- a byte more is below n + 1
more : (k m : ℕ) → ltb m (suc k) ≡ (eqb k m || ltb m k)
more k m = by (eqb k m) refl
  where
    by : (b : Bool) → eqb k m ≡ b → ltb m (suc k) ≡ (b || ltb m k)
    by true e = lt-ltb m (suc k) (up (eqb-true k m e))
      where
        up : k ≡ m → m < suc k
        up q = omega arith
    by false e = under (ltb m k) refl
      where
        under : (c : Bool) → ltb m k ≡ c → ltb m (suc k) ≡ c
        under true c = lt-ltb m (suc k) (up (ltb-true m k c))
          where
            up : m < k → m < suc k
            up q = omega arith
        under false c = le-ltb m (suc k) (over (eqb-false k m e) (ltb-false m k c))
          where
            over : (k ≡ m → ⊥) → k ≤ m → suc k ≤ m
            over n q = omega arith

module _ (p d : List ℕ) (room : size ≤ length p) where
  room-left : (n : ℕ) → size ≤ length (joined_below p d n)
  room-left n = rw (joined_length p d n) room

  below_set : (n w : ℕ) → n ≤ 32 → is_set (joined_below p d n) virr w ≡ (ltb (w / 8) n && posted d w || is_set p virr w)
  unfolding joined_below
  below_set zero w l = ap (λ x. x && posted d w || is_set p virr w) (sym (le-ltb (w / 8) 0 zero-le))
  below_set (suc k) w l =
      byte-set (joined_below p d k) d k w (room-left k) l
      ∙ ap (λ x. eqb k (w / 8) && posted d w || x) (below_set k w (omega arith))
      ∙ gather (eqb k (w / 8)) (ltb (w / 8) k) (posted d w) (is_set p virr w)
      ∙ ap (λ x. x && posted d w || is_set p virr w) (sym (more k (w / 8)))
    where
      gather : (a b x y : Bool) → (a && x || (b && x || y)) ≡ ((a || b) && x || y)
      gather true true true y = refl
      gather true true false y = refl
      gather true false true y = refl
      gather true false false y = refl
      gather false b x y = refl

  -- every vector: posted, or set before
  pub joined-set : (w : ℕ) → w < 256 → is_set (joined p d) virr w ≡ (posted d w || is_set p virr w)
  joined-set w h = below_set 32 w (le_refl 32) ∙ ap (λ x. x && posted d w || is_set p virr w) (lt-ltb (w / 8) 32 (omega arith))

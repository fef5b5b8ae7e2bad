-- A record stored in 48 bytes is read back and can be read, and another stored over it leaves nothing of it; under the controls that the
-- bytes hold, its other fields alone change any. Assumes nothing.
use Rattle.std.specs.Prelude.{if◌then◌else◌}
use Prim.Native.Nat.{ℕ, zero, suc, ◌+◌, ◌*◌, ◌/◌, ◌%◌, ◌^◌, ◌<◌}
use native.Mathlib.Nat.{div-div-eq-div-mul}
use native.Mathlib.Omega.{arith}
use mathlib.Core.Path.{◌≡◌, refl, sym, ap, subst}
use mathlib.Core.Bool.{Bool, true, false}
use mathlib.Core.List.{List, [], ◌∷◌}
use lib.Dec.{eqb, ltb}
use lib.ListN.{length, get_or}
use borrow.Author.Tests.{lt-ltb, ltb-true}
use Rattle.processor.specs.declared.controls.Record.{Record}
use Rattle.page.specs.Page.{word_of, word_at, long_at, word_within, long_within}
use Rattle.stores.specs.Stores.{set_half, set_word, set_long}
use Rattle.meaning.specs.Widths.{RecordFits}
use Rattle.layout.specs.RecordBytes.{controls_of, reserved_zero, record_readable, record_of}
use Rattle.keeping.specs.KeptBytes.{controls_bytes, truth_byte, status_bytes, record_bytes, kept, kept_status}

-- numbers put together again from their bytes
word-again : (x : ℕ) → x < 2 ^ 32 → word_of (x % 0x100) (x / 0x100 % 0x100) (x / 0x1_0000 % 0x100) (x / 0x100_0000 % 0x100) ≡ x
word-again x h = digits (x / 0x100) (x / 0x1_0000) (x / 0x100_0000) refl (sym (div-div-eq-div-mul x 0x100 0x100)) (sym (div-div-eq-div-mul x 0x1_0000 0x100))
  where
    digits : (a b c : ℕ) → a ≡ x / 0x100 → b ≡ a / 0x100 → c ≡ b / 0x100 → word_of (x % 0x100) (a % 0x100) (b % 0x100) (c % 0x100) ≡ x
    digits a b c e f g = omega arith

half-again : (x b c : ℕ) → x < 2 ^ 16 → word_of (x % 0x100) (x / 0x100 % 0x100) b c % 0x1_0000 ≡ x
half-again x b c h = omega arith

long-again : (x : ℕ) → x < 2 ^ 64 → word_of (x % 0x1_0000_0000 % 0x100) (x % 0x1_0000_0000 / 0x100 % 0x100) (x % 0x1_0000_0000 / 0x1_0000 % 0x100) (x % 0x1_0000_0000 / 0x100_0000 % 0x100) + 0x1_0000_0000 * word_of (x / 0x1_0000_0000 % 0x100) (x / 0x1_0000_0000 / 0x100 % 0x100) (x / 0x1_0000_0000 / 0x1_0000 % 0x100) (x / 0x1_0000_0000 / 0x100_0000 % 0x100) ≡ x
long-again x h = join (word-again (x % 0x1_0000_0000) low) (word-again (x / 0x1_0000_0000) high)
  where
    low : x % 0x1_0000_0000 < 2 ^ 32
    low = omega arith

    high : x / 0x1_0000_0000 < 2 ^ 32
    high = omega arith

    join : {a b : ℕ} → a ≡ x % 0x1_0000_0000 → b ≡ x / 0x1_0000_0000 → a + 0x1_0000_0000 * b ≡ x
    join e f = omega arith

-- a word's bytes in front of others, and a word put together of bytes taken apart again
abbrev word_bytes : ℕ → List ℕ → List ℕ
word_bytes x l = x % 0x100 ∷ x / 0x100 % 0x100 ∷ x / 0x1_0000 % 0x100 ∷ x / 0x100_0000 % 0x100 ∷ l

word-apart : {a b c d : ℕ} {l m : List ℕ} → a < 256 → b < 256 → c < 256 → d < 256 → l ≡ m → word_bytes (word_of a b c d) l ≡ a ∷ b ∷ c ∷ d ∷ m
word-apart {a} {b} {c} {d} ha hb hc hd e =
    let q₁ : word_of a b c d / 0x100 ≡ b + 0x100 * c + 0x1_0000 * d = omega arith in
    let q₂ : word_of a b c d / 0x1_0000 ≡ c + 0x100 * d = omega arith in
    let q₃ : word_of a b c d / 0x100_0000 ≡ d = omega arith in
    let b₀ : word_of a b c d % 0x100 ≡ a = omega arith in
    let b₁ : (b + 0x100 * c + 0x1_0000 * d) % 0x100 ≡ b = omega arith in
    let b₂ : (c + 0x100 * d) % 0x100 ≡ c = omega arith in
    let b₃ : d % 0x100 ≡ d = omega arith in
    cc

-- the same of a word's low half
half-apart : {a b : ℕ} (c d : ℕ) {l m : List ℕ} → a < 256 → b < 256 → l ≡ m → word_of a b c d % 0x1_0000 % 0x100 ∷ word_of a b c d % 0x1_0000 / 0x100 % 0x100 ∷ l ≡ a ∷ b ∷ m
half-apart {a} {b} c d ha hb e =
    let low : word_of a b c d % 0x1_0000 ≡ a + 0x100 * b = omega arith in
    let b₀ : (a + 0x100 * b) % 0x100 ≡ a = omega arith in
    let b₁ : (a + 0x100 * b) / 0x100 ≡ b = omega arith in
    let b₂ : b % 0x100 ≡ b = omega arith in
    cc

-- the same of eight bytes
long_apart : (x y : ℕ) {l m : List ℕ} → x < 2 ^ 32 → word_bytes x (word_bytes y l) ≡ m → word_bytes ((x + 0x1_0000_0000 * y) % 0x1_0000_0000) (word_bytes ((x + 0x1_0000_0000 * y) / 0x1_0000_0000) l) ≡ m
long_apart x y h e =
    let low : (x + 0x1_0000_0000 * y) % 0x1_0000_0000 ≡ x = omega arith in
    let high : (x + 0x1_0000_0000 * y) / 0x1_0000_0000 ≡ y = omega arith in
    simp (low, high) e

-- another low half leaves the high half 0
high_zero : (a b c d x : ℕ) → ltb (word_of a b c d) 0x1_0000 ≡ true → ltb (word_of (x % 0x100) (x / 0x100 % 0x100) c d) 0x1_0000 ≡ true
high_zero a b c d x e = lt-ltb _ _ (low (ltb-true (word_of a b c d) 0x1_0000 e))
  where
    low : word_of a b c d < 0x1_0000 → word_of (x % 0x100) (x / 0x100 % 0x100) c d < 0x1_0000
    low l = omega arith

truth-again : (on : Bool) → eqb (truth_byte on) 1 ≡ on
unfolding truth_byte
truth-again true = refl
truth-again false = refl

truth-small : (on : Bool) → ltb (truth_byte on) 2 ≡ true
unfolding truth_byte
truth-small true = refl
truth-small false = refl

-- a list is the list of its elements
abbrev elements : (ℕ → ℕ) → ℕ → List ℕ
elements f zero = []
elements f (suc n) = f 0 ∷ elements (λ i. f (suc i)) n

as-elements : (b : List ℕ) (n : ℕ) → length b ≡ n → b ≡ elements (λ i. get_or b i 0) n
as-elements [] zero e = refl
as-elements [] (suc n) e = absurd (none e)
  where
    none : 0 ≡ suc n → ⊥
    none e = omega arith
as-elements (x ∷ xs) zero e = absurd (some e)
  where
    some : suc (length xs) ≡ 0 → ⊥
    some e = omega arith
as-elements (x ∷ xs) (suc n) e = ap (λ l. x ∷ l) (as-elements xs n (less e))
  where
    less : suc (length xs) ≡ suc n → length xs ≡ n
    less e = omega arith

-- the same of 48 bytes given one by one
module _ (f : ℕ → ℕ) (r : Record) where
  abbrev bytes48 : List ℕ
  bytes48 = elements f 48

  length-stored : length (record_bytes bytes48 r) ≡ 48
  unfolding record_bytes controls_bytes set_half set_word set_long
  length-stored = refl

  read-elements : RecordFits r → record_of (record_bytes bytes48 r) ≡ r
  unfolding record_of record_bytes controls_of controls_bytes set_half set_word set_long word_at long_at word_within long_within
  read-elements h = simp (truth-again r.guest, truth-again r.recognised, word-again r.controls.flags h.controls.flags, word-again r.controls.threshold h.controls.threshold, half-again r.controls.notification (f 14) (f 15) h.controls.notification, long-again r.controls.eoi_exit_0 h.controls.eoi₀, long-again r.controls.eoi_exit_1 h.controls.eoi₁, long-again r.controls.eoi_exit_2 h.controls.eoi₂, long-again r.controls.eoi_exit_3 h.controls.eoi₃)

  readable-elements : reserved_zero bytes48 ≡ true → record_readable (record_bytes bytes48 r) ≡ true
  unfolding record_bytes controls_bytes set_half set_word set_long word_at word_within
  readable-elements z = simp (truth-small r.guest, truth-small r.recognised) (high_zero (f 12) (f 13) (f 14) (f 15) r.controls.notification z)

  over-elements : (s : Record) → record_bytes (record_bytes bytes48 r) s ≡ record_bytes bytes48 s
  unfolding record_bytes controls_bytes set_half set_word set_long
  over-elements s = refl

  -- a word and a long of the bytes
  abbrev word-at : ℕ → ℕ
  word-at k = word_of (f k) (f (k + 1)) (f (k + 2)) (f (k + 3))

  abbrev long-at : ℕ → ℕ
  long-at k = word-at k + 0x1_0000_0000 * word-at (k + 4)

  -- controls that the bytes hold are stored over themselves
  status-elements : ((i : ℕ) → f i < 256) → r.controls ≡ controls_of bytes48 → record_bytes bytes48 r ≡ status_bytes bytes48 r
  unfolding record_bytes controls_bytes controls_of set_half set_word set_long word_at long_at word_within long_within
  status-elements h e =
      rw e
      (ap (λ l. truth_byte r.guest ∷ r.rvi ∷ r.svi ∷ truth_byte r.recognised ∷ l)
      (word 4 (word 8 (half-apart (f 14) (f 15) (h 12) (h 13) (ap (λ l. f 14 ∷ f 15 ∷ l) (long 16 (long 24 (long 32 (long 40 refl)))))))))
    where
      word : (k : ℕ) {l m : List ℕ} → l ≡ m → word_bytes (word-at k) l ≡ f k ∷ f (k + 1) ∷ f (k + 2) ∷ f (k + 3) ∷ m
      word k q = word-apart (h k) (h (k + 1)) (h (k + 2)) (h (k + 3)) q

      fits : (k : ℕ) → word-at k < 2 ^ 32
      fits k = omega (arith, h k, h (k + 1), h (k + 2), h (k + 3))

      long : (k : ℕ) {l m : List ℕ} → l ≡ m → word_bytes (long-at k % 0x1_0000_0000) (word_bytes (long-at k / 0x1_0000_0000) l) ≡ f k ∷ f (k + 1) ∷ f (k + 2) ∷ f (k + 3) ∷ f (k + 4) ∷ f (k + 4 + 1) ∷ f (k + 4 + 2) ∷ f (k + 4 + 3) ∷ m
      long k q = long_apart (word-at k) (word-at (k + 4)) (fits k) (word k (word (k + 4) q))

module _ (b : List ℕ) (r : Record) (e : length b ≡ 48) where
  each : b ≡ elements (λ i. get_or b i 0) 48
  each = as-elements b 48 e

  -- the bytes are still 48
  pub stored-length : length (record_bytes b r) ≡ 48
  stored-length = subst (λ l. length (record_bytes l r) ≡ 48) (sym each) (length-stored (λ i. get_or b i 0) r)

  -- the record is read back
  pub read_back : RecordFits r → record_of (record_bytes b r) ≡ r
  read_back h = subst (λ l. record_of (record_bytes l r) ≡ r) (sym each) (read-elements (λ i. get_or b i 0) r h)

  -- and can be read, where the reserved bytes are 0
  pub stored-readable : reserved_zero b ≡ true → record_readable (record_bytes b r) ≡ true
  stored-readable z =
      subst (λ l. record_readable (record_bytes l r) ≡ true) (sym each)
      (readable-elements (λ i. get_or b i 0) r (subst (λ l. reserved_zero l ≡ true) each z))

  -- another record stored over it leaves nothing of it
  pub stored-over : (s : Record) → record_bytes (record_bytes b r) s ≡ record_bytes b s
  stored-over s = subst (λ l. record_bytes (record_bytes l r) s ≡ record_bytes l s) (sym each) (over-elements (λ i. get_or b i 0) r s)

  -- under the controls that the bytes hold, the record's other fields alone are stored
  pub stored-status : ((i : ℕ) → get_or b i 0 < 256) → r.controls ≡ controls_of b → record_bytes b r ≡ status_bytes b r
  stored-status h q =
      subst (λ l. r.controls ≡ controls_of l → record_bytes l r ≡ status_bytes l r) (sym each) (status-elements (λ i. get_or b i 0) r h) q

  -- so that an answer keeps the same bytes either way
  pub kept-status : ((i : ℕ) → get_or b i 0 < 256) → r.controls ≡ controls_of b → (answer : ℕ) → kept_status b answer r ≡ kept b answer r
  unfolding kept_status kept
  kept-status h q answer = by (ltb answer 4)
    where
      by : (x : Bool) → (if x then b else status_bytes b r) ≡ (if x then b else record_bytes b r)
      by true = refl
      by false = sym (stored-status h q)

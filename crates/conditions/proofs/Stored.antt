-- Bytes stored apart from VIRR, VISR and VPPR, as an access stores them before a procedure follows. Assumes nothing.
use Rattle.std.specs.Prelude.{if◌then◌else◌}
use Prim.Native.Nat.{ℕ, zero, suc, ◌+◌, ◌-◌, ◌/◌, ◌%◌, ◌≤◌, ◌<◌}
use native.Mathlib.Nat.{add-zero}
use native.Mathlib.Omega.{arith}
use mathlib.Core.Path.{◌≡◌, refl, sym, ◌∙◌, subst}
use mathlib.Core.Bool.{Bool, true, false, not, ◌&&◌, ◌||◌, true≢false}
use mathlib.Core.List.{List, [], ◌∷◌}
use lib.Dec.{T, eqb, leb, ltb, lit<}
use lib.ListN.{length, set}
use lib.Seq.{get_or-set_same, get_or-set_other}
use borrow.Author.Tests.{eqb-true, ltb-true, ltb-false, leb-true}
use Rattle.processor.specs.Logic.{all_below}
use Rattle.processor.specs.Controls.{apic_register_virtualization, virtual_delivery}
use Rattle.processor.specs.Offsets.{vtpr, vppr, veoi, visr, vicr_lo}
use Rattle.processor.specs.declared.controls.Controls.{Controls}
use Rattle.processor.proofs.Tests.{below, sure, and_left, and_right, left, right}
use Rattle.events.specs.Events.{size_in_bounds}
use Rattle.table.specs.Table.{write_registers, in_register, in_registers, open_tpr, open_delivery, open_write, open_offset}
use Rattle.accesses.specs.Accesses.{past_register}
use Rattle.page.specs.Page.{byte_at}
use Rattle.stores.specs.Stores.{set_byte, set_half, set_word, set_long}
use Rattle.sizes.specs.Sizes.{store_at}
use Rattle.meaning.specs.Memory.{clear_three}

-- the byte lies apart from both registers, and from VPPR's low byte
abbrev pub apart : ℕ → Bool
apart i = ltb i visr || leb 0x280 i

abbrev pub free : ℕ → Bool
free i = not (eqb i vppr) && apart i

-- q is p with bytes stored at free places
pub data Stored (p : List ℕ) : List ℕ → Type 0 where
  none : Stored p p
  byte : {q : List ℕ} (i x : ℕ) → free i ≡ true → x < 256 → Stored p q → Stored p (set_byte q i x)

-- n bytes from i on are free
abbrev pub frees : ℕ → ℕ → Bool
frees i n = all_below n (λ j. free (i + j))

free-at : (i n k : ℕ) → frees i n ≡ true → k < n → free (i + k) ≡ true
free-at i n k e h = sure (free (i + k)) (below n (λ j. free (i + j)) (subst T (sym e) tt) k h)

byte_of : (x : ℕ) → x % 0x100 < 256
byte_of x = omega arith

module _ (p : List ℕ) where
  first : {q : List ℕ} {x : ℕ} (i n : ℕ) → 0 < n → frees i n ≡ true → x < 256 → Stored p q → Stored p (set_byte q i x)
  first i n h e l k = byte _ _ (subst (λ j. free j ≡ true) (add-zero i) (free-at i n 0 e h)) l k

  pub stored-half : {q : List ℕ} (i x : ℕ) → frees i 2 ≡ true → Stored p q → Stored p (set_half q i x)
  unfolding set_half
  stored-half i x e k = byte _ _ (free-at i 2 1 e (lit< tt)) (byte_of (x / 0x100)) (first i 2 (lit< tt) e (byte_of x) k)

  pub stored-word : {q : List ℕ} (i x : ℕ) → frees i 4 ≡ true → Stored p q → Stored p (set_word q i x)
  unfolding set_word
  stored-word i x e k =
      byte _ _ (free-at i 4 3 e (lit< tt)) (byte_of (x / 0x100_0000))
      (byte _ _ (free-at i 4 2 e (lit< tt)) (byte_of (x / 0x1_0000)) (byte _ _ (free-at i 4 1 e (lit< tt)) (byte_of (x / 0x100)) (first i 4 (lit< tt) e (byte_of x) k)))

  pub stored-long : {q : List ℕ} (i x : ℕ) → frees i 4 ≡ true → frees (i + 4) 4 ≡ true → Stored p q → Stored p (set_long q i x)
  unfolding set_long
  stored-long i x e e' k = stored-word (i + 4) _ e' (stored-word i _ e k)

  pub stored-three : {q : List ℕ} (i : ℕ) → frees i 3 ≡ true → Stored p q → Stored p (clear_three q i)
  unfolding clear_three
  stored-three i e k = byte _ _ (free-at i 3 2 e (lit< tt)) (lit< tt) (byte _ _ (free-at i 3 1 e (lit< tt)) (lit< tt) (first i 3 (lit< tt) e (lit< tt) k))

-- ---- what is then read where it was stored
later : (i k : ℕ) → 0 < k → i ≡ i + k → ⊥
later i k l e = omega arith

-- the byte at which a half or a word is stored is its low byte
half-stored : (q : List ℕ) (i x : ℕ) → i < length q → byte_at (set_half q i x) i ≡ x % 0x100
unfolding set_half
half-stored q i x h = get_or-set_other (set q i (x % 0x100)) (i + 1) i _ 0 (later i 1 (lit< tt)) ∙ get_or-set_same q i (x % 0x100) 0 h

pub word-stored : (q : List ℕ) (i x : ℕ) → i < length q → byte_at (set_word q i x) i ≡ x % 0x100
unfolding set_word
word-stored q i x h =
    get_or-set_other (set (set (set q i (x % 0x100)) (i + 1) _) (i + 2) _) (i + 3) i _ 0 (later i 3 (lit< tt))
    ∙ get_or-set_other (set (set q i (x % 0x100)) (i + 1) _) (i + 2) i _ 0 (later i 2 (lit< tt))
    ∙ get_or-set_other (set q i (x % 0x100)) (i + 1) i _ 0 (later i 1 (lit< tt))
    ∙ get_or-set_same q i (x % 0x100) 0 h

-- cutting a value to its size keeps its low byte
narrow₂ : (x : ℕ) → x % 0x1_0000 % 0x100 ≡ x % 0x100
narrow₂ x = omega arith

narrow₄ : (x : ℕ) → x % 0x1_0000_0000 % 0x100 ≡ x % 0x100
narrow₄ x = omega arith

-- the byte at an offset after a write there is the value's low byte
module _ (p : List ℕ) (i size value : ℕ) (h : i < length p) where
  low_by : (a b d : Bool) → eqb size 1 ≡ a → eqb size 2 ≡ b → eqb size 4 ≡ d → (a || b || d || eqb size 8) ≡ true → eqb size 8 ≡ false → byte_at (store_at p i size value) i ≡ value % 0x100
  unfolding store_at
  low_by true b d e₁ e₂ e₄ s n = simp e₁ (get_or-set_same p i (value % 0x100) 0 h)
  low_by false true d e₁ e₂ e₄ s n = simp (e₁, e₂) (half-stored p i (value % 0x1_0000) h ∙ narrow₂ value)
  low_by false false true e₁ e₂ e₄ s n = simp (e₁, e₂, e₄) (word-stored p i (value % 0x1_0000_0000) h ∙ narrow₄ value)
  low_by false false false e₁ e₂ e₄ s n = absurd (true≢false (sym s ∙ n))

  pub low-stored : size_in_bounds size ≡ true → eqb size 8 ≡ false → byte_at (store_at p i size value) i ≡ value % 0x100
  low-stored s n = low_by (eqb size 1) (eqb size 2) (eqb size 4) refl refl refl s n

-- ---- a redirected write
-- a register starts at a multiple of 16, and its four bytes are free: one test over every register open to a write
abbrev free-register : ℕ → Bool
free-register r = eqb (r % 16) 0 && frees r 4

abbrev free-registers : List ℕ → Bool
free-registers [] = true
free-registers (r ∷ rs) = free-register r && free-registers rs

write-registers-free : T (free-registers write_registers)
write-registers-free = tt

-- so at an offset within it each byte of the register from it on is free
free_in : (r o k : ℕ) → T (free-register r) → r ≤ o → o < r + 4 → o % 16 + k < 4 → free (o + k) ≡ true
free_in r o k t a b h =
    subst (λ i. free i ≡ true) place
    (free-at r 4 (o - r + k) (sure (frees r 4) (and_right (eqb (r % 16) 0) _ t)) (small (eqb-true (r % 16) 0 (sure (eqb (r % 16) 0) (and_left (eqb (r % 16) 0) _ t)))))
  where
    small : r % 16 ≡ 0 → o - r + k < 4
    small e = omega arith

    place : r + (o - r + k) ≡ o + k
    place = omega arith

free-from : (rs : List ℕ) → T (free-registers rs) → (o k : ℕ) → in_registers rs o ≡ true → o % 16 + k < 4 → free (o + k) ≡ true
free-from [] t o k m h = absurd (true≢false (sym m))
free-from (r ∷ rs) t o k m h = by (λ q. free-from rs (and_right (free-register r) (free-registers rs) t) o k q h) (in_register o r) refl m
  where
    by : (in_registers rs o ≡ true → free (o + k) ≡ true) → (x : Bool) → in_register o r ≡ x → (x || in_registers rs o) ≡ true → free (o + k) ≡ true
    by rest true e q = free_in r o k (and_left (free-register r) (free-registers rs) t) (leb-true r o (left (leb r o) (ltb o (r + 4)) e)) (ltb-true o (r + 4) (right (leb r o) (ltb o (r + 4)) e)) h
    by rest false e q = rest q

-- an offset that is open to a write in some setting lies within a register of the list
listed : (o at : ℕ) → eqb o at ≡ true → open_write at ≡ true → open_write o ≡ true
listed o at e w = rw (eqb-true o at e) w

open-listed : (c : Controls) (o : ℕ) → open_offset c true o ≡ true → open_write o ≡ true
unfolding open_offset
open-listed c o e = by (apic_register_virtualization c) (virtual_delivery c) e
  where
    first_of : (x y z : Bool) → eqb o vtpr ≡ x → eqb o veoi ≡ y → eqb o vicr_lo ≡ z → (x || y || z) ≡ true → open_write o ≡ true
    first_of true y z a b d q = listed o vtpr a refl
    first_of false true z a b d q = listed o veoi b refl
    first_of false false true a b d q = listed o vicr_lo d refl
    first_of false false false a b d q = absurd (true≢false (sym q))

    by : (a d : Bool) → (if a then open_write o else (if d then open_delivery o else open_tpr o)) ≡ true → open_write o ≡ true
    by true d q = q
    by false true q = first_of (eqb o vtpr) (eqb o veoi) (eqb o vicr_lo) refl refl refl q
    by false false q = listed o vtpr q refl

module _ (p : List ℕ) (o size value : ℕ) (c : Controls) (e : open_offset c true o ≡ true) (past : past_register o size ≡ false) where
  -- each byte of the write is free
  at : (k : ℕ) → k < size → free (o + k) ≡ true
  at k h = free-from write_registers write-registers-free o k (open-listed c o e) (inside (ltb-false 4 (o % 16 + size) past))
    where
      inside : o % 16 + size ≤ 4 → o % 16 + k < 4
      inside l = omega arith

  frees-up-to : (n : ℕ) → n ≤ size → frees o n ≡ true
  frees-up-to zero l = refl
  frees-up-to (suc n) l = simp (at n l, frees-up-to n (omega arith))

  of_size : (n : ℕ) → eqb size n ≡ true → frees o n ≡ true
  of_size n q = frees-up-to n (up (eqb-true size n q))
    where
      up : size ≡ n → n ≤ size
      up q = omega arith

  by_size : (a b d : Bool) → eqb size 1 ≡ a → eqb size 2 ≡ b → eqb size 4 ≡ d → (a || b || d || eqb size 8) ≡ true → eqb size 8 ≡ false → Stored p (store_at p o size value)
  unfolding store_at
  by_size true b d e₁ e₂ e₄ s n = rw e₁ (first p o 1 (lit< tt) (of_size 1 e₁) (byte_of value) none)
  by_size false true d e₁ e₂ e₄ s n = simp (e₁, e₂) (stored-half p o _ (of_size 2 e₂) none)
  by_size false false true e₁ e₂ e₄ s n = simp (e₁, e₂, e₄) (stored-word p o _ (of_size 4 e₄) none)
  by_size false false false e₁ e₂ e₄ s n = absurd (true≢false (sym s ∙ n))

  pub stored-write : size_in_bounds size ≡ true → eqb size 8 ≡ false → Stored p (store_at p o size value)
  stored-write s n = by_size (eqb size 1) (eqb size 2) (eqb size 4) refl refl refl s n

-- Pages that agree in their request and service bits, and in VPPR too: bytes stored at free places keep that. Assumes nothing.
use Prim.Native.Nat.{ℕ, ◌+◌, ◌/◌, ◌%◌, ◌≤◌, ◌<◌}
use native.Mathlib.Omega.{arith}
use mathlib.Core.Path.{◌≡◌, refl, sym, ◌∙◌, ap, subst}
use mathlib.Core.Bool.{Bool, true, false, not, ◌||◌, true≢false}
use mathlib.Core.Logic.{◌⊎◌, inl, inr, ⊎_elim}
use mathlib.Core.List.{List}
use lib.Dec.{eqb, leb, ltb, lit<, lit≤}
use lib.ListN.{length, length-set}
use lib.Seq.{get_or-set_other}
use borrow.Author.Tests.{ltb-true, leb-true}
use Rattle.processor.proofs.Tests.{left, right}
use Rattle.processor.specs.Offsets.{vppr, visr, virr}
use Rattle.page.specs.Page.{byte_at, IsPage}
use Rattle.stores.specs.Stores.{set_byte, set_word}
use Rattle.registers.specs.Vectors.{vector_byte, is_set}
use Rattle.registers.proofs.Bytes.{set-byte}
use Rattle.register_laws.proofs.Registers.{is_set-other, vector-within}
use Rattle.conditions.proofs.Stored.{apart, free, Stored, none, byte, word-stored}

-- q is a page with the request and service bits of p
pub record Same (p q : List ℕ) : Type 0 where
  pub is_page : IsPage q
  pub request : (w : ℕ) → w < 256 → is_set q virr w ≡ is_set p virr w
  pub service : (w : ℕ) → w < 256 → is_set q visr w ≡ is_set p visr w

-- and with the VPPR of p
pub record Kept (p q : List ℕ) : Type 0 where
  pub same : Same p q
  pub vppr : byte_at q vppr ≡ byte_at p vppr

pub same_refl : (p : List ℕ) → IsPage p → Same p p
same_refl p g = record { is_page = g; request = λ w h. refl; service = λ w h. refl }

kept_refl : (p : List ℕ) → IsPage p → Kept p p
kept_refl p g = record { same = same_refl p g; vppr = refl }

-- a byte stored keeps a page a page
pub page-set : (p : List ℕ) (i x : ℕ) → IsPage p → x < 256 → IsPage (set_byte p i x)
page-set p i x g hx = record { size = length-set p i x ∙ g.size; bytes = set-byte p i x g.bytes hx }

either : (a b : Bool) → (a || b) ≡ true → (a ≡ true) ⊎ (b ≡ true)
either true b e = inl refl
either false b e = inr e

apart-is : (i : ℕ) → apart i ≡ true → (i < 0x100) ⊎ (0x280 ≤ i)
apart-is i e = ⊎_elim (λ t. inl (ltb-true i 0x100 t)) (λ t. inr (leb-true 0x280 i t)) (either (ltb i 0x100) (leb 0x280 i) e)

-- so it is no byte of a register that lies between 100 and 280
apart-register : (base i w : ℕ) → 0x100 ≤ base → base ≤ 0x200 → apart i ≡ true → w < 256 → base + vector_byte w ≡ i → ⊥
apart-register base i w l m e h q = ⊎_elim (λ a. low (vector-within w h) a) (λ a. high (vector-within w h) a) (apart-is i e)
  where
    low : vector_byte w < 0x80 → i < 0x100 → ⊥
    low a b = omega arith

    high : vector_byte w < 0x80 → 0x280 ≤ i → ⊥
    high a b = omega arith

same_set : (p q : List ℕ) (i x : ℕ) → Same p q → apart i ≡ true → x < 256 → Same p (set_byte q i x)
same_set p q i x s e hx = record {
  is_page = page-set q i x s.is_page hx;
  request = λ w h. is_set-other q virr i x w (apart-register virr i w (lit≤ tt) (lit≤ tt) e h) ∙ s.request w h;
  service = λ w h. is_set-other q visr i x w (apart-register visr i w (lit≤ tt) (lit≤ tt) e h) ∙ s.service w h;
}

other : (i : ℕ) → not (eqb i vppr) ≡ true → vppr ≡ i → ⊥
other i e q = true≢false (sym e ∙ ap (λ x. not (eqb x vppr)) (sym q))

kept_set : (p q : List ℕ) (i x : ℕ) → Kept p q → free i ≡ true → x < 256 → Kept p (set_byte q i x)
kept_set p q i x k e hx = record {
  same = same_set p q i x k.same (right (not (eqb i vppr)) (apart i) e) hx;
  vppr = get_or-set_other q i vppr x 0 (other i (left (not (eqb i vppr)) (apart i) e)) ∙ k.vppr;
}

-- bytes stored at free places keep bits and VPPR
pub kept : {p q : List ℕ} → IsPage p → Stored p q → Kept p q
kept g none = kept_refl _ g
kept g (byte i x e h s) = kept_set _ _ i x (kept g s) e h

byte_of : (x : ℕ) → x % 0x100 < 256
byte_of x = omega arith

-- a word stored at VPPR keeps the bits
pub same-vppr : (p q : List ℕ) (x : ℕ) → Same p q → Same p (set_word q vppr x)
unfolding set_word
same-vppr p q x s =
    same_set p _ (vppr + 3) _
    (same_set p _ (vppr + 2) _ (same_set p _ (vppr + 1) _ (same_set p q vppr _ s refl (byte_of x)) refl (byte_of (x / 0x100))) refl (byte_of (x / 0x1_0000)))
    refl (byte_of (x / 0x100_0000))

-- a page has every offset below 4096
pub within-page : (p : List ℕ) (i : ℕ) → IsPage p → i < 4096 → i < length p
within-page p i g h = subst (λ n. i < n) (sym g.size) h

pub vppr-stored : (q : List ℕ) (x : ℕ) → IsPage q → byte_at (set_word q vppr x) vppr ≡ x % 0x100
vppr-stored q x g = word-stored q vppr x (within-page q vppr g (lit< tt))

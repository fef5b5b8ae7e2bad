-- Condition 1 besides: a guest that leaves and is not refused has left, and where an external interrupt's answer is quiet no vector is posted
-- and no notification outstanding in the descriptor that it leaves. Assumes nothing.
use Rattle.std.specs.Prelude.{Ok, if◌then◌else◌}
use Prim.Native.Nat.{ℕ, zero, suc, ◌-◌, ◌/◌, ◌%◌, ◌^◌, ◌<◌}
use native.Mathlib.Nat.{not-suc-le-zero, zero-div}
use native.Mathlib.Omega.{arith}
use mathlib.Core.Path.{◌≡◌, refl, ◌∙◌, ap}
use mathlib.Core.Bool.{Bool, true, false}
use mathlib.Core.List.{List}
use lib.Dec.{eqb, ltb}
use lib.ListN.{length, set, get_or-eq_default}
use lib.Seq.{get_or-set_same, get_or-set_other, set_out}
use borrow.Author.Tests.{eqb-true, eqb-false, ltb-true, ltb-false}
use Rattle.processor.specs.Logic.{bit}
use Rattle.processor.specs.declared.controls.Record.{Record}
use Rattle.page.specs.Page.{byte_at}
use Rattle.registers.specs.Vectors.{put_bit}
use Rattle.descriptor.specs.Descriptor.{posted, outstanding_byte, cleared_below, cleared}
use Rattle.meaning.specs.Input.{external, leaves}
use Rattle.meaning.specs.After.{After}
use Rattle.meaning.specs.Leave.{left}
use Rattle.meaning.specs.Refusals.{refusal_of}
use Rattle.meaning.specs.Step.{carried_out, step_by, step, descriptor_after}
use Rattle.meaning.proofs.Refused.{no-refusal}
use Rattle.conditions.specs.Condition1.{DescriptorLeft}
use Rattle.conditions.specs.Bits.{Outside, LeavesOutside, NonePosted}
use Rattle.conditions.proofs.Condition1.{external-answered}

-- ---- a guest that leaves
module _ (p : List ℕ) (r : Record) where
  has-left : refusal_of p r leaves ≡ Ok tt → Outside p r (step p r leaves)
  unfolding step step_by carried_out left
  has-left e = simp e (record { answer = refl; root = refl; unrecognised = refl; page = refl; rvi = refl; svi = refl; controls = refl })

  pub leaves-outside : LeavesOutside p r (step p r leaves)
  leaves-outside = record { outside = λ f m. has-left (no-refusal p r leaves refl refl f m refl) }

-- ---- what a posting leaves of the descriptor
-- a byte stored, read again: 0 where the list ends before it
stored_here : (l : List ℕ) (k x : ℕ) → byte_at (set l k x) k ≡ (if ltb k (length l) then x else 0)
stored_here l k x = by (ltb k (length l)) refl
  where
    by : (b : Bool) → ltb k (length l) ≡ b → byte_at (set l k x) k ≡ (if b then x else 0)
    by true e = get_or-set_same l k x 0 (ltb-true k (length l) e)
    by false e = ap (λ (m : List ℕ). byte_at m k) (set_out l k x (ltb-false k (length l) e)) ∙ get_or-eq_default l 0 (ltb-false k (length l) e)

-- a cleared byte, within the list or past its end
cleared-zero : (d : List ℕ) (n i : ℕ) → i < n → byte_at (cleared_below d n) i ≡ 0
unfolding cleared_below
cleared-zero d zero i l = absurd (not-suc-le-zero l)
cleared-zero d (suc k) i l = by (eqb i k) refl (cleared-zero d k i)
  where
    either : (b : Bool) (x : ℕ) → (if b then x else x) ≡ x
    either true x = refl
    either false x = refl

    lower : (i ≡ k → ⊥) → i < k
    lower ne = omega arith

    by : (b : Bool) → eqb i k ≡ b → (i < k → byte_at (cleared_below d k) i ≡ 0) → byte_at (set (cleared_below d k) k 0) i ≡ 0
    by true e h =
        ap (λ j. byte_at (set (cleared_below d k) k 0) j) (eqb-true i k e) ∙ stored_here (cleared_below d k) k 0
        ∙ either (ltb k (length (cleared_below d k))) 0
    by false e h = get_or-set_other (cleared_below d k) k i 0 0 (eqb-false i k e) ∙ h (lower (eqb-false i k e))

bit-of-zero : (k : ℕ) → bit 0 k ≡ false
bit-of-zero k = ap (λ n. eqb (n % 2) 1) (zero-div (2 ^ k))

module _ (d : List ℕ) where
  -- every posted bit is off, and the outstanding bit is
  pub none-posted : (v : ℕ) → v < 256 → posted (cleared d) v ≡ false
  unfolding posted cleared
  none-posted v h =
      ap (λ b. bit b (v % 8)) (get_or-set_other (cleared_below d 32) outstanding_byte (v / 8) _ 0 other ∙ cleared-zero d 32 (v / 8) below)
      ∙ bit-of-zero (v % 8)
    where
      below : v / 8 < 32
      below = omega arith

      other : v / 8 ≡ outstanding_byte → ⊥
      other e = omega arith

  put-off : (b : ℕ) → bit (put_bit b 0 false) 0 ≡ false
  put-off b = by (bit b 0) refl
    where
      by : (x : Bool) → bit b 0 ≡ x → bit (put_bit b 0 false) 0 ≡ false
      by true e = simp e (ap (λ n. eqb n 1) (even (eqb-true (b / 1 % 2) 1 e)))
        where
          even : b / 1 % 2 ≡ 1 → (b - 1) / 1 % 2 ≡ 0
          even q = omega arith
      by false e = simp e

  pub not-outstanding : bit (byte_at (cleared d) outstanding_byte) 0 ≡ false
  unfolding cleared
  not-outstanding =
      ap (λ b. bit b 0) (stored_here (cleared_below d 32) outstanding_byte _)
      ∙ by (ltb outstanding_byte (length (cleared_below d 32)))
    where
      by : (x : Bool) → bit (if x then put_bit (byte_at d outstanding_byte) 0 false else 0) 0 ≡ false
      by true = put-off (byte_at d outstanding_byte)
      by false = refl

-- a descriptor of which the outstanding bit and the posted bits are cleared
none-left : {d : List ℕ} {a : After} {d' : List ℕ} → DescriptorLeft d a d' → NonePosted a d'
none-left {d} l = record {
  unposted = λ t v h. ap (λ b. posted b v) (l.taken t) ∙ none-posted d v h;
  not_outstanding = λ t. ap (λ b. bit (byte_at b outstanding_byte) 0) (l.taken t) ∙ not-outstanding d;
}

pub none-posted-left : (p : List ℕ) (r : Record) (d : List ℕ) (vector : ℕ) → NonePosted (step p r (external d vector)) (descriptor_after p r d vector)
none-posted-left p r d vector = none-left (external-answered p r d vector).descriptor

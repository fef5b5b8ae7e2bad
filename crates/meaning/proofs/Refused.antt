-- The ordered list of refusals read both ways: which refusal follows from which test, and that an input with none has passed them all.
-- Assumes nothing.
use Prim.Native.Nat.{ℕ}
use native.Mathlib.Omega.{arith}
use mathlib.Core.Path.{◌≡◌, refl, sym, ◌∙◌}
use mathlib.Core.Bool.{Bool, true, false}
use mathlib.Core.List.{List}
use lib.Dec.{eqb}
use Rattle.processor.specs.declared.controls.Record.{Record}
use Rattle.std.specs.Prelude.{⊤, Result, Ok, Err}
use Rattle.events.specs.declared.answer.Refusal.{Refusal}
use Rattle.events.specs.declared.answer.Refusal.TheVariants.{PageLength, DescriptorLength, Bounds, Mode, EntryCheck}
use Rattle.meaning.specs.Input.{Input}
use Rattle.meaning.specs.Refusals.{page_fits, lent_fits, fields_fit, mode_fits, check_of, refusal_of}

-- an input that gets no refusal has passed every test
pub record Passed (p : List ℕ) (r : Record) (i : Input) : Type 0 where
  pub page : page_fits p i ≡ true
  pub lent : lent_fits i ≡ true
  pub fields : fields_fit r i ≡ true
  pub mode : mode_fits r i ≡ true
  pub check : eqb (check_of p i) 0 ≡ true

not_ok : (refusal : Refusal) → ◌≡◌ {A = Result ⊤ Refusal} (Err refusal) (Ok tt) → ⊥
not_ok refusal e = let z : ◌≡◌ {A = ℕ} 0 1 = cc in omega arith

module _ (p : List ℕ) (r : Record) (i : Input) where
  pub refusal-1 : page_fits p i ≡ false → refusal_of p r i ≡ Err PageLength
  unfolding refusal_of
  refusal-1 l = simp l

  pub refusal-5 : page_fits p i ≡ true → lent_fits i ≡ false → refusal_of p r i ≡ Err DescriptorLength
  unfolding refusal_of
  refusal-5 l d = simp (l, d)

  pub refusal-2 : page_fits p i ≡ true → lent_fits i ≡ true → fields_fit r i ≡ false → refusal_of p r i ≡ Err Bounds
  unfolding refusal_of
  refusal-2 l d f = simp (l, d, f)

  pub refusal-3 : page_fits p i ≡ true → lent_fits i ≡ true → fields_fit r i ≡ true → mode_fits r i ≡ false → refusal_of p r i ≡ Err Mode
  unfolding refusal_of
  refusal-3 l d f m = simp (l, d, f, m)

  pub refusal-4 : page_fits p i ≡ true → lent_fits i ≡ true → fields_fit r i ≡ true → mode_fits r i ≡ true → eqb (check_of p i) 0 ≡ false → refusal_of p r i ≡ Err (EntryCheck (check_of p i))
  unfolding refusal_of
  refusal-4 l d f m n = simp (l, d, f, m, n)

  pub no-refusal : page_fits p i ≡ true → lent_fits i ≡ true → fields_fit r i ≡ true → mode_fits r i ≡ true → eqb (check_of p i) 0 ≡ true → refusal_of p r i ≡ Ok tt
  unfolding refusal_of
  no-refusal l d f m n = simp (l, d, f, m, n)

  pub passed : refusal_of p r i ≡ Ok tt → Passed p r i
  passed e = by (page_fits p i) (lent_fits i) (fields_fit r i) (mode_fits r i) (eqb (check_of p i) 0) refl refl refl refl refl
    where
      by : (x v y z w : Bool) → page_fits p i ≡ x → lent_fits i ≡ v → fields_fit r i ≡ y → mode_fits r i ≡ z → eqb (check_of p i) 0 ≡ w → Passed p r i
      by false v y z w l d f m n = absurd (not_ok PageLength (sym (refusal-1 l) ∙ e))
      by true false y z w l d f m n = absurd (not_ok DescriptorLength (sym (refusal-5 l d) ∙ e))
      by true true false z w l d f m n = absurd (not_ok Bounds (sym (refusal-2 l d f) ∙ e))
      by true true true false w l d f m n = absurd (not_ok Mode (sym (refusal-3 l d f m) ∙ e))
      by true true true true false l d f m n = absurd (not_ok (EntryCheck (check_of p i)) (sym (refusal-4 l d f m n) ∙ e))
      by true true true true true l d f m n = record { page = l; lent = d; fields = f; mode = m; check = n }

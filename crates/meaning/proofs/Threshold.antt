-- E2 of document 02, of every page, record and entry: shadow on, VID off and a threshold above VTPR's class keep the guest out. Where the
-- other tests pass, control 1 decides between check 6 and exit 43. Assumes nothing.
use Rattle.std.specs.Prelude.{if◌then◌else◌}
use Prim.Native.Nat.{ℕ}
use mathlib.Core.Path.{◌≡◌, refl, sym, ◌∙◌}
use mathlib.Core.Bool.{Bool, true, false, true≢false}
use mathlib.Core.List.{List}
use lib.Dec.{eqb}
use lib.ListN.{length}
use Rattle.processor.specs.Controls.{virtualize_apic_accesses, with_controls}
use Rattle.processor.specs.Offsets.{vtpr}
use Rattle.processor.specs.declared.controls.Controls.{Controls}
use Rattle.processor.specs.declared.controls.Record.{Record}
use Rattle.events.specs.Events.{in_bounds, allowed}
use Rattle.events.specs.declared.answer.Refusal.{Refusal}
use Rattle.std.specs.Prelude.{⊤, Result, Ok, Err}
use Rattle.events.specs.declared.event.Event.TheVariants.{Entry}
use Rattle.page.specs.Page.{byte_at}
use Rattle.rules.specs.EntryChecks.{check1, check2, check3, check4, check5, threshold_too_high, check6, failing_check}
use Rattle.meaning.specs.Input.{Input, given}
use Rattle.meaning.specs.After.{exit, refused}
use Rattle.meaning.specs.Entry.{entry}
use Rattle.meaning.specs.Refusals.{refusal_of}
use Rattle.meaning.specs.Step.{event_out, carried_out, step_by, step}
use Rattle.meaning.proofs.Refused.{passed}

-- where check 6 fails, a check fails
some-check : (c : Controls) (v : ℕ) → check6 c v ≡ true → eqb (failing_check c v) 0 ≡ false
unfolding failing_check
some-check c v e = by (check1 c) (check2 c) (check3 c) (check4 c) (check5 c)
  where
    by : (u w x y z : Bool) → eqb (if u then 1 else (if w then 2 else (if x then 3 else (if y then 4 else (if z then 5 else (if check6 c v then 6 else 0)))))) 0 ≡ false
    by true w x y z = refl
    by false true x y z = refl
    by false false true y z = refl
    by false false false true z = refl
    by false false false false true = refl
    by false false false false false = simp e

-- where checks 1 to 5 pass, check 6 is what is left
last-check : (c : Controls) (v : ℕ) → check1 c ≡ false → check2 c ≡ false → check3 c ≡ false → check4 c ≡ false → check5 c ≡ false → failing_check c v ≡ (if check6 c v then 6 else 0)
unfolding failing_check
last-check c v e1 e2 e3 e4 e5 = simp (e1, e2, e3, e4, e5)

module _ (p : List ℕ) (r : Record) (c : Controls) (h : threshold_too_high c (byte_at p vtpr) ≡ true) where
  abbrev here : Input
  here = given (Entry c)

  -- every other test passed: control 1 decides
  pub too-high : eqb (length p) 4096 ≡ true → in_bounds r (Entry c) ≡ true → allowed r (Entry c) ≡ true → check1 c ≡ false → check2 c ≡ false → check3 c ≡ false → check4 c ≡ false → check5 c ≡ false → step p r here ≡ (if virtualize_apic_accesses c then exit 43 0 p (with_controls r c) else refused 4 6 p r)
  unfolding step step_by carried_out event_out entry refusal_of
  too-high l f m e1 e2 e3 e4 e5 = by (virtualize_apic_accesses c) refl
    where
      by : (x : Bool) → virtualize_apic_accesses c ≡ x → step p r here ≡ (if virtualize_apic_accesses c then exit 43 0 p (with_controls r c) else refused 4 6 p r)
      by true e = simp (l, f, m, last-check c (byte_at p vtpr) e1 e2 e3 e4 e5, h, e)
      by false e = simp (l, f, m, last-check c (byte_at p vtpr) e1 e2 e3 e4 e5, h, e)

  -- refused or not, the guest stays out
  pub kept_out : r.guest ≡ false → (step p r here).state.guest ≡ false
  unfolding step step_by carried_out event_out entry
  kept_out g = by (refusal_of p r here) refl
    where
      entered : (x : Bool) → virtualize_apic_accesses c ≡ x → refusal_of p r here ≡ Ok tt → (step p r here).state.guest ≡ false
      entered true a e = simp (e, a, h)
      entered false a e = absurd (true≢false (sym (passed p r here e).check ∙ some-check c (byte_at p vtpr) (simp (a, h))))

      by : (x : Result ⊤ Refusal) → refusal_of p r here ≡ x → (step p r here).state.guest ≡ false
      by (Ok passed) e = entered (virtualize_apic_accesses c) refl e
      by (Err refusal) e = simp e g

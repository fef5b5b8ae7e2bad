-- A boundary that does not matter is quiet and changes nothing, so that it can be left out; one that matters exits 7 or delivers.
-- Assumes nothing.
use Rattle.std.specs.Prelude.{if◌then◌else◌}
use Prim.Native.Nat.{ℕ}
use mathlib.Core.Path.{◌≡◌, refl, ◌∙◌}
use mathlib.Core.Bool.{Bool, true, false, ◌&&◌, ◌||◌, true≢false, false≢true}
use mathlib.Core.Logic.{◌⊎◌, inl, inr}
use mathlib.Core.List.{List}
use Rattle.processor.specs.Access.{between}
use Rattle.processor.specs.Controls.{interrupt_window_exiting}
use Rattle.processor.specs.declared.controls.Record.{Record}
use Rattle.events.specs.Answers.{numbers}
use Rattle.events.specs.declared.answer.Numbers.{Numbers}
use Rattle.std.specs.Prelude.{Ok}
use Rattle.events.specs.declared.event.Event.TheVariants.{Boundary}
use Rattle.priorities.specs.Priorities.{open_boundary}
use Rattle.meaning.specs.Input.{Input, given}
use Rattle.meaning.specs.After.{exit, quiet}
use Rattle.meaning.specs.Boundary.{delivery, boundary_at, boundary, matters}
use Rattle.meaning.specs.Refusals.{refusal_of}
use Rattle.meaning.specs.Step.{event_out, carried_out, step_by, step}

-- an exit 7, or the delivery of RVI
abbrev pub Acts : Record → Numbers → Type 0
Acts r n = (n ≡ numbers 4 7 0) ⊎ (n ≡ numbers 5 r.rvi 0)

module _ (p : List ℕ) (r : Record) (interrupts sti movSs : Bool) (activity : ℕ) where
  abbrev here : Input
  here = given (Boundary (between interrupts sti movSs activity))

  quiet-closed : (o w c : Bool) → (o && (w || c)) ≡ false → (if o && w then exit 7 0 p r else (if o && c then delivery p r else quiet p r)) ≡ quiet p r
  quiet-closed true true c e = absurd (true≢false e)
  quiet-closed true false true e = absurd (true≢false e)
  quiet-closed true false false e = refl
  quiet-closed false w c e = refl

  acts-open : (o w c : Bool) → (o && (w || c)) ≡ true → Acts r (if o && w then exit 7 0 p r else (if o && c then delivery p r else quiet p r)).answer
  unfolding delivery
  acts-open true true c e = inl refl
  acts-open true false true e = inr refl
  acts-open true false false e = absurd (false≢true e)
  acts-open false w c e = absurd (false≢true e)

  stepped : refusal_of p r here ≡ Ok tt → step p r here ≡ boundary_at (open_boundary interrupts sti movSs activity) p r
  unfolding step step_by carried_out event_out boundary
  stepped e = simp e

  pub left_out : refusal_of p r here ≡ Ok tt → matters r interrupts sti movSs activity ≡ false → step p r here ≡ quiet p r
  unfolding boundary_at
  left_out e m = stepped e ∙ quiet-closed (open_boundary interrupts sti movSs activity) (interrupt_window_exiting r.controls) r.recognised m

  pub acts : refusal_of p r here ≡ Ok tt → matters r interrupts sti movSs activity ≡ true → Acts r (step p r here).answer
  unfolding boundary_at
  acts e m = rw (stepped e) (acts-open (open_boundary interrupts sti movSs activity) (interrupt_window_exiting r.controls) r.recognised m)

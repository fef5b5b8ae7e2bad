-- An event's step from its refusal: what carries the event out where there is none, or the refusal. Assumes nothing.
use Prim.Native.Nat.{ℕ}
use mathlib.Core.Path.{◌≡◌}
use mathlib.Core.List.{List}
use Rattle.processor.specs.declared.controls.Record.{Record}
use Rattle.events.specs.declared.answer.Outcome.{Outcome}
use Rattle.std.specs.Prelude.{Ok, Err}
use Rattle.events.specs.declared.answer.Refusal.{Refusal}
use Rattle.events.specs.Answers.{refusal_number, refusal_check}
use Rattle.events.specs.declared.event.Event.{Event}
use Rattle.meaning.specs.Input.{given}
use Rattle.meaning.specs.After.{Leaves, refused}
use Rattle.meaning.specs.Refusals.{refusal_of}
use Rattle.meaning.specs.Step.{event_out, carried_out, step_by, step}

module _ (p : List ℕ) (r : Record) (e : Event) (o : Outcome) where
  pub carried : (p' : List ℕ) → refusal_of p r (given e) ≡ Ok tt → Leaves (event_out p r e) o p' → Leaves (step p r (given e)) o p'
  unfolding step step_by carried_out
  carried p' n l = simp n l

  pub refused_by : (refusal : Refusal) → refusal_of p r (given e) ≡ Err refusal → Leaves (refused (refusal_number refusal) (refusal_check refusal) p r) o p → Leaves (step p r (given e)) o p
  unfolding step step_by
  refused_by refusal n l = simp n l

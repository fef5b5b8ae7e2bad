-- A model as a parameter: what an input leaves of a page and a record. Runs and bench rows over it, in the shape of Run.antt and
-- Bench.antt of meaning.
use Rattle.std.specs.Prelude.{ℕ, Bool, true, ◌&&◌, List, [], ◌∷◌}
use Rattle.processor.specs.declared.controls.Record.{Record}
use Rattle.events.specs.declared.answer.Numbers.{Numbers}
use Rattle.meaning.specs.Input.{Input}
use Rattle.meaning.specs.After.{After}
use Rattle.meaning.specs.Run.{Held, start, held_after}
use Rattle.meaning.specs.Bench.{Deed, inputs, ppr_alone, End, done, Row, end_holds}
use Rattle.conditions.specs.History.{in_service}

abbrev pub Model : Type 0
Model = List ℕ → Record → Input → After

-- what one input leaves of what was held
abbrev pub left_by : Model → Held → Input → After
left_by m h i = m h.page h.state i

-- page and record handed on from input to input
abbrev pub run_by : Model → Held → List Input → Held
run_by m h [] = h
run_by m h (i ∷ is) = run_by m (held_after (left_by m h i)) is

-- the answers of a run, in order
abbrev pub answers_by : Model → Held → List Input → List Numbers
answers_by m h [] = []
answers_by m h (i ∷ is) = (left_by m h i).answer ∷ answers_by m (held_after (left_by m h i)) is

-- the vectors delivered and not yet retired, after a run from the start, read off the inputs and answers alone
abbrev pub serving_by : Model → List Input → List ℕ
serving_by m is = in_service [] is (answers_by m start is)

-- what a row's deed leaves; PPR virtualization alone is no input
abbrev pub done_by : Model → Held → Deed → End
done_by m h (inputs is) = record { answers = answers_by m h is; held = run_by m h is }
done_by m h ppr_alone = done h ppr_alone

-- the row holds of the model
unfoldable pub row_holds_by : Model → Row → Bool
row_holds_by m row = end_holds (done_by m row.begin row.deed) row

abbrev pub rows_hold_by : Model → List Row → Bool
rows_hold_by m [] = true
rows_hold_by m (row ∷ rows) = row_holds_by m row && rows_hold_by m rows

-- Conditions 2 and 3 of the tender, of any model.
use Rattle.std.specs.Prelude.{ℕ, ◌<◌, ◌≤◌, ◌≡◌, true, List}
use Rattle.processor.specs.Offsets.{visr}
use Rattle.processor.specs.declared.controls.Record.{Record}
use Rattle.registers.specs.Vectors.{is_set}
use Rattle.meaning.specs.Input.{Input}
use Rattle.meaning.specs.After.{After}
use Rattle.meaning.specs.Step.{step}
use Rattle.meaning.specs.Run.{Held, start}
use Rattle.conditions.specs.History.{all_on}
use Rattle.conditions.specs.Moves.{retires, move_of, is_delivered}
use Rattle.conditions.specs.Condition3.{Highest, Recognition, Served, Rising, retired, AtMost15}
use Rattle.wrong_models.specs.Models.{Model, left_by, run_by, serving_by}

-- Condition 2: on every page, record and input the answer and everything held afterwards are those of the build rules.
pub record Condition2 (m : Model) : Type 0 where
  pub same : (p : List ℕ) (r : Record) (i : Input) → m p r i ≡ step p r i

-- Sentences of condition 3 of an input i that leaves a, where vs are in service.
abbrev pub RetiresBy : List ℕ → Held → Input → After → Type 0
RetiresBy vs h i a =
    move_of i a.answer ≡ retires → (w : ℕ) → w < 256 → is_set a.page visr w ≡ retired vs (is_set h.page visr) w

abbrev pub KeepsBy : Held → Input → After → Type 0
KeepsBy h i a =
    (move_of i a.answer ≡ retires → ⊥) → (w : ℕ) → w < 256 → is_set h.page visr w ≡ true → is_set a.page visr w ≡ true

abbrev pub Delivers16By : After → Type 0
Delivers16By a = is_delivered a.answer ≡ true → 16 ≤ a.answer.first

-- every sentence of condition 3, of what the model then holds, with the vectors vs delivered and not yet retired
pub record Sentences (m : Model) (vs : List ℕ) (h : Held) : Type 0 where
  pub highest : Highest h
  pub recognition : Recognition h
  pub served : Served vs h
  pub rising : Rising vs
  pub retires : (i : Input) → RetiresBy vs h i (left_by m h i)
  pub keeps : (i : Input) → KeepsBy h i (left_by m h i)
  pub at_most15 : AtMost15 h
  pub delivers16 : (i : Input) → Delivers16By (left_by m h i)

-- Condition 3: after every run from the start whose entries have virtual-interrupt delivery on.
abbrev pub Condition3 : Model → Type 0
Condition3 m = (is : List Input) → all_on is ≡ true → Sentences m (serving_by m is) (run_by m start is)

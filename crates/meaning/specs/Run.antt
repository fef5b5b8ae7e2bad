-- A run over a list of inputs, each input's page and record handed on to the next, refused ones included.
use Rattle.std.specs.Prelude.{ℕ, List, [], ◌∷◌, replicate}
use Rattle.processor.specs.Controls.{fresh}
use Rattle.processor.specs.declared.controls.Record.{Record}
use Rattle.events.specs.declared.answer.Numbers.{Numbers}
use Rattle.meaning.specs.Input.{Input}
use Rattle.meaning.specs.After.{After}
use Rattle.meaning.specs.Step.{step}

-- the page and the record that a run hands on
pub record Held : Type 0 where
  pub page : List ℕ
  pub state : Record

-- Fresh: page zero.
abbrev pub zero_page : List ℕ
zero_page = replicate 4096 0

-- outside the guest, zero page and zero status
abbrev pub start : Held
start = record { page = zero_page; state = fresh }

-- what one input leaves of what was held
abbrev pub step_of : Held → Input → After
step_of h i = step h.page h.state i

abbrev pub held_after : After → Held
held_after a = record { page = a.page; state = a.state }

-- the same pair handed on from input to input
abbrev pub after : Held → List Input → Held
after h [] = h
after h (i ∷ is) = after (held_after (step_of h i)) is

-- the answers of a run, in order
abbrev pub answers : Held → List Input → List Numbers
answers h [] = []
answers h (i ∷ is) = (step_of h i).answer ∷ answers (held_after (step_of h i)) is

-- Document 02, E5: what one record of a trace answers and leaves.
use Rattle.std.specs.Prelude.{ℕ, List, [], ◌∷◌, if◌then◌else◌}
use Rattle.processor.specs.Controls.{no_controls}
use Rattle.processor.specs.declared.controls.Controls.{Controls}
use Rattle.events.specs.declared.answer.Numbers.{Numbers}
use Rattle.events.specs.Answers.{numbers}
use Rattle.meaning.specs.Input.{Input, given}
use Rattle.meaning.specs.Run.{Held, start, step_of, held_after}
use Rattle.trace.specs.Records.{is_controls, controls_of, event_of}

-- the page and the record that a run hands on, and the controls for later entries
pub record Session : Type 0 where
  pub held : Held
  pub controls : Controls

-- A zero page and a fresh record; before the first kind 0, all controls are zero.
abbrev pub begin : Session
begin = record { held = start; controls = no_controls }

-- the input that a body of another kind than 0 is
abbrev pub input_of : Session → List ℕ → Input
input_of s b = given (event_of s.controls b)

-- Kind 0 is quiet in either mode; every other record answers as its event.
unfoldable pub answer_to : Session → List ℕ → Numbers
answer_to s b = if is_controls b then numbers 6 0 0 else (step_of s.held (input_of s b)).answer

-- Kind 0 gives the controls for later entries and nothing else; every other record leaves what its event leaves.
unfoldable pub session_after : Session → List ℕ → Session
session_after s b =
    if is_controls b then record { held = s.held; controls = controls_of b }
    else record { held = held_after (step_of s.held (input_of s b)); controls = s.controls }

-- the answers to bodies, in order, and what is held after them
abbrev pub answers_to : Session → List (List ℕ) → List Numbers
answers_to s [] = []
answers_to s (b ∷ bs) = answer_to s b ∷ answers_to (session_after s b) bs

abbrev pub session_end : Session → List (List ℕ) → Session
session_end s [] = s
session_end s (b ∷ bs) = session_end (session_after s b) bs

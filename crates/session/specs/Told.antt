-- What a record of a trace tells and leaves: the page beside what is held of the processor.
use Rattle.std.specs.Prelude.{ℕ, ◌<◌, ◌≡◌, List}
use Rattle.processor.specs.Controls.{no_controls, fresh}
use Rattle.events.specs.Answers.{numbers}
use Rattle.events.specs.declared.event.Event.TheVariants.{Entry}
use Rattle.meaning.specs.Input.{given}
use Rattle.meaning.specs.Run.{step_of, held_after}
use Rattle.trace.specs.Records.{controls_of}
use Rattle.recorded.specs.Session.{Session, answer_to, session_after}
use Rattle.session.specs.declared.State.{State}
use Rattle.session.specs.declared.Told.{Told}

abbrev pub session_of : List ℕ → State → Session
session_of p s = record { held = record { page = p; state = s.«record» }; controls = s.controls }

pub record Begins (s : State) : Type 0 where
  pub state : s.«record» ≡ fresh
  pub controls : s.controls ≡ no_controls

-- kind 0
pub record ControlsTold (s : State) (b : List ℕ) (r : Told) : Type 0 where
  pub answer : r.numbers ≡ numbers 6 0 0
  pub state : r.state.«record» ≡ s.«record»
  pub controls : r.state.controls ≡ controls_of b

-- kind 1
pub record EntryTold (p : List ℕ) (s : State) (r : Told) (p' : List ℕ) : Type 0 where
  pub answer : r.numbers ≡ (step_of (record { page = p; state = s.«record» }) (given (Entry s.controls))).answer
  pub held : record { page = p'; state = r.state.«record» } ≡ held_after (step_of (record { page = p; state = s.«record» }) (given (Entry s.controls)))
  pub controls : r.state.controls ≡ s.controls
  pub small : r.numbers.answer < 10

-- The answer, page and state are the definition's; an answer's number has one digit.
pub record Tells (s : Session) (b : List ℕ) (r : Told) (p : List ℕ) : Type 0 where
  pub answer : r.numbers ≡ answer_to s b
  pub session : session_of p r.state ≡ session_after s b
  pub small : r.numbers.answer < 10

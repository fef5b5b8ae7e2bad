-- What an input leaves: the answer's numbers, the record and the page. Document 01, "What comes back".
use Rattle.std.specs.Prelude.{ℕ, ◌≡◌, List}
use Rattle.events.specs.declared.answer.Numbers.{Numbers}
use Rattle.events.specs.Answers.{numbers, numbers_of}
use Rattle.processor.specs.Controls.{outside}
use Rattle.processor.specs.declared.controls.Record.{Record}
use Rattle.events.specs.declared.answer.Outcome.{Outcome}

-- the answer's numbers, the record and the page afterwards
pub record After : Type 0 where
  pub answer : Numbers
  pub state : Record
  pub page : List ℕ

abbrev ending : Numbers → List ℕ → Record → After
ending n p r = record { answer = n; state = r; page = p }

-- refused: page and record unchanged
abbrev pub refused : ℕ → ℕ → List ℕ → Record → After
refused number check p r = ending (numbers 0 number check) p r

-- Passthrough, fault and redirected reads change nothing either.
abbrev pub redirected : ℕ → List ℕ → Record → After
redirected value p r = ending (numbers 1 value 0) p r

abbrev pub passthrough : List ℕ → Record → After
passthrough p r = ending (numbers 2 0 0) p r

abbrev pub fault : List ℕ → Record → After
fault p r = ending (numbers 3 0 0) p r

-- Every exit sets root mode and recognition off; writes made before it stay.
abbrev pub exit : ℕ → ℕ → List ℕ → Record → After
exit reason qualification p r = ending (numbers 4 reason qualification) p (outside r)

abbrev pub delivered : ℕ → List ℕ → Record → After
delivered vector p r = ending (numbers 5 vector 0) p r

abbrev pub quiet : List ℕ → Record → After
quiet p r = ending (numbers 6 0 0) p r

-- The claim of every function that carries out an input: its answer's numbers, its record and the page are the definition's.
pub record Leaves (a : After) (r : Outcome) (p : List ℕ) : Type 0 where
  pub answer : numbers_of r.answer ≡ a.answer
  pub state : r.«record» ≡ a.state
  pub page : p ≡ a.page

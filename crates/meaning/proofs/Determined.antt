-- Two outcomes that meet one claim are equal, and so are their pages. Assumes nothing.
use Prim.Native.Nat.{ℕ}
use mathlib.Core.Path.{◌≡◌, sym, ◌∙◌, ap}
use mathlib.Core.List.{List}
use Rattle.events.specs.declared.answer.Answer.{Answer}
use Rattle.events.specs.declared.answer.Outcome.{Outcome}
use Rattle.processor.specs.declared.controls.Record.{Record}
use Rattle.events.proofs.Answers.{numbers_of-one-to-one}
use Rattle.meaning.specs.After.{After, Leaves}

outcome : Answer → Record → Outcome
outcome a s = record { answer = a; «record» = s }

same_outcome : (r r' : Outcome) → r.answer ≡ r'.answer → r.«record» ≡ r'.«record» → r ≡ r'
unfolding outcome
same_outcome r r' e f = ap (λ a. outcome a r.«record») e ∙ ap (λ s. outcome r'.answer s) f

pub determined : (a : After) (r r' : Outcome) (p p' : List ℕ) → Leaves a r p → Leaves a r' p' → (r ≡ r') × (p ≡ p')
determined a r r' p p' l l' = (
  same_outcome r r' (numbers_of-one-to-one r.answer r'.answer (l.answer ∙ sym l'.answer)) (l.state ∙ sym l'.state),
  l.page ∙ sym l'.page,
)

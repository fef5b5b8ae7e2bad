-- An answer's numbers are one to one: an answer is read back from them. Assumes nothing.
use Rattle.std.specs.Prelude.{if◌then◌else◌}
use mathlib.Core.Path.{◌≡◌, refl, sym, ◌∙◌, ap}
use lib.Dec.{eqb}
use Rattle.events.specs.declared.answer.Numbers.{Numbers}
use Rattle.events.specs.Answers.{numbers_of}
use Rattle.events.specs.declared.answer.Answer.{Answer}
use Rattle.events.specs.declared.answer.Answer.TheVariants.{Refused, Redirected, Passthrough, Fault, Exit, Delivered, Quiet}

abbrev answer_of : Numbers → Answer
answer_of n =
    if eqb n.answer 0 then Refused n.first n.second
    else if eqb n.answer 1 then Redirected n.first
    else if eqb n.answer 2 then Passthrough
    else if eqb n.answer 3 then Fault
    else if eqb n.answer 4 then Exit n.first n.second
    else if eqb n.answer 5 then Delivered n.first
    else Quiet

back : (a : Answer) → answer_of (numbers_of a) ≡ a
back (Refused number check) = refl
back (Redirected value) = refl
back Passthrough = refl
back Fault = refl
back (Exit reason qualification) = refl
back (Delivered vector) = refl
back Quiet = refl

pub numbers_of-one-to-one : (a b : Answer) → numbers_of a ≡ numbers_of b → a ≡ b
numbers_of-one-to-one a b e = sym (back a) ∙ ap answer_of e ∙ back b

-- `model::leave` meets its contract: the refusal, or what carries leaving out. Assumes nothing.
use mathlib.Core.Path.{sym, ◌∙◌}
use Rattle.meaning.specs.Step.{carried_out, step_by, step}
use Rattle.model.proofs.leave.Goals as goal

pub returns-in-Ok : goal.returns-in-Ok
unfolding step step_by carried_out
returns-in-Ok c p = simp (sym (c.leave_refusal_of-refusal.ensures p) ∙ c.in-Ok.is) (c.left.ensures p)

pub returns-in-Err : goal.returns-in-Err
unfolding step step_by
returns-in-Err c p = simp (sym (c.leave_refusal_of-refusal.ensures p) ∙ c.in-Err.is) (c.refused.ensures p)

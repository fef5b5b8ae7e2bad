-- `model::external_interrupt` meets its contract: its refusal, or what carries it out. Assumes nothing.
use mathlib.Core.Path.{refl, sym, ◌∙◌}
use Rattle.meaning.specs.External.{descriptor_by}
use Rattle.meaning.specs.Step.{step_by, step, descriptor_after}
use Rattle.model.proofs.external_interrupt.Goals as goal

pub returns-in-Err : goal.returns-in-Err
unfolding step step_by descriptor_after descriptor_by
returns-in-Err c =
    simp (sym c.external_refusal_of-refusal.ensures ∙ c.in-Err.is) (record { outcome = c.refused.ensures _; descriptor = refl })

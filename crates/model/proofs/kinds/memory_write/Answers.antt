-- `model::kinds::memory_write` meets its contract: its refusal, or what carries it out. Assumes nothing.
use mathlib.Core.Path.{sym, ◌∙◌}
use Rattle.events.specs.Events.{event_in_bounds, root_only, allowed}
use Rattle.meaning.specs.Refusals.{refusal_of}
use Rattle.model.proofs.ByRefusal.{refused_by}
use Rattle.model.proofs.kinds.memory_write.Goals as goal

pub returns-in-Err : goal.returns-in-Err
unfolding refusal_of event_in_bounds root_only allowed
returns-in-Err c =
    refused_by _ _ _ _ _ (sym (simp c.memory_write_in_bounds.ensures at c.guest_refusal-refusal.ensures) ∙ c.in-Err.is) (c.refused.ensures _)

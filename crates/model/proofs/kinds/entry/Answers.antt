-- `model::kinds::entry` meets its contract: its refusal, or what carries it out. Assumes nothing.
use mathlib.Core.Path.{sym, ◌∙◌}
use Rattle.model.proofs.ByRefusal.{refused_by}
use Rattle.model.proofs.kinds.entry.Goals as goal

pub returns-in-Err : goal.returns-in-Err
returns-in-Err c = refused_by _ _ _ _ _ (sym c.entry_refusal.ensures ∙ c.in-Err.is) (c.refused.ensures _)

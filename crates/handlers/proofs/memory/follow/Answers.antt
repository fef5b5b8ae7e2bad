-- `handlers::memory::follow` meets its contract: code and definition take the same cases. Assumes nothing.
use Rattle.meaning.specs.Memory.{follow_by}
use Rattle.handlers.proofs.memory.follow.Goals as goal

pub returns-in-IcrHigh : goal.returns-in-IcrHigh
unfolding follow_by
returns-in-IcrHigh c = simp (c.in-IcrHigh.is, ← c.clear_three-in-IcrHigh.ensures) (c.quiet.ensures _)

pub returns-in-ApicWrite : goal.returns-in-ApicWrite
unfolding follow_by
returns-in-ApicWrite c = simp c.in-ApicWrite.is (c.exit.ensures _)

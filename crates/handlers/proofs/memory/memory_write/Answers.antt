-- `handlers::memory::memory_write` meets its contract: code and definition take the same cases. Assumes nothing.
use Rattle.meaning.specs.Memory.{memory_write, write_by}
use Rattle.handlers.proofs.memory.memory_write.Goals as goal

pub returns-in-Passthrough : goal.returns-in-Passthrough
unfolding memory_write write_by
returns-in-Passthrough c = simp (← c.memory_access.ensures, c.in-Passthrough.is) (c.passthrough.ensures _)

pub returns-in-Exit : goal.returns-in-Exit
unfolding memory_write write_by
returns-in-Exit c = simp (← c.memory_access.ensures, c.in-Exit.is, ← c.write_qualification.ensures) (c.exit.ensures _)

-- `handlers::memory::memory_read` meets its contract: code and definition take the same cases. Assumes nothing.
use Rattle.meaning.specs.Memory.{memory_read, read_by}
use Rattle.handlers.proofs.memory.memory_read.Goals as goal

pub returns-in-Passthrough : goal.returns-in-Passthrough
unfolding memory_read read_by
returns-in-Passthrough c = simp (← c.memory_access.ensures, c.in-Passthrough.is) (c.passthrough.ensures _)

pub returns-in-Exit : goal.returns-in-Exit
unfolding memory_read read_by
returns-in-Exit c = simp (← c.memory_access.ensures, c.in-Exit.is, ← c.read_qualification.ensures) (c.exit.ensures _)

pub returns-in-Redirected : goal.returns-in-Redirected
unfolding memory_read read_by
returns-in-Redirected c = simp (← c.memory_access.ensures, c.in-Redirected.is, ← c.read_at.ensures) (c.redirected.ensures _)

-- The buffer has room for every trace of the limit.
use Rattle.program.proofs.Program.{fits}
use Rattle.program.proofs.printed.Goals as goal

pub returns : goal.returns
returns c = fits (rw c.unwrap.ensures at c.replay.ensures)

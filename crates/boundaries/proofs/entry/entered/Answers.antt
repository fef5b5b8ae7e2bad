-- `boundaries::entry::entered` meets its contract: code and definition take the same cases. Assumes nothing.
use Rattle.meaning.specs.Entry.{entered}
use Rattle.boundaries.proofs.entry.entered.Goals as goal

pub returns : goal.returns
unfolding entered
returns c = simp (← c.has.ensures, c.if-has.false) (c.quiet.ensures _)

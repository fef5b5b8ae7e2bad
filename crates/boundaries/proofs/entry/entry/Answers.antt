-- `boundaries::entry::entry` meets its contract: code and definition take the same cases. Assumes nothing.
use Rattle.meaning.specs.Entry.{entry}
use Rattle.boundaries.proofs.entry.entry.Goals as goal

pub returns-then-exits_at_entry : goal.returns-then-exits_at_entry
unfolding entry
returns-then-exits_at_entry c =
    simp (← c.byte_at.ensures, ← c.exits_at_entry.ensures, c.if-exits_at_entry.true) (c.exit.ensures _)

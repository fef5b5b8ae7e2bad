-- `boundaries::boundary::boundary_at` meets its contract: code and definition take the same cases. Assumes nothing.
use Rattle.meaning.specs.Boundary.{boundary_at}
use Rattle.boundaries.proofs.boundary.boundary_at.Goals as goal

pub returns-then-is_open-has : goal.returns-then-is_open-has
unfolding boundary_at
returns-then-is_open-has c = simp (← c.has.ensures, c.if-is_open-has.true) (c.exit.ensures _)

pub returns : goal.returns
unfolding boundary_at
returns c = simp (← c.has.ensures, c.if-is_open-has.false, c.if-is_open-record.false) (c.quiet.ensures _)

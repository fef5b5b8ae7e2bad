-- `procedures::virtualization::evaluated_quiet` meets its contract: code and definition take the same cases. Assumes nothing.
use Rattle.meaning.specs.Procedures.{evaluated_quiet}
use Rattle.procedures.proofs.virtualization.evaluated_quiet.Goals as goal

pub returns : goal.returns
unfolding evaluated_quiet
returns c = simp (← c.evaluation.ensures) (c.quiet.ensures _)

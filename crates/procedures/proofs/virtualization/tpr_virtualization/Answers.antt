-- `procedures::virtualization::tpr_virtualization` meets its contract: code and definition take the same cases. Assumes nothing.
use Rattle.meaning.specs.Procedures.{tpr_virtualization}
use Rattle.procedures.proofs.virtualization.tpr_virtualization.Goals as goal

pub returns-then-below_threshold : goal.returns-then-below_threshold
unfolding tpr_virtualization
returns-then-below_threshold c =
    simp (← c.has.ensures, c.if-has.false, ← c.byte_at.ensures, ← c.below_threshold.ensures, c.if-below_threshold.true) (c.exit.ensures _)

pub returns : goal.returns
unfolding tpr_virtualization
returns c =
    simp (← c.has.ensures, c.if-has.false, ← c.byte_at.ensures, ← c.below_threshold.ensures, c.if-below_threshold.false) (c.quiet.ensures _)

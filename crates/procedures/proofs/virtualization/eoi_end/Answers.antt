-- `procedures::virtualization::eoi_end` meets its contract: code and definition take the same cases. Assumes nothing.
use Rattle.meaning.specs.Procedures.{eoi_end}
use Rattle.procedures.proofs.virtualization.eoi_end.Goals as goal

pub returns-then-eoi_exit : goal.returns-then-eoi_exit
unfolding eoi_end
returns-then-eoi_exit c = simp (← c.ppr_virtualization.ensures, ← c.eoi_exit.ensures, c.if-eoi_exit.true) (c.exit.ensures _)

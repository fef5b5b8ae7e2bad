-- `handlers::msr::follow_msr` meets its contract: code and definition take the same cases. Assumes nothing.
use Rattle.meaning.specs.Cr8Msr.{write_msr_by}
use Rattle.handlers.proofs.msr.follow_msr.Goals as goal

pub returns-in-Passthrough : goal.returns-in-Passthrough
unfolding write_msr_by
returns-in-Passthrough c = simp c.in-Passthrough.is (c.passthrough.ensures _)

pub returns-in-Fault : goal.returns-in-Fault
unfolding write_msr_by
returns-in-Fault c = simp c.in-Fault.is (c.fault.ensures _)

pub returns-in-ApicWrite : goal.returns-in-ApicWrite
unfolding write_msr_by
returns-in-ApicWrite c = simp (c.in-ApicWrite.is, ← c.msr_offset-in-ApicWrite.ensures, ← c.set_long-in-ApicWrite.ensures) (c.exit.ensures _)

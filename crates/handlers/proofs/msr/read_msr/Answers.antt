-- `handlers::msr::read_msr` meets its contract: code and definition take the same cases. Assumes nothing.
use Rattle.meaning.specs.Cr8Msr.{read_msr}
use Rattle.handlers.proofs.msr.read_msr.Goals as goal

pub returns-then-rdmsr_redirected : goal.returns-then-rdmsr_redirected
unfolding read_msr
returns-then-rdmsr_redirected c = simp (← c.rdmsr_redirected.ensures, c.if-rdmsr_redirected.true, ← c.msr_offset.ensures, ← c.long_at.ensures) (c.redirected.ensures _)

pub returns : goal.returns
unfolding read_msr
returns c = simp (← c.rdmsr_redirected.ensures, c.if-rdmsr_redirected.false) (c.passthrough.ensures _)

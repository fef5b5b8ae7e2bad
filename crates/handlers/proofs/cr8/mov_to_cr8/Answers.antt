-- `handlers::cr8::mov_to_cr8` meets its contract: code and definition take the same cases. Assumes nothing.
use Rattle.meaning.specs.Cr8Msr.{mov_to_cr8, to_cr8_by}
use Rattle.handlers.proofs.cr8.mov_to_cr8.Goals as goal

pub returns-in-Passthrough : goal.returns-in-Passthrough
unfolding mov_to_cr8 to_cr8_by
returns-in-Passthrough c = simp (← c.to_cr8.ensures, c.in-Passthrough.is) (c.passthrough.ensures _)

pub returns-in-Exit : goal.returns-in-Exit
unfolding mov_to_cr8 to_cr8_by
returns-in-Exit c = simp (← c.to_cr8.ensures, c.in-Exit.is, ← c.to_cr8_qualification.ensures) (c.exit.ensures _)

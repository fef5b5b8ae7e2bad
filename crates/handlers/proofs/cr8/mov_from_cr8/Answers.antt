-- `handlers::cr8::mov_from_cr8` meets its contract: code and definition take the same cases. Assumes nothing.
use Rattle.meaning.specs.Cr8Msr.{mov_from_cr8, from_cr8_by}
use Rattle.handlers.proofs.cr8.mov_from_cr8.Goals as goal

pub returns-in-Passthrough : goal.returns-in-Passthrough
unfolding mov_from_cr8 from_cr8_by
returns-in-Passthrough c = simp (← c.from_cr8.ensures, c.in-Passthrough.is) (c.passthrough.ensures _)

pub returns-in-Exit : goal.returns-in-Exit
unfolding mov_from_cr8 from_cr8_by
returns-in-Exit c = simp (← c.from_cr8.ensures, c.in-Exit.is, ← c.from_cr8_qualification.ensures) (c.exit.ensures _)

pub returns-in-Redirected : goal.returns-in-Redirected
unfolding mov_from_cr8 from_cr8_by
returns-in-Redirected c = simp (← c.from_cr8.ensures, c.in-Redirected.is, ← c.byte_at.ensures, ← c.class_of.ensures) (c.redirected.ensures _)

-- Above a word's highest set bit stand its leading zeros.
use Rattle.registers.proofs.Highest.{leading-highest}
use Rattle.registers.proofs.vectors.highest_bit.Goals as goal

pub returns-clause-counted : goal.returns-clause-counted
returns-clause-counted c = leading-highest c.args.word 32 c.ranges.word.fits

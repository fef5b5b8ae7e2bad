-- Of more than four digits it writes those of the rest, then the last four.
use Rattle.std.proofs.Common.{arith, ◌/◌}
use Rattle.text.proofs.Decimals.{but-last-four}
use Rattle.text.proofs.Lengths.{at_most}
use Rattle.text.proofs.Writing.{writes-append}
use Rattle.text.proofs.decimal.+decimal.Goals as goal

pub last_digits-requires : goal.last_digits-requires
last_digits-requires t c = omega (arith, c.decimal-next.ensures.place, at_most 20 (c.args.n / 10000))

pub returns : goal.returns
returns t c = rw (but-last-four c.args.n c.ranges.n.fits c.if-n-lt10000.false) (writes-append c.decimal-next.ensures c.last_digits.ensures)

-- A mask turns one bit of the byte on, or off.
use Rattle.std.proofs.Common.{arith, ◌%◌}
use Rattle.setting.proofs.Bits.{mask-on, mask-off}
use Rattle.setting.proofs.put_bit.Goals as goal

pub returns-then-on : goal.returns-then-on
returns-then-on c = rw c.if-on.true (mask-on c.args.byte (c.args.vector % 8) c.ranges.byte.fits (omega arith))

pub returns-else-on : goal.returns-else-on
returns-else-on c = rw c.if-on.false (mask-off c.args.byte (c.args.vector % 8) c.ranges.byte.fits (omega arith))

-- The number, then the character after it.
use Rattle.std.proofs.Common.{arith}
use Rattle.text.proofs.Lengths.{at_most}
use Rattle.text.proofs.Writing.{writes-append}
use Rattle.text.proofs.decimal.field.Goals as goal

pub put-requires-2 : goal.put-requires-2
put-requires-2 c = omega (arith, c.decimal-next.ensures.place, at_most 20 c.args.n)

pub returns : goal.returns
returns c = writes-append c.decimal-next.ensures c.put-2.ensures

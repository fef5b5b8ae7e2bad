-- Four fields, each after the one before.
use Rattle.std.proofs.Common.{arith}
use Rattle.text.specs.Lines.{line, blank}
use Rattle.text.proofs.Lengths.{field-at-most}
use Rattle.text.proofs.Writing.{writes-append}
use Rattle.text.proofs.lines.line.Goals as goal

pub line_field-requires : goal.line_field-requires
line_field-requires c =
    omega (arith, field-at-most c.args.number blank, field-at-most c.args.numbers.answer blank, field-at-most c.args.numbers.first blank)

pub returns : goal.returns
unfolding line
returns c = writes-append c.line_field-answer.ensures (writes-append c.line_field-first.ensures (writes-append c.line_field-second.ensures c.line_field.ensures))

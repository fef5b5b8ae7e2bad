-- So far all but the last k of these digits stand there.
use Rattle.std.proofs.Common.{◌-◌, ◌/◌, ◌^◌}
use Rattle.text.specs.Decimal.{last_digits}
use Rattle.text.specs.Written.{Writes}
use Rattle.text.proofs.decimal.last_digits.Given as goal

abbrev pub invariant-loop-k : goal.invariant-loop-k
invariant-loop-k g l = Writes l.initial.out l.at (last_digits (g.row.K - l.k) (l.n / 10 ^ l.k)) l.next l.out

-- Each digit goes after those that stand there.
use Rattle.std.proofs.Common.{arith, ◌-◌, ◌/◌, ◌^◌, ℕ, ap, ◌∙◌}
use Rattle.text.specs.Decimal.{digit}
use Rattle.text.proofs.Decimals.{ten-of, one-more}
use Rattle.text.proofs.Lengths.{last-length}
use Rattle.text.proofs.Writing.{writes-append}
use Rattle.text.proofs.decimal.last_digits.Goals as goal

pub put-next-requires : goal.put-next-requires
put-next-requires g c =
    omega (arith, c.loop-k.invariant.place, last-length (g.row.K - c.loop-k.k) (c.args.n / 10 ^ c.loop-k.k))

pub loop-k-preserved : goal.loop-k-preserved
loop-k-preserved g c =
    let here = c.digit.ensures ∙ ap (λ (t : ℕ). digit (c.args.n / t)) (ten-of (c.loop-k.k - 1) (omega arith)) in
    rw (one-more g.row.K c.loop-k.k c.args.n (omega arith) (omega arith), ← here) (writes-append c.loop-k.invariant c.put-next.ensures)

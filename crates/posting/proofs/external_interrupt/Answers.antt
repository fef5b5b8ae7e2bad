-- `posting::external_interrupt` meets its contract: code and definition take the same cases. Assumes nothing.
use mathlib.Core.Path.{refl}
use Rattle.meaning.specs.External.{external_interrupt, descriptor_out}
use Rattle.posting.proofs.external_interrupt.Goals as goal

pub returns-then-not-has : goal.returns-then-not-has
unfolding external_interrupt descriptor_out
returns-then-not-has c = simp (← c.has.ensures, c.if-not-has.true) (record { outcome = c.passthrough.ensures _; descriptor = refl })

pub returns-then-not-notifies : goal.returns-then-not-notifies
unfolding external_interrupt descriptor_out
returns-then-not-notifies c =
    simp (← c.has.ensures, c.if-not-has.false, ← c.notifies.ensures, c.if-not-notifies.true) (record { outcome = c.exit.ensures _; descriptor = refl })

-- The replay is under way after each turn.
use Rattle.std.proofs.Common.{sym, ◌∙◌}
use Rattle.playback.proofs.Going.{goes}
use Rattle.playback.proofs.play.turns.Goals as goal

pub loop-page-preserved : goal.loop-page-preserved
loop-page-preserved c = goes c.loop-page.invariant (sym c.goes_on.ensures ∙ c.loop-page-test.true) c.next-turn.ensures

-- What is written and what is left make up the text, turn by turn; the number of records that may still be read falls with each.
use Rattle.std.proofs.Common.{length}
use Rattle.recorded.specs.Replay.{bodies, text_from}
use Rattle.playback.specs.Turns.{Going}
use Rattle.playback.proofs.Going.{fresh_on}
use Rattle.playback.proofs.play.turns.Given as goal

abbrev pub invariant-loop-page : goal.invariant-loop-page
invariant-loop-page l = Going l.trace l.limit (text_from l.limit l.trace 1 0 (fresh_on l.fn.page)) (length (bodies l.limit l.trace 1)) l.fn.out l.page l.out l.turn

abbrev pub decreases-loop-page : goal.decreases-loop-page
decreases-loop-page l = l.turn.left

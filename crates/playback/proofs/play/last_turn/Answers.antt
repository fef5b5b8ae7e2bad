-- The first turn alone, or all turns.
use Rattle.std.proofs.Common.{sym, ◌∙◌}
use Rattle.meaning.specs.Run.{zero_page}
use Rattle.playback.proofs.On.{stops, unlike-kind}
use Rattle.playback.proofs.Going.{begins}
use Rattle.playback.proofs.play.last_turn.Goals as goal

pub returns-then-not-first_fits : goal.returns-then-not-first_fits
returns-then-not-first_fits c =
    let t = c.args.trace.now in
    let u = c.first.result in
    let start = c.first.ensures in
    let unread = unlike-kind t 1 (sym c.first_fits.ensures ∙ c.if-not-first_fits.true) in
    record { page = zero_page; ended = record { over = stops t u (rw start.place unread); going = begins t c.args.limit zero_page c.args.out.now u start } }

pub returns : goal.returns
returns c = record { page = c.turns.new.page; ended = c.turns.ensures }

-- What is no trace has its one line; a trace has that of each turn, and the last.
use Rattle.std.proofs.Common.{sym, ◌∙◌}
use Rattle.playback.proofs.Printing.{no-trace, whole-trace}
use Rattle.playback.proofs.play.printed.Goals as goal

pub returns-then-not-is_trace : goal.returns-then-not-is_trace
returns-then-not-is_trace c =
    no-trace c.args.trace.now c.args.limit c.args.out.now c.bad_line.result c.bad_line.new.out (sym c.is_trace.ensures ∙ c.if-not-is_trace.true) c.bad_line.ensures

pub returns : goal.returns
returns c =
    whole-trace c.args.trace.now c.args.limit c.args.out.now c.last_turn-last.result c.last_turn-last.new.out c.last_line.result c.last_line.new.out (sym c.is_trace.ensures ∙ c.if-not-is_trace.false) c.last_turn-last.ensures c.last_line.ensures

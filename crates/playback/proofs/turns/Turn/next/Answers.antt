-- The record is carried out, and its line is short.
use Rattle.std.proofs.Common.{refl, sym, arith, ◌+◌}
use Rattle.text.proofs.Lengths.{line-short}
use Rattle.playback.proofs.On.{goes-on, left-some, next-by-body}
use Rattle.playback.proofs.turns.Turn.next.Goals as goal

pub overflow_cast-result : goal.overflow_cast-result
overflow_cast-result c =
    omega (arith, c.line-end.ensures.place, line-short (c.args.self.count + 1) c.carried_out.result.numbers (omega (arith, c.requires.count)) c.carried_out.ensures.small, c.requires.count, c.requires.at)

pub returns : goal.returns
returns c =
    let t = c.args.trace.now in
    let u = c.args.self in
    let body = c.body_from-body.ensures in
    let tells = simp body at c.carried_out.ensures in
    let written = c.line-end.ensures in
    let left = left-some t u c.requires.on in
    let short = line-short (u.count + 1) c.carried_out.result.numbers (omega (arith, c.requires.count)) c.carried_out.ensures.small in
    record {
      session = tells.session;
      left = omega arith;
      place = simp body (sym (next-by-body t u.place (goes-on t u c.requires.on).readable));
      count = refl;
      text = simp tells.answer at written;
      short = omega (arith, written.place, short);
    }

-- Room for every trace, or for the text's length.
use Rattle.std.proofs.Common.{arith, ◌≤◌, length}
use Rattle.recorded.specs.Replay.{replay_text}
use Rattle.playback.proofs.Printing.{replay-fits}
use Rattle.playback.proofs.replay.Goals as goal
use Rattle.playback.proofs.replay.Goals.{else-room-room_for-via-then-room-room_for+else-room-measured, else-room-room_for-via-else-room-room_for}

pub returns : goal.returns
returns c =
    let fits : length (replay_text c.args.trace.now c.args.limit) ≤ length c.args.out.now =
    elim c.else-room-room_for.branch [
      | else-room-room_for-via-then-room-room_for+else-room-measured w ↦ omega (arith, w.measured.ensures, w.if-room-measured.false)
      | else-room-room_for-via-else-room-room_for w ↦ omega (arith, c.printed.ensures.text.place, c.printed.ensures.room, c.room_for.ensures, w.if-room-room_for.false)
    ] in
    replay-fits c.args.trace.now c.args.limit c.args.out.now c.printed.result c.printed.new.out c.printed.ensures fits

-- The outcome has the controls that the record's bytes hold, on whatever page.
use Rattle.std.proofs.Common.{arith, []}
use Rattle.replies.proofs.Reply.{same_controls}
use Rattle.replies.proofs.leave_reply.Goals as goal

pub told_status-requires : goal.told_status-requires
told_status-requires c = grind (arith, same_controls, c.leave-outcome.ensures [])

-- The controls in force are the same, so the outcome's are not taken.
use Rattle.session.proofs.Tell.{tell-event}
use Rattle.session.proofs.event_told.Goals as goal

pub returns : goal.returns
returns c z e =
    simp (c.by_fields.ensures, c.with_controls.ensures)
    (tell-event c.args.page.now c.event_outcome-outcome.new.page c.args.state c.args.body.now c.event_outcome-outcome.result c.into.result z e (c.event_outcome-outcome.ensures e c.args.state.controls) c.into.ensures)

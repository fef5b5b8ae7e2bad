-- The bytes hold the controls already, so that the rest alone is stored.
use Rattle.std.proofs.Common.{◌∙◌}
use Rattle.keeping.proofs.RoundTrip.{kept-status}
use Rattle.replies.proofs.told.told_status.Goals as goal

pub returns : goal.returns
returns c = record {
  numbers = c.from-numbers.ensures;
  record_bytes = c.keep_status.ensures ∙ kept-status _ _ c.told-record c.fits-record c.requires _;
}

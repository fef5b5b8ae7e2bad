-- `boundaries::entry::request` meets its contract: code and definition take the same cases. Assumes nothing.
use Rattle.meaning.specs.Entry.{request}
use Rattle.meaning.specs.Procedures.{requested_page}
use Rattle.boundaries.proofs.entry.request.Goals as goal

pub returns : goal.returns
unfolding request requested_page
returns c = simp (← c.put_vector.ensures, ← c.requested.ensures) (c.quiet.ensures _)

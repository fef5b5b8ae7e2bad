-- `boundaries::boundary::delivery` meets its contract: code and definition take the same cases. Assumes nothing.
use Rattle.meaning.specs.Boundary.{delivery, delivered_record}
use Rattle.boundaries.proofs.boundary.delivery.Goals as goal

pub returns : goal.returns
unfolding delivery delivered_record
returns c =
    let moved = c.move_to_service.ensures in
    simp (← moved, ← c.delivered_record.ensures) (c.delivered.ensures _)

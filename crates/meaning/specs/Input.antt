-- What a run is made of: an event of document 01, an external interrupt of E1 of document 02, or that the guest leaves for a reason
-- outside the model.
use Rattle.std.specs.Prelude.{ℕ, List}
use Rattle.events.specs.declared.event.Event.{Event}

pub data Input : Type 0 where
  given : Event → Input
  -- external interrupt with a vector, which alone takes the descriptor
  external : List ℕ → ℕ → Input
  leaves : Input

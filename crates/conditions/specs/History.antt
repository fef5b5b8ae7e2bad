-- What a run's inputs and answers tell: the vectors delivered and not yet retired.
use Rattle.std.specs.Prelude.{ℕ, Bool, true, ◌&&◌, List, [], ◌∷◌}
use Rattle.events.specs.declared.answer.Numbers.{Numbers}
use Rattle.processor.specs.Controls.{virtual_delivery}
use Rattle.events.specs.declared.event.Event.{Event}
use Rattle.events.specs.declared.event.Event.TheVariants.{Entry, Request, MemoryRead, MemoryWrite, ToCr8, FromCr8, Rdmsr, Wrmsr, Boundary}
use Rattle.meaning.specs.Input.{Input, given, external, leaves}
use Rattle.meaning.specs.Run.{start, answers}
use Rattle.conditions.specs.Moves.{Move, stays, raises, delivers, retires, move_of}

-- an entry has virtual-interrupt delivery on; nothing is asked of another input
abbrev pub event_on : Event → Bool
event_on (Entry controls) = virtual_delivery controls
event_on (Request vector) = true
event_on (MemoryRead access) = true
event_on (MemoryWrite access value) = true
event_on (ToCr8 value register) = true
event_on (FromCr8 register) = true
event_on (Rdmsr index) = true
event_on (Wrmsr index value) = true
event_on (Boundary at) = true

abbrev pub delivery_on : Input → Bool
delivery_on (given e) = event_on e
delivery_on (external d vector) = true
delivery_on leaves = true

-- every entry attempted has virtual-interrupt delivery on
abbrev pub all_on : List Input → Bool
all_on [] = true
all_on (i ∷ is) = delivery_on i && all_on is

-- the vectors in service, the latest delivered first: a delivery puts its vector in front, an EOI takes the front one away
abbrev pub rest : List ℕ → List ℕ
rest [] = []
rest (v ∷ vs) = vs

abbrev pub served : Move → List ℕ → List ℕ
served stays vs = vs
served (raises us) vs = vs
served (delivers v) vs = v ∷ vs
served retires vs = rest vs

-- read off the inputs and answers alone
abbrev pub in_service : List ℕ → List Input → List Numbers → List ℕ
in_service vs [] ns = vs
in_service vs (i ∷ is) [] = vs
in_service vs (i ∷ is) (n ∷ ns) = in_service (served (move_of i n) vs) is ns

-- delivered and not yet retired, after a run from the start
abbrev pub serving : List Input → List ℕ
serving is = in_service [] is (answers start is)

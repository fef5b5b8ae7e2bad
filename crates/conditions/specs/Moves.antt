-- The moves: every input does to VIRR, VISR, RVI and SVI one of four things; the input and its answer say which.
use Rattle.std.specs.Prelude.{ℕ, ◌%◌, ◌<◌, ◌≡◌, Bool, true, false, ◌&&◌, ◌||◌, List, [], ◌∷◌, eqb, if◌then◌else◌}
use Rattle.processor.specs.Logic.{larger, member}
use Rattle.events.specs.declared.answer.Numbers.{Numbers}
use Rattle.processor.specs.declared.controls.Record.{Record}
use Rattle.events.specs.declared.event.Event.{Event}
use Rattle.events.specs.declared.event.Event.TheVariants.{Entry, Request, MemoryRead, MemoryWrite, ToCr8, FromCr8, Rdmsr, Wrmsr, Boundary}
use Rattle.processor.specs.Offsets.{veoi, visr, virr, vicr_lo}
use Rattle.registers.specs.Vectors.{is_set, put, highest}
use Rattle.descriptor.specs.Descriptor.{posted_vectors}
use Rattle.meaning.specs.Input.{Input, given, external, leaves}
use Rattle.meaning.specs.After.{After}

-- nothing; raise a list of vectors; deliver RVI; retire SVI
pub data Move : Type 0 where
  stays : Move
  raises : List ℕ → Move
  delivers : ℕ → Move
  retires : Move

-- the answer is quiet; delivered; quiet or exit 45
abbrev pub is_quiet : Numbers → Bool
is_quiet n = eqb n.answer 6

abbrev pub is_delivered : Numbers → Bool
is_delivered n = eqb n.answer 5

abbrev pub is_quiet_or45 : Numbers → Bool
is_quiet_or45 n = is_quiet n || eqb n.answer 4 && eqb n.first 45

-- A request or a self-IPI that was carried out raises its one vector; an EOI virtualization that was carried out, whether it then
-- ended quiet or in exit 45, retires SVI.
abbrev pub raises_if : Bool → List ℕ → Move
raises_if true vs = raises vs
raises_if false vs = stays

abbrev pub retires_if : Bool → Move
retires_if true = retires
retires_if false = stays

abbrev pub delivers_if : Bool → ℕ → Move
delivers_if true v = delivers v
delivers_if false v = stays

abbrev pub write_move : ℕ → ℕ → Numbers → Move
write_move offset value n =
    if eqb offset vicr_lo then raises_if (is_quiet n) (value % 0x100 ∷ [])
    else if eqb offset veoi then retires_if (is_quiet_or45 n)
    else stays

abbrev pub wrmsr_move : ℕ → ℕ → Numbers → Move
wrmsr_move index value n =
    if eqb index 0x83f then raises_if (is_quiet n) (value % 0x100 ∷ [])
    else if eqb index 0x80b then retires_if (is_quiet_or45 n)
    else stays

-- which event and answer go with which move
unfoldable pub event_move : Event → Numbers → Move
event_move (Entry controls) n = stays
event_move (Request vector) n = raises_if (is_quiet n) (vector ∷ [])
event_move (MemoryRead access) n = stays
event_move (MemoryWrite access value) n = write_move access.offset value n
event_move (ToCr8 value register) n = stays
event_move (FromCr8 register) n = stays
event_move (Rdmsr index) n = stays
event_move (Wrmsr index value) n = wrmsr_move index value n
event_move (Boundary at) n = delivers_if (is_delivered n) n.first

-- which input and answer go with which move; a posting that was carried out raises the posted vectors
unfoldable pub move_of : Input → Numbers → Move
move_of (given e) n = event_move e n
move_of (external d vector) n = raises_if (is_quiet n) (posted_vectors d)
move_of leaves n = stays

-- the request bits after the move
abbrev pub requests : Move → (ℕ → Bool) → ℕ → Bool
requests stays f = f
requests (raises vs) f = λ w. member w vs || f w
requests (delivers v) f = put f v false
requests retires f = f

-- the service bits after the move, SVI being svi before it
abbrev pub services : Move → ℕ → (ℕ → Bool) → ℕ → Bool
services stays svi f = f
services (raises vs) svi f = f
services (delivers v) svi f = put f v true
services retires svi f = put f svi false

-- the larger of a number and of each in turn
abbrev pub largest : ℕ → List ℕ → ℕ
largest rvi [] = rvi
largest rvi (v ∷ vs) = largest (larger rvi v) vs

-- RVI after the move: the larger of itself and of each vector raised; the highest request left after a delivery
abbrev pub next_rvi : Move → ℕ → List ℕ → ℕ
next_rvi stays rvi page = rvi
next_rvi (raises vs) rvi page = largest rvi vs
next_rvi (delivers v) rvi page = highest page virr
next_rvi retires rvi page = rvi

-- SVI after the move: what is delivered; the highest service left after a retirement
abbrev pub next_svi : Move → ℕ → List ℕ → ℕ
next_svi stays svi page = svi
next_svi (raises vs) svi page = svi
next_svi (delivers v) svi page = v
next_svi retires svi page = highest page visr

-- RVI is delivered, in guest mode and where it is recognised
pub record Deliverable (v : ℕ) (r : Record) : Type 0 where
  pub is_rvi : v ≡ r.rvi
  pub guest : r.guest ≡ true
  pub recognised : r.recognised ≡ true

-- each number of the list is a byte
abbrev pub Bytes : List ℕ → Type 0
Bytes [] = Unit
Bytes (v ∷ vs) = (v < 256) × Bytes vs

-- raised vectors are bytes; a delivered one is deliverable
abbrev pub named : Move → Record → Type 0
named stays r = Unit
named (raises vs) r = Bytes vs
named (delivers v) r = Deliverable v r
named retires r = Unit

-- the move was made: from a page and a record to what an input leaves
pub record Moved (m : Move) (p : List ℕ) (r : Record) (a : After) : Type 0 where
  pub vector : named m r
  pub request : (w : ℕ) → w < 256 → is_set a.page virr w ≡ requests m (is_set p virr) w
  pub service : (w : ℕ) → w < 256 → is_set a.page visr w ≡ services m r.svi (is_set p visr) w
  pub rvi : a.state.rvi ≡ next_rvi m r.rvi a.page
  pub svi : a.state.svi ≡ next_svi m r.svi a.page

-- Document 01, "What comes back", with E1 of document 02: the refusals, in the order in which they are tested. An input gets the first
-- that applies, with its check, or none.
use Rattle.std.specs.Prelude.{ℕ, Bool, true, not, ◌&&◌, List, eqb, length, ⊤, Option, Some, None, Result, Ok, Err, if◌then◌else◌}
use Rattle.processor.specs.Controls.{flags_in_bounds}
use Rattle.processor.specs.Offsets.{vtpr}
use Rattle.processor.specs.declared.controls.Record.{Record}
use Rattle.events.specs.Events.{vector_in_bounds, in_bounds, allowed}
use Rattle.events.specs.declared.answer.Refusal.{Refusal}
use Rattle.events.specs.declared.answer.Refusal.TheVariants.{PageLength, DescriptorLength, Bounds, Mode, EntryCheck}
use Rattle.events.specs.declared.event.Event.{Event}
use Rattle.events.specs.declared.event.Event.TheVariants.{Entry, Request, MemoryRead, MemoryWrite, ToCr8, FromCr8, Rdmsr, Wrmsr, Boundary}
use Rattle.page.specs.Page.{byte_at}
use Rattle.rules.specs.EntryChecks.{failing_check, numbered}
use Rattle.descriptor.specs.Descriptor.{descriptor_fits}
use Rattle.meaning.specs.Input.{Input, given, external, leaves}

-- 1: the page slice isn't 4,096 bytes. A guest that leaves takes no page.
abbrev pub page_fits : List ℕ → Input → Bool
page_fits p (given e) = eqb (length p) 4096
page_fits p (external d vector) = eqb (length p) 4096
page_fits p leaves = true

-- 5: the descriptor isn't 64 bytes. An external interrupt alone takes one.
abbrev pub lent_fits : Input → Bool
lent_fits (given e) = true
lent_fits (external d vector) = descriptor_fits d
lent_fits leaves = true

-- 2: a field outside the bounds, of the record or of the input
abbrev pub fields_fit : Record → Input → Bool
fields_fit r (given e) = in_bounds r e
fields_fit r (external d vector) = flags_in_bounds r.controls && vector_in_bounds vector
fields_fit r leaves = flags_in_bounds r.controls

-- 3: not allowed in this mode. A guest alone can leave, or be interrupted.
abbrev pub mode_fits : Record → Input → Bool
mode_fits r (given e) = allowed r e
mode_fits r (external d vector) = r.guest
mode_fits r leaves = r.guest

-- 4: the first entry check that fails, 0 where none does or the input is no entry
abbrev pub event_check : List ℕ → Event → ℕ
event_check p (Entry controls) = failing_check controls (byte_at p vtpr)
event_check p (Request vector) = 0
event_check p (MemoryRead access) = 0
event_check p (MemoryWrite access value) = 0
event_check p (ToCr8 value register) = 0
event_check p (FromCr8 register) = 0
event_check p (Rdmsr index) = 0
event_check p (Wrmsr index value) = 0
event_check p (Boundary at) = 0

abbrev pub check_of : List ℕ → Input → ℕ
check_of p (given e) = event_check p e
check_of p (external d vector) = 0
check_of p leaves = 0

-- a check that fails is the refusal by its number
abbrev pub check_passed : Option ℕ → Result ⊤ Refusal
check_passed None = Ok tt
check_passed (Some check) = Err (EntryCheck check)

-- Tested in the order 1, 5, 2, 3, 4, and given in no other case: the refusal of the first test that does not pass.
abbrev pub first_refusal : Bool → Bool → Bool → Bool → Option ℕ → Result ⊤ Refusal
first_refusal page lent fields mode check =
    if not page then Err PageLength
    else if not lent then Err DescriptorLength
    else if not fields then Err Bounds
    else if not mode then Err Mode
    else check_passed check

-- which refusal an input gets, by the five tests
unfoldable pub refusal_of : List ℕ → Record → Input → Result ⊤ Refusal
refusal_of p r i = first_refusal (page_fits p i) (lent_fits i) (fields_fit r i) (mode_fits r i) (numbered (check_of p i))

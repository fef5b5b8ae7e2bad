-- Condition 1 of the tender, document 01, "What comes back", and E1 of document 02: which inputs are refused, and what each answer
-- leaves, on any page slice, any record and any descriptor slice.
use Rattle.std.specs.Prelude.{ℕ, ◌/◌, ◌<◌, ◌≡◌, Bool, true, false, ◌&&◌, List, eqb, ltb, length}
use Rattle.processor.specs.Controls.{flags_in_bounds}
use Rattle.processor.specs.Offsets.{vtpr}
use Rattle.processor.specs.declared.controls.Controls.{Controls}
use Rattle.processor.specs.declared.controls.Record.{Record}
use Rattle.events.specs.declared.answer.Numbers.{Numbers}
use Rattle.events.specs.Answers.{numbers}
use Rattle.events.specs.Events.{in_bounds, allowed}
use Rattle.events.specs.declared.event.Event.{Event}
use Rattle.events.specs.declared.event.Event.TheVariants.{Entry}
use Rattle.page.specs.Page.{byte_at}
use Rattle.rules.specs.EntryChecks.{failing_check}
use Rattle.descriptor.specs.Descriptor.{outstanding_byte, cleared}
use Rattle.meaning.specs.After.{After}

-- refused by its number, other numbers zero save the failing check's, with page and record unchanged
pub record Refused (number check : ℕ) (p : List ℕ) (r : Record) (a : After) : Type 0 where
  pub answer : a.answer ≡ numbers 0 number check
  pub page : a.page ≡ p
  pub state : a.state ≡ r

-- refused, redirected, passthrough or fault; a VM exit
abbrev pub changes_nothing : Numbers → Bool
changes_nothing n = ltb n.answer 4

abbrev pub is_exit : Numbers → Bool
is_exit n = eqb n.answer 4

-- Not refused. Passthrough, fault and redirected reads change nothing either; every exit sets root mode and recognition off.
pub record CarriedOut (p : List ℕ) (r : Record) (a : After) : Type 0 where
  pub answer : eqb a.answer.answer 0 ≡ false
  pub page : changes_nothing a.answer ≡ true → a.page ≡ p
  pub state : changes_nothing a.answer ≡ true → a.state ≡ r
  pub root : is_exit a.answer ≡ true → a.state.guest ≡ false
  pub unrecognised : is_exit a.answer ≡ true → a.state.recognised ≡ false

-- An event: a wrong page length, a malformed event or record, an event in the wrong mode and a failed entry check are refused, in this
-- order, and nothing else is. The facts are stated by themselves and not by the list's own tests.
pub record Answered (p : List ℕ) (r : Record) (e : Event) (a : After) : Type 0 where
  pub wrong_length : eqb (length p) 4096 ≡ false → Refused 1 0 p r a
  pub malformed : eqb (length p) 4096 ≡ true → in_bounds r e ≡ false → Refused 2 0 p r a
  pub wrong_mode : eqb (length p) 4096 ≡ true → in_bounds r e ≡ true → allowed r e ≡ false → Refused 3 0 p r a
  pub failed_check : eqb (length p) 4096 ≡ true → in_bounds r e ≡ true → allowed r e ≡ true → (c : Controls) → e ≡ Entry c → eqb (failing_check c (byte_at p vtpr)) 0 ≡ false → Refused 4 (failing_check c (byte_at p vtpr)) p r a
  pub other : eqb (length p) 4096 ≡ true → in_bounds r e ≡ true → allowed r e ≡ true → ((c : Controls) → e ≡ Entry c → eqb (failing_check c (byte_at p vtpr)) 0 ≡ true) → CarriedOut p r a

-- A guest that leaves, on any page slice: a malformed record and root mode are refused, in this order, and nothing else is.
pub record LeaveAnswered (p : List ℕ) (r : Record) (a : After) : Type 0 where
  pub malformed : flags_in_bounds r.controls ≡ false → Refused 2 0 p r a
  pub wrong_mode : flags_in_bounds r.controls ≡ true → r.guest ≡ false → Refused 3 0 p r a
  pub other : flags_in_bounds r.controls ≡ true → r.guest ≡ true → CarriedOut p r a

-- The descriptor d' that an external interrupt leaves of a descriptor d: unless the answer is quiet it is d; with it the outstanding bit
-- and the posted bits are cleared. Its length, bits 7:1 of byte 32 and the bytes above never change.
pub record DescriptorLeft (d : List ℕ) (a : After) (d' : List ℕ) : Type 0 where
  pub kept : eqb a.answer.answer 6 ≡ false → d' ≡ d
  pub taken : eqb a.answer.answer 6 ≡ true → d' ≡ cleared d
  pub size : length d' ≡ length d
  pub above : byte_at d' outstanding_byte / 2 ≡ byte_at d outstanding_byte / 2
  pub rest : (i : ℕ) → outstanding_byte < i → byte_at d' i ≡ byte_at d i

-- An external interrupt, with any descriptor slice: a wrong page length, a descriptor of another length, a malformed record or vector and
-- root mode are refused, in this order, and nothing else is.
pub record ExternalAnswered (p : List ℕ) (r : Record) (d : List ℕ) (vector : ℕ) (a : After) (d' : List ℕ) : Type 0 where
  pub wrong_length : eqb (length p) 4096 ≡ false → Refused 1 0 p r a
  pub wrong_descriptor : eqb (length p) 4096 ≡ true → eqb (length d) 64 ≡ false → Refused 5 0 p r a
  pub malformed : eqb (length p) 4096 ≡ true → eqb (length d) 64 ≡ true → (flags_in_bounds r.controls && ltb vector 256) ≡ false → Refused 2 0 p r a
  pub wrong_mode : eqb (length p) 4096 ≡ true → eqb (length d) 64 ≡ true → (flags_in_bounds r.controls && ltb vector 256) ≡ true → r.guest ≡ false → Refused 3 0 p r a
  pub other : eqb (length p) 4096 ≡ true → eqb (length d) 64 ≡ true → (flags_in_bounds r.controls && ltb vector 256) ≡ true → r.guest ≡ true → CarriedOut p r a
  pub descriptor : DescriptorLeft d a d'

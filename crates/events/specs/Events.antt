-- Document 01, "Events": the bounds of every field, and the mode that an event belongs to.
use Rattle.std.specs.Prelude.{ℕ, ◌*◌, ◌^◌, Bool, true, false, not, ◌&&◌, ◌||◌, eqb, ltb, if◌then◌else◌}
use Rattle.processor.specs.Controls.{flags_in_bounds}
use Rattle.processor.specs.declared.controls.Record.{Record}
use Rattle.events.specs.declared.event.Event.{Event}
use Rattle.events.specs.declared.event.Event.TheVariants.{Entry, Request, MemoryRead, MemoryWrite, ToCr8, FromCr8, Rdmsr, Wrmsr, Boundary}

-- offset 0 to 4095
abbrev pub offset_in_bounds : ℕ → Bool
offset_in_bounds offset = ltb offset 4096

-- a vector 0 to 255
abbrev pub vector_in_bounds : ℕ → Bool
vector_in_bounds vector = ltb vector 256

-- Sizes are 1, 2, 4, 8.
abbrev pub size_in_bounds : ℕ → Bool
size_in_bounds size = eqb size 1 || eqb size 2 || eqb size 4 || eqb size 8

-- A write's value must fit its size.
unfoldable pub value_in_bounds : ℕ → ℕ → Bool
value_in_bounds size value = size_in_bounds size && ltb value (2 ^ (8 * size))

-- A CR8 value is 0 to 15; a register is 0 to 15.
abbrev pub cr8_in_bounds : ℕ → Bool
cr8_in_bounds n = ltb n 16

-- Activity: 0 active, 1 HLT, 2 shutdown, 3 wait-for-SIPI.
abbrev pub activity_in_bounds : ℕ → Bool
activity_in_bounds activity = ltb activity 4

-- Every field of the event is within its bounds; of a write, the fetch flag must be off.
unfoldable pub event_in_bounds : Event → Bool
event_in_bounds (Entry controls) = flags_in_bounds controls
event_in_bounds (Request vector) = vector_in_bounds vector
event_in_bounds (MemoryRead access) = offset_in_bounds access.offset && size_in_bounds access.size
event_in_bounds (MemoryWrite access value) = offset_in_bounds access.offset && value_in_bounds access.size value && not access.fetch
event_in_bounds (ToCr8 value register) = cr8_in_bounds value && cr8_in_bounds register
event_in_bounds (FromCr8 register) = cr8_in_bounds register
event_in_bounds (Rdmsr index) = true
event_in_bounds (Wrmsr index value) = true
event_in_bounds (Boundary at) = activity_in_bounds at.activity

-- No field of the record or of the event is outside its bounds.
abbrev pub in_bounds : Record → Event → Bool
in_bounds r e = flags_in_bounds r.controls && event_in_bounds e

-- Root only: entry, request. Guest only: every other event.
unfoldable pub root_only : Event → Bool
root_only (Entry controls) = true
root_only (Request vector) = true
root_only (MemoryRead access) = false
root_only (MemoryWrite access value) = false
root_only (ToCr8 value register) = false
root_only (FromCr8 register) = false
root_only (Rdmsr index) = false
root_only (Wrmsr index value) = false
root_only (Boundary at) = false

-- The event is allowed in the record's mode.
unfoldable pub allowed : Record → Event → Bool
allowed r e = if root_only e then not r.guest else r.guest

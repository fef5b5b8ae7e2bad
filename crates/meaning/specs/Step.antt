-- One input: its refusal, or what carries it out, which never refuses.
use Rattle.std.specs.Prelude.{ℕ, List, ⊤, Result, Ok, Err}
use Rattle.processor.specs.declared.controls.Record.{Record}
use Rattle.events.specs.declared.answer.Refusal.{Refusal}
use Rattle.events.specs.Answers.{refusal_number, refusal_check}
use Rattle.events.specs.declared.event.Event.{Event}
use Rattle.events.specs.declared.event.Event.TheVariants.{Entry, Request, MemoryRead, MemoryWrite, ToCr8, FromCr8, Rdmsr, Wrmsr, Boundary}
use Rattle.meaning.specs.Input.{Input, given, external, leaves}
use Rattle.meaning.specs.After.{After, refused}
use Rattle.meaning.specs.Refusals.{refusal_of}
use Rattle.meaning.specs.Entry.{entry, request}
use Rattle.meaning.specs.Memory.{memory_read, memory_write}
use Rattle.meaning.specs.Cr8Msr.{mov_to_cr8, mov_from_cr8, read_msr, write_msr}
use Rattle.meaning.specs.Boundary.{boundary}
use Rattle.meaning.specs.External.{external_interrupt, descriptor_by}
use Rattle.meaning.specs.Leave.{left}

-- what carries an event out, by its kind
unfoldable pub event_out : List ℕ → Record → Event → After
event_out p r (Entry controls) = entry p r controls
event_out p r (Request vector) = request p r vector
event_out p r (MemoryRead access) = memory_read p r access.offset access.size access.fetch access.already
event_out p r (MemoryWrite access value) = memory_write p r access.offset access.size access.fetch access.already value
event_out p r (ToCr8 value register) = mov_to_cr8 p r value register
event_out p r (FromCr8 register) = mov_from_cr8 p r register
event_out p r (Rdmsr index) = read_msr p r index
event_out p r (Wrmsr index value) = write_msr p r index value
event_out p r (Boundary at) = boundary p r at.interrupts at.sti at.mov_ss at.activity

-- what carries an input out
unfoldable pub carried_out : List ℕ → Record → Input → After
carried_out p r (given e) = event_out p r e
carried_out p r (external d vector) = external_interrupt p r d vector
carried_out p r leaves = left p r

-- the refusal, if there is one, or what carries the input out
unfoldable pub step_by : Result ⊤ Refusal → List ℕ → Record → Input → After
step_by (Ok passed) p r i = carried_out p r i
step_by (Err refusal) p r i = refused (refusal_number refusal) (refusal_check refusal) p r

unfoldable pub step : List ℕ → Record → Input → After
step p r i = step_by (refusal_of p r i) p r i

-- what an external interrupt leaves of the descriptor
unfoldable pub descriptor_after : List ℕ → Record → List ℕ → ℕ → List ℕ
descriptor_after p r d vector = descriptor_by (refusal_of p r (external d vector)) r d vector

-- Document 02, E1: an external interrupt with a vector, in guest mode.
use Rattle.std.specs.Prelude.{ℕ, ◌≡◌, Bool, not, ◌&&◌, List, eqb, ⊤, Result, Ok, Err, if◌then◌else◌}
use Rattle.processor.specs.Controls.{external_interrupt_exiting, process_posted_interrupts, with_rvi}
use Rattle.processor.specs.declared.controls.Controls.{Controls}
use Rattle.processor.specs.declared.controls.Record.{Record}
use Rattle.events.specs.declared.answer.Outcome.{Outcome}
use Rattle.events.specs.declared.answer.Refusal.{Refusal}
use Rattle.descriptor.specs.Descriptor.{highest_posted, raised_by, joined, cleared}
use Rattle.meaning.specs.After.{After, Leaves, passthrough, exit}
use Rattle.meaning.specs.Procedures.{evaluated_quiet}

-- posting is on, and this is the notification vector: all 16 bits are compared
abbrev pub notifies : Controls → ℕ → Bool
notifies c vector = process_posted_interrupts c && eqb vector c.notification

-- RVI becomes the larger of itself and the highest posted vector (unchanged if none)
unfoldable pub posted_record : Record → List ℕ → Record
posted_record r d = with_rvi r (raised_by r.rvi (highest_posted d))

-- posted bits join VIRR, RVI becomes the larger, evaluation, quiet
unfoldable pub posting : List ℕ → Record → List ℕ → After
posting p r d = evaluated_quiet (joined p d) (posted_record r d)

-- External-interrupt exiting off: passthrough. Posting off, or not the notification vector: exit 1. Otherwise posting.
unfoldable pub external_interrupt : List ℕ → Record → List ℕ → ℕ → After
external_interrupt p r d vector =
    if not (external_interrupt_exiting r.controls) then passthrough p r
    else if not (notifies r.controls vector) then exit 1 0 p r
    else posting p r d

-- Only where posting is carried out does the descriptor change: the outstanding bit and the posted bits are cleared.
unfoldable pub descriptor_out : Record → List ℕ → ℕ → List ℕ
descriptor_out r d vector =
    if not (external_interrupt_exiting r.controls) then d
    else if not (notifies r.controls vector) then d
    else cleared d

-- the descriptor that an external interrupt leaves, by its refusal
unfoldable pub descriptor_by : Result ⊤ Refusal → Record → List ℕ → ℕ → List ℕ
descriptor_by (Ok passed) r d vector = descriptor_out r d vector
descriptor_by (Err refusal) r d vector = d

-- The claim of every function that carries out an external interrupt: what any input leaves, and the descriptor's bytes.
pub record LeavesLent (a : After) (d : List ℕ) (r : Outcome) (p d' : List ℕ) : Type 0 where
  pub outcome : Leaves a r p
  pub descriptor : d' ≡ d

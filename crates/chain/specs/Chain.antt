-- A chain of calls from C, each call's page and record bytes handed on to the next, and the run over the inputs read from them.
use Rattle.std.specs.Prelude.{ℕ, ◌<◌, ◌≡◌, Bool, true, ◌&&◌, List, [], ◌∷◌, eqb, length, replicate, if◌then◌else◌}
use Rattle.processor.specs.Offsets.{virr, visr}
use Rattle.events.specs.Answers.{numbers}
use Rattle.events.specs.declared.answer.Numbers.{Numbers}
use Rattle.page.specs.Page.{byte_at}
use Rattle.meaning.specs.Input.{Input, given, external, leaves}
use Rattle.meaning.specs.Step.{descriptor_after}
use Rattle.meaning.specs.Run.{zero_page, Held, start, step_of, held_after, after}
use Rattle.layout.specs.RecordBytes.{record_readable, record_of}
use Rattle.keeping.specs.KeptBytes.{bytes_of}
use Rattle.layout.specs.EventBytes.{event_readable, event_of}
use Rattle.replies.specs.Replies.{Reply, LentReply, gg_step, gg_external_interrupt, gg_leave}
use Rattle.calls.specs.Calls.{gg_highest}

-- gg_step on an event's bytes, gg_external_interrupt with a descriptor's bytes and a vector, or gg_leave
pub data Call : Type 0 where
  steps : List ℕ → Call
  interrupts : List ℕ → ℕ → Call
  leave : Call

-- the page and the record's bytes that a simulator lends to each call
pub record Lent : Type 0 where
  pub page : List ℕ
  pub record_bytes : List ℕ

-- a zero page, and the bytes that gg_fresh leaves
abbrev pub begin : Lent
begin = record { page = zero_page; record_bytes = replicate 48 0 }

abbrev pub reply_to : Lent → Call → Reply
reply_to l (steps e) = gg_step l.page l.record_bytes e
reply_to l (interrupts d vector) = (gg_external_interrupt l.page l.record_bytes d vector).reply
reply_to l leave = gg_leave l.page l.record_bytes

abbrev pub lent_after : Reply → Lent
lent_after a = record { page = a.page; record_bytes = a.record_bytes }

-- what the calls leave, and the numbers that they bring back, in order
abbrev pub chain : Lent → List Call → Lent
chain l [] = l
chain l (c ∷ cs) = chain (lent_after (reply_to l c)) cs

abbrev pub numbers_of_reply : Reply → Numbers
numbers_of_reply a = numbers a.answer a.first a.second

abbrev pub brought : Lent → List Call → List Numbers
brought l [] = []
brought l (c ∷ cs) = numbers_of_reply (reply_to l c) ∷ brought (lent_after (reply_to l c)) cs

-- an event's bytes can be read where they are 48 and hold an event
abbrev pub can_be_read : Call → Bool
can_be_read (steps e) = eqb (length e) 48 && event_readable e
can_be_read (interrupts d vector) = true
can_be_read leave = true

abbrev pub input_of : Call → Input
input_of (steps e) = given (event_of e)
input_of (interrupts d vector) = external d vector
input_of leave = leaves

-- the inputs read from the calls; a call that cannot be read brings none
abbrev pub inputs : List Call → List Input
inputs [] = []
inputs (c ∷ cs) = if can_be_read c then (input_of c ∷ inputs cs) else inputs cs

-- the numbers of the run over these inputs, with refusal 2 for each call that cannot be read
abbrev pub told : Held → List Call → List Numbers
told h [] = []
told h (c ∷ cs) =
    if can_be_read c then ((step_of h (input_of c)).answer ∷ told (held_after (step_of h (input_of c))) cs)
    else (numbers 0 2 0 ∷ told h cs)

-- an event's bytes are bytes
abbrev pub CallBytes : Call → Type 0
CallBytes (steps e) = (i : ℕ) → byte_at e i < 256
CallBytes (interrupts d vector) = Unit
CallBytes leave = Unit

abbrev pub AllBytes : List Call → Type 0
AllBytes [] = Unit
AllBytes (c ∷ cs) = CallBytes c × AllBytes cs

-- what is held, read from what is lent
abbrev pub held_of : Lent → Held
held_of l = record { page = l.page; state = record_of l.record_bytes }

-- A chain of calls is a run: it brings back the numbers, and leaves the page and the record's bytes, of the run over the inputs read
-- from it; and the record can still be read.
pub record IsRun (cs : List Call) : Type 0 where
  pub numbers : brought begin cs ≡ told start cs
  pub page : (chain begin cs).page ≡ (after start (inputs cs)).page
  pub record_bytes : (chain begin cs).record_bytes ≡ bytes_of (after start (inputs cs)).state
  pub readable : record_readable (chain begin cs).record_bytes ≡ true
  pub held : held_of (chain begin cs) ≡ after start (inputs cs)

-- what gg_highest brings back tells an RVI or SVI: a vector is it, and where there is none it is 0
pub data Tells : Numbers → ℕ → Type 0 where
  vector : (v : ℕ) → Tells (numbers 1 v 0) v
  none : Tells (numbers 2 0 0) 0

-- gg_highest, asked about what is held, tells RVI of VIRR and SVI of VISR.
pub record Asked (h : Held) : Type 0 where
  pub rvi : Tells (gg_highest h.page virr) h.state.rvi
  pub svi : Tells (gg_highest h.page visr) h.state.svi

-- A refused call leaves every lent byte.
abbrev pub Untouched : List ℕ → List ℕ → Reply → Type 0
Untouched p b a = a.answer ≡ 0 → (a.page ≡ p) × (a.record_bytes ≡ b)

-- and so does a refused gg_external_interrupt, the descriptor's among them
abbrev pub UntouchedLent : List ℕ → List ℕ → List ℕ → LentReply → Type 0
UntouchedLent p b d a = Untouched p b a.reply × (a.reply.answer ≡ 0 → a.descriptor ≡ d)

-- After any calls gg_external_interrupt leaves the descriptor that the run's external interrupt leaves.
abbrev pub LeavesDescriptor : List Call → List ℕ → ℕ → Type 0
LeavesDescriptor cs d v =
    (gg_external_interrupt (chain begin cs).page (chain begin cs).record_bytes d v).descriptor
    ≡ descriptor_after (after start (inputs cs)).page (after start (inputs cs)).state d v

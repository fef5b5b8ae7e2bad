-- What gg_step, gg_external_interrupt and gg_leave reply, and what they leave in the lent bytes.
use Rattle.std.specs.Prelude.{ℕ, ◌≡◌, Bool, not, ◌&&◌, List, eqb, length, if◌then◌else◌}
use Rattle.events.specs.Answers.{numbers_of}
use Rattle.events.specs.declared.answer.Numbers.{Numbers}
use Rattle.events.specs.declared.answer.Outcome.{Outcome}
use Rattle.events.specs.declared.event.Event.{Event}
use Rattle.meaning.specs.Input.{given, external, leaves}
use Rattle.meaning.specs.After.{After}
use Rattle.meaning.specs.Step.{step, descriptor_after}
use Rattle.descriptor.specs.Descriptor.{descriptor_fits}
use Rattle.layout.specs.EventBytes.{event_readable, event_of}
use Rattle.layout.specs.RecordBytes.{record_readable, record_of}
use Rattle.keeping.specs.KeptBytes.{kept}

pub record Reply : Type 0 where
  pub answer : ℕ
  pub first : ℕ
  pub second : ℕ
  pub record_bytes : List ℕ
  pub page : List ℕ

-- refused: page and record bytes unchanged
abbrev pub refused : ℕ → List ℕ → List ℕ → Reply
refused number p b = record { answer = 0; first = number; second = 0; record_bytes = b; page = p }

-- the outcome's numbers, and the record's bytes as they say
pub record Told (o : Outcome) (b : List ℕ) (n : Numbers) (b' : List ℕ) : Type 0 where
  pub numbers : n ≡ numbers_of o.answer
  pub record_bytes : b' ≡ kept b n.answer o.«record»

-- the model's answer and page, with the record's bytes where it did not refuse
abbrev pub replied : List ℕ → After → Reply
replied b a =
    record {
      answer = a.answer.answer;
      first = a.answer.first;
      second = a.answer.second;
      record_bytes = kept b a.answer.answer a.state;
      page = a.page;
    }

-- the model's step on a record and an event that can be read
unfoldable pub model_reply : List ℕ → List ℕ → List ℕ → Reply
model_reply p b e = replied b (step p (record_of b) (given (event_of e)))

-- an event of one kind, on a record that can be read: refusal 2 where its bytes cannot be read
unfoldable pub kind_reply : Bool → Event → List ℕ → List ℕ → Reply
kind_reply readable e p b =
    if not readable then refused 2 p b
    else replied b (step p (record_of b) (given e))

-- Refusal 1: the page isn't 4,096 bytes. 2: record or event aren't 48 bytes each, or cannot be read. The model's refusals follow.
unfoldable pub gg_step : List ℕ → List ℕ → List ℕ → Reply
gg_step p b e =
    if not (eqb (length p) 4096) then refused 1 p b
    else if not (eqb (length b) 48) then refused 2 p b
    else if not (eqb (length e) 48) then refused 2 p b
    else if not (record_readable b && event_readable e) then refused 2 p b
    else model_reply p b e

-- gg_leave takes no page, and leaves whatever page there is. Refusal 2: the record isn't 48 bytes, or cannot be read. The model's
-- refusals follow.
unfoldable pub leave_reply : List ℕ → List ℕ → Reply
leave_reply p b = replied b (step p (record_of b) leaves)

unfoldable pub gg_leave : List ℕ → List ℕ → Reply
gg_leave p b =
    if not (eqb (length b) 48) then refused 2 p b
    else if not (record_readable b) then refused 2 p b
    else leave_reply p b

-- The claim of gg_step and gg_leave, and of gg_external_interrupt without its descriptor: the answer, its two values, the record's bytes and the page are the definition's.
pub record Replies (a : Reply) (n f s : ℕ) (b p : List ℕ) : Type 0 where
  pub answer : n ≡ a.answer
  pub first : f ≡ a.first
  pub second : s ≡ a.second
  pub record_bytes : b ≡ a.record_bytes
  pub page : p ≡ a.page

-- ---- a call that takes a descriptor replies with its bytes too
pub record LentReply : Type 0 where
  pub reply : Reply
  pub descriptor : List ℕ

-- refused: page, record bytes and descriptor unchanged
abbrev pub refused_lent : ℕ → List ℕ → List ℕ → List ℕ → LentReply
refused_lent number p b d = record { reply = refused number p b; descriptor = d }

-- the model's step on a record that can be read
unfoldable pub external_reply : List ℕ → List ℕ → List ℕ → ℕ → LentReply
external_reply p b d vector =
    record {
      reply = replied b (step p (record_of b) (external d vector));
      descriptor = descriptor_after p (record_of b) d vector;
    }

-- Refusal 1: the page isn't 4,096 bytes. 5: the descriptor isn't 64. 2: the record isn't 48, or cannot be read. The model's refusals
-- follow.
unfoldable pub gg_external_interrupt : List ℕ → List ℕ → List ℕ → ℕ → LentReply
gg_external_interrupt p b d vector =
    if not (eqb (length p) 4096) then refused_lent 1 p b d
    else if not (descriptor_fits d) then refused_lent 5 p b d
    else if not (eqb (length b) 48) then refused_lent 2 p b d
    else if not (record_readable b) then refused_lent 2 p b d
    else external_reply p b d vector

-- The claim of gg_external_interrupt: the reply, and every byte of the descriptor.
pub record RepliesLent (a : LentReply) (n f s : ℕ) (b p d : List ℕ) : Type 0 where
  pub reply : Replies a.reply n f s b p
  pub descriptor : d ≡ a.descriptor

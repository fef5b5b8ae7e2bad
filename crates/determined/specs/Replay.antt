-- The claims of the functions that a replay is made of allow one outcome: text, reader, session, replay.
use Rattle.std.specs.Prelude.{ℕ, ◌≡◌, List, Option}
use Rattle.std.specs.Borrow.{Bor}
use Rattle.text.specs.Written.{Writes}
use Rattle.trace.specs.Format.{next_place}
use Rattle.reader.specs.declared.Reader.{Reader}
use Rattle.recorded.specs.Session.{Session}
use Rattle.session.specs.declared.Told.{Told}
use Rattle.session.specs.Told.{Begins, Tells}
use Rattle.playback.specs.declared.Text.{Text}
use Rattle.playback.specs.Replays.{Replays, GgReplays}
use Rattle.program.specs.Program.{PrintsHeld}
use Rattle.determined.specs.Determines.{Determines}

pub record ReplayDetermined : Type 0 where
  -- the place after a line, and the buffer
  pub writes : (o : List ℕ) (at : ℕ) (text : List ℕ) → Determines (λ (x : record { next : ℕ; buffer : List ℕ }). Writes o at text x.next x.buffer)
  -- a reader made of a trace; the same at the next record
  pub reader_new : (t : Bor (List ℕ)) → Determines (λ (r : Reader). (r.trace ≡ t) × (r.place ≡ 1))
  pub reader_next : (r : Reader) → Determines (λ (q : Reader). (q.trace ≡ r.trace) × (q.place ≡ next_place r.trace.now r.place))
  -- the state before the first record; answer, state and page after a record
  pub begins : Determines Begins
  pub tells : (s : Session) (b : List ℕ) → Determines (λ (x : record { result : Told; page : List ℕ }). Tells s b x.result x.page)
  -- the length of the program's text, and the buffer
  pub program : (b : List ℕ) (n : ℕ) (o : List ℕ) → Determines (λ (x : record { result : ℕ; buffer : List ℕ }). PrintsHeld b n o x.result x.buffer)
  -- where the text fits, its end and the records counted; and the buffer; from C, the answer, the bytes written and the buffer
  pub replays : (t : List ℕ) (limit : ℕ) (o : List ℕ) → Determines (λ (x : record { result : Option Text; buffer : List ℕ }). Replays t limit o x.result x.buffer)
  pub gg_replays : (t : List ℕ) (limit : ℕ) (o : List ℕ) → Determines (λ (x : record { answer : ℕ; written : ℕ; buffer : List ℕ }). GgReplays t limit o x.answer x.written x.buffer)

-- What the turns of a replay leave.
use Rattle.std.specs.Prelude.{ℕ, ◌+◌, ◌*◌, ◌≤◌, ◌<◌, ◌≡◌, Bool, true, false, List, eqb, leb, length, if◌then◌else◌}
use Rattle.meaning.specs.Run.{zero_page}
use Rattle.trace.specs.Format.{record_readable, body_at, next_place}
use Rattle.text.specs.Lines.{line, done_line, bad_line}
use Rattle.text.specs.Written.{written, Writes}
use Rattle.recorded.specs.Session.{begin, answer_to, session_after}
use Rattle.recorded.specs.Replay.{bodies, text_from}
use Rattle.session.specs.Told.{Begins, session_of}
use Rattle.playback.specs.declared.Text.{Text}
use Rattle.playback.specs.declared.turns.Turn.{Turn}

-- The stated number is not reached, the trace is not at its end, and its next record can be read.
unfoldable pub goes_on : List ℕ → Turn → Bool
goes_on t u =
    if eqb u.left 0 then false
    else if leb (length t) u.place then false
    else record_readable t u.place

-- the last line, where it does not go on, by the number of records left, the place and the count
unfoldable pub last_of : List ℕ → ℕ → ℕ → ℕ → List ℕ
last_of t left place count =
    if eqb left 0 then done_line count
    else if leb (length t) place then done_line count
    else bad_line (count + 1)

-- before the first record
pub record Starts (limit : ℕ) (u : Turn) : Type 0 where
  pub state : Begins u.state
  pub left : u.left ≡ limit
  pub place : u.place ≡ 1
  pub count : u.count ≡ 0
  pub at : u.at ≡ 0

-- it goes on, and the numbers are small
pub record Ready (t : List ℕ) (u : Turn) : Type 0 where
  pub on : goes_on t u ≡ true
  pub count : u.count ≤ 61440
  pub at : u.at ≤ 50 * u.count

-- one record carried out: its line is written, one record fewer may be read
pub record Turned (t p o : List ℕ) (u r : Turn) (p' o' : List ℕ) : Type 0 where
  pub session : session_of p' r.state ≡ session_after (session_of p u.state) (body_at t u.place)
  pub left : r.left + 1 ≡ u.left
  pub place : r.place ≡ next_place t u.place
  pub count : r.count ≡ u.count + 1
  pub text : Writes o u.at (line (u.count + 1) (answer_to (session_of p u.state) (body_at t u.place))) r.at o'
  pub short : r.at ≤ u.at + 50

-- the last line written, after the last turn
pub record Closes (t o : List ℕ) (u : Turn) (r : Text) (o' : List ℕ) : Type 0 where
  pub text : Writes o u.at (last_of t u.left u.place u.count) r.end o'
  pub count : r.count ≡ u.count

-- what is still to be printed
abbrev pub text_left : List ℕ → List ℕ → Turn → List ℕ
text_left t p u = text_from u.left t u.place u.count (session_of p u.state)

-- A replay under way, of a text and a number of records in all: what is written and what is left make up the text.
pub record Going (t : List ℕ) (limit : ℕ) (text : List ℕ) (records : ℕ) (o₀ p o : List ℕ) (u : Turn) : Type 0 where
  pub buffer : written o u.at (text_left t p u) ≡ written o₀ 0 text
  pub end : u.at + length (text_left t p u) ≡ length text
  pub counted : u.count + length (bodies u.left t u.place) ≡ records
  pub limited : u.count + u.left ≡ limit
  pub early : u.count < u.place
  pub inside : u.place ≤ length t + 1
  pub short : u.at ≤ 50 * u.count

-- the replay of a trace from a page on, at its last line
pub record Ended (t : List ℕ) (limit : ℕ) (p₀ o₀ : List ℕ) (u : Turn) (p o : List ℕ) : Type 0 where
  pub over : goes_on t u ≡ false
  pub going : Going t limit (text_from limit t 1 0 (record { held = record { page = p₀; state = begin.held.state }; controls = begin.controls })) (length (bodies limit t 1)) o₀ p o u

-- the same from a page of zeros, on whatever page it ends
pub record Lasts (t : List ℕ) (limit : ℕ) (o₀ : List ℕ) (u : Turn) (o : List ℕ) : Type 0 where
  pub page : List ℕ
  pub ended : Ended t limit zero_page o₀ u page o

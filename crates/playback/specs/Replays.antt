-- What a replay leaves of a lent buffer, and what it answers.
use Rattle.std.specs.Prelude.{ℕ, ◌+◌, ◌*◌, ◌≤◌, ◌≡◌, Bool, List, ◌++◌, Option, Some, None, IsSome, leb, length, drop, if◌then◌else◌}
use Rattle.text.specs.Written.{Writes}
use Rattle.recorded.specs.Replay.{replay_text, replayed}
use Rattle.playback.specs.declared.Text.{Text}

-- room for every trace: lines of at most 50 characters, and a last line of at most 11
abbrev pub room_for : ℕ → ℕ
room_for limit = 50 * limit + 11

-- the text, as far as the buffer goes
pub record Prints (t : List ℕ) (limit : ℕ) (o : List ℕ) (r : Text) (o' : List ℕ) : Type 0 where
  pub text : Writes o 0 (replay_text t limit) r.end o'
  pub count : r.count ≡ length (replayed t limit)
  pub room : r.end ≤ room_for limit

-- The text fits the buffer.
unfoldable pub text_fits : List ℕ → ℕ → List ℕ → Bool
text_fits t limit o = leb (length (replay_text t limit)) (length o)

-- The text stands at the buffer's start, and what is behind it stays; nothing of a buffer that is too short is changed.
unfoldable pub buffer_after : List ℕ → ℕ → List ℕ → List ℕ
buffer_after t limit o = if text_fits t limit o then (replay_text t limit ++ drop (length (replay_text t limit)) o) else o

-- The answer is where the text ends, which is how many bytes are written, and how many records have a line among them; none where it does
-- not fit. A buffer with room for every trace fits.
pub record Replays (t : List ℕ) (limit : ℕ) (o : List ℕ) (r : Option Text) (o' : List ℕ) : Type 0 where
  pub told : r ≡ (if text_fits t limit o then Some (record { end = length (replay_text t limit); count = length (replayed t limit) }) else None)
  pub buffer : o' ≡ buffer_after t limit o
  pub enough : room_for limit ≤ length o → IsSome r

-- the same over the C boundary: 1 where the text is written, 0 where the buffer is too short
pub record GgReplays (t : List ℕ) (limit : ℕ) (o : List ℕ) (answer written : ℕ) (o' : List ℕ) : Type 0 where
  pub fits : answer ≡ (if text_fits t limit o then 1 else 0)
  pub number : written ≡ (if text_fits t limit o then length (replay_text t limit) else 0)
  pub buffer : o' ≡ buffer_after t limit o

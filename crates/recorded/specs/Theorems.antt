-- What is proved of every replay.
use Rattle.std.specs.Prelude.{ℕ, ◌+◌, ◌≡◌, Bool, true, ◌&&◌, List, [], ◌∷◌, ◌++◌, leb, eqb, length, take, if◌then◌else◌}
use Rattle.processor.specs.Controls.{no_controls, virtual_delivery}
use Rattle.processor.specs.declared.controls.Controls.{Controls}
use Rattle.events.specs.declared.answer.Numbers.{Numbers}
use Rattle.meaning.specs.Input.{Input, given}
use Rattle.meaning.specs.Run.{start, after, answers}
use Rattle.trace.specs.Format.{kind_of}
use Rattle.trace.specs.Records.{is_controls, controls_of, event_of}
use Rattle.text.specs.Lines.{line_end}
use Rattle.recorded.specs.Session.{begin, answers_to, session_end}
use Rattle.recorded.specs.Replay.{ends_bad, lines, last_line, is_trace, replay_text, replayed}

-- the events read, kind 0 apart, each entry with the controls before it
abbrev pub inputs_read : Controls → List (List ℕ) → List Input
inputs_read c [] = []
inputs_read c (b ∷ bs) = if is_controls b then inputs_read (controls_of b) bs else (given (event_of c b) ∷ inputs_read c bs)

-- the answers of the records that are events
abbrev pub event_answers : List (List ℕ) → List Numbers → List Numbers
event_answers [] ns = []
event_answers (b ∷ bs) [] = []
event_answers (b ∷ bs) (a ∷ ns) = if is_controls b then event_answers bs ns else (a ∷ event_answers bs ns)

-- how many line ends a text has
abbrev pub line_ends : List ℕ → ℕ
line_ends [] = 0
line_ends (c ∷ cs) = if eqb c line_end then (1 + line_ends cs) else line_ends cs

-- The answers printed are those of the run over the events read, from a zero page and a fresh record, and page and record are the run's.
pub record IsRun (bs : List (List ℕ)) : Type 0 where
  pub answered : event_answers bs (answers_to begin bs) ≡ answers start (inputs_read no_controls bs)
  pub held : (session_end begin bs).held ≡ after start (inputs_read no_controls bs)

-- The text is a line for each record processed and a last line. The count reported is that of the records whose lines are printed: the
-- text has as many line ends before its last.
pub record Counted (t : List ℕ) (limit : ℕ) : Type 0 where
  pub text : is_trace t ≡ true → replay_text t limit ≡ lines 0 (answers_to begin (replayed t limit)) ++ last_line (ends_bad limit t 1) (length (replayed t limit))
  pub printed : length (answers_to begin (replayed t limit)) ≡ length (replayed t limit)
  pub ends : line_ends (replay_text t limit) ≡ length (replayed t limit) + 1

-- the records that end at or before byte n, the first of them at a place
abbrev pub within : ℕ → ℕ → List (List ℕ) → List (List ℕ)
within n place [] = []
within n place (b ∷ bs) = if leb (place + 2 + length b) n then (b ∷ within n (place + 2 + length b) bs) else []

-- Of a trace cut at byte n the records before the cut are the same, and so are their lines: what is behind a record does not change its
-- line.
pub record CutAt (n : ℕ) (t : List ℕ) (limit : ℕ) : Type 0 where
  pub records : replayed (take n t) limit ≡ within n 1 (replayed t limit)
  pub more : List ℕ
  pub same : lines 0 (answers_to begin (replayed t limit)) ≡ lines 0 (answers_to begin (replayed (take n t) limit)) ++ more

-- VID on at each entry: every record of kind 1 finds, as the last of kind 0 before it, controls with virtual-interrupt delivery on. Before
-- the first kind 0 the controls are c.
abbrev pub delivery_on_at : Controls → List (List ℕ) → Bool
delivery_on_at c [] = true
delivery_on_at c (b ∷ bs) =
    if is_controls b then delivery_on_at (controls_of b) bs
    else if eqb (kind_of b) 1 then (virtual_delivery c && delivery_on_at c bs)
    else delivery_on_at c bs

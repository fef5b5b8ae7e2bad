-- Document 02, E5: what a replay prints.
use Rattle.std.specs.Prelude.{ℕ, zero, suc, ◌+◌, Bool, true, false, ◌&&◌, List, [], ◌∷◌, ◌++◌, leb, length, if◌then◌else◌}
use Rattle.events.specs.declared.answer.Numbers.{Numbers}
use Rattle.trace.specs.Format.{version_fits, size_fits, record_readable, body_at, next_place}
use Rattle.text.specs.Lines.{line, done_line, bad_line}
use Rattle.recorded.specs.Session.{Session, begin, answers_to}

-- The records processed: those from a place on, up to the end of the trace, the first that can't be read, or the stated number.
unfoldable pub bodies : ℕ → List ℕ → ℕ → List (List ℕ)
bodies zero t place = []
bodies (suc k) t place =
    if leb (length t) place then []
    else if record_readable t place then (body_at t place ∷ bodies k t (next_place t place))
    else []

-- They end at a record that can't be read.
unfoldable pub ends_bad : ℕ → List ℕ → ℕ → Bool
ends_bad zero t place = false
ends_bad (suc k) t place =
    if leb (length t) place then false
    else if record_readable t place then ends_bad k t (next_place t place)
    else true

-- a line for each answer, after n lines
abbrev pub lines : ℕ → List Numbers → List ℕ
lines n [] = []
lines n (a ∷ rest) = line (n + 1) a ++ lines (n + 1) rest

-- "done" and the count, also when the stated number is reached, or "bad" and the number of the first record that can't be read
unfoldable pub last_line : Bool → ℕ → List ℕ
last_line bad count = if bad then bad_line (count + 1) else done_line count

-- what is printed from a place on, after n lines
unfoldable pub text_from : ℕ → List ℕ → ℕ → ℕ → Session → List ℕ
text_from k t place n s = lines n (answers_to s (bodies k t place)) ++ last_line (ends_bad k t place) (n + length (bodies k t place))

-- a trace: a right version byte, and at most 61,440 bytes
unfoldable pub is_trace : List ℕ → Bool
is_trace t = version_fits t && size_fits t

-- A wrong or missing version byte, or input above 61,440 bytes, prints only "bad 0".
unfoldable pub replay_text : List ℕ → ℕ → List ℕ
replay_text t limit = if is_trace t then text_from limit t 1 0 begin else bad_line 0

-- the records of a trace whose lines are printed
unfoldable pub replayed : List ℕ → ℕ → List (List ℕ)
replayed t limit = if is_trace t then bodies limit t 1 else []

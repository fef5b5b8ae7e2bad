-- What a replay prints, record by record. Assumes nothing.
use native.Mathlib.Omega.{arith}
use Prim.Native.Nat.{ℕ, suc, ◌+◌}
use mathlib.Core.Path.{◌≡◌, ap, ◌∙◌}
use mathlib.Core.Bool.{Bool, true, false}
use mathlib.Core.List.{List, ◌++◌, append_assoc}
use lib.Dec.{leb}
use lib.ListN.{length}
use Rattle.trace.specs.Format.{record_readable, body_at, next_place}
use Rattle.text.specs.Lines.{line, done_line, bad_line}
use Rattle.recorded.specs.Session.{Session, answer_to, session_after, answers_to}
use Rattle.recorded.specs.Replay.{bodies, ends_bad, lines, last_line, text_from}

-- nothing is left to print but the last line
ends : (bad : Bool) (n : ℕ) → last_line bad (n + 0) ≡ last_line bad n
ends bad n = let same : n + 0 ≡ n = omega arith in ap (last_line bad) same

-- the stated number is reached
pub at-limit : (t : List ℕ) (place n : ℕ) (s : Session) → text_from 0 t place n s ≡ done_line n
unfolding text_from bodies ends_bad last_line
at-limit t place n s = ends false n

module _ (k : ℕ) (t : List ℕ) (place n : ℕ) (s : Session) where
  -- the trace is at its end
  pub at-end : leb (length t) place ≡ true → text_from (suc k) t place n s ≡ done_line n
  unfolding text_from bodies ends_bad last_line
  at-end e = simp e (ends false n)

  -- the record can't be read
  pub at-bad : leb (length t) place ≡ false → record_readable t place ≡ false → text_from (suc k) t place n s ≡ bad_line (n + 1)
  unfolding text_from bodies ends_bad last_line
  at-bad e r = simp (e, r) (ends true n)

  -- the record is read: its line, then what follows it
  pub at-record : leb (length t) place ≡ false → record_readable t place ≡ true → text_from (suc k) t place n s ≡ line (n + 1) (answer_to s (body_at t place)) ++ text_from k t (next_place t place) (n + 1) (session_after s (body_at t place))
  unfolding text_from bodies ends_bad last_line
  at-record e r =
      let b = body_at t place in
      let bs = bodies k t (next_place t place) in
      let rest = lines (n + 1) (answers_to (session_after s b) bs) in
      let same : n + suc (length bs) ≡ n + 1 + length bs = omega arith in
      simp (e, r)
      (append_assoc (line (n + 1) (answer_to s b)) rest (last_line (ends_bad k t (next_place t place)) (n + suc (length bs)))
      ∙ ap (λ (m : ℕ). line (n + 1) (answer_to s b) ++ (rest ++ last_line (ends_bad k t (next_place t place)) m)) same)

module _ (k : ℕ) (t : List ℕ) (place : ℕ) where
  -- and one record more is counted
  pub counts : leb (length t) place ≡ false → record_readable t place ≡ true → length (bodies (suc k) t place) ≡ suc (length (bodies k t (next_place t place)))
  unfolding bodies
  counts e r = simp (e, r)

  pub counts_end : leb (length t) place ≡ true → length (bodies (suc k) t place) ≡ 0
  unfolding bodies
  counts_end e = simp e

  pub counts-bad : leb (length t) place ≡ false → record_readable t place ≡ false → length (bodies (suc k) t place) ≡ 0
  unfolding bodies
  counts-bad e r = simp (e, r)

-- A replay is a run over the events read, kind 0 apart. Assumes nothing.
use Prim.Native.Nat.{ℕ}
use mathlib.Core.Path.{◌≡◌, refl, ap}
use mathlib.Core.Bool.{Bool, true, false}
use mathlib.Core.List.{List, [], ◌∷◌}
use Rattle.events.specs.declared.answer.Numbers.{Numbers}
use Rattle.meaning.specs.Run.{after, answers, step_of}
use Rattle.trace.specs.Records.{is_controls}
use Rattle.recorded.specs.Session.{Session, begin, input_of, answer_to, session_after, answers_to, session_end}
use Rattle.recorded.specs.Theorems.{inputs_read, event_answers, IsRun}

answered : (s : Session) (bs : List (List ℕ)) → event_answers bs (answers_to s bs) ≡ answers s.held (inputs_read s.controls bs)
unfolding answer_to session_after
answered s [] = refl
answered s (b ∷ bs) = by (is_controls b) refl (answered (session_after s b) bs)
  where
    by : (x : Bool) → is_controls b ≡ x → event_answers bs (answers_to (session_after s b) bs) ≡ answers (session_after s b).held (inputs_read (session_after s b).controls bs) → event_answers (b ∷ bs) (answers_to s (b ∷ bs)) ≡ answers s.held (inputs_read s.controls (b ∷ bs))
    by true e ih = simp e (simp e at ih)
    by false e ih = simp e (ap (λ (ns : List Numbers). (step_of s.held (input_of s b)).answer ∷ ns) (simp e at ih))

ended : (s : Session) (bs : List (List ℕ)) → (session_end s bs).held ≡ after s.held (inputs_read s.controls bs)
unfolding session_after
ended s [] = refl
ended s (b ∷ bs) = by (is_controls b) refl (ended (session_after s b) bs)
  where
    by : (x : Bool) → is_controls b ≡ x → (session_end (session_after s b) bs).held ≡ after (session_after s b).held (inputs_read (session_after s b).controls bs) → (session_end s (b ∷ bs)).held ≡ after s.held (inputs_read s.controls (b ∷ bs))
    by true e ih = simp e (simp e at ih)
    by false e ih = simp e (simp e at ih)

pub replay-is-run : (bs : List (List ℕ)) → IsRun bs
replay-is-run bs = record { answered = answered begin bs; held = ended begin bs }

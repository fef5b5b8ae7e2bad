-- The laws over one input: it makes the move that it names with its answer, it keeps a settled record settled, and what it leaves fits
-- the widths. Assumes nothing.
use Prim.Native.Nat.{ℕ, ◌<◌}
use mathlib.Core.Path.{◌≡◌, refl, sym, subst}
use mathlib.Core.Bool.{Bool, true, false}
use mathlib.Core.Logic.{◌⊎◌, inl, inr, ⊎_elim}
use mathlib.Core.List.{List}
use Rattle.processor.specs.Controls.{eoi_exit}
use Rattle.processor.specs.Offsets.{virr, visr}
use Rattle.processor.specs.declared.controls.Record.{Record}
use Rattle.events.specs.Answers.{numbers}
use Rattle.events.specs.declared.answer.Refusal.{Refusal}
use Rattle.std.specs.Prelude.{⊤, Result, Ok, Err}
use Rattle.events.specs.Answers.{refusal_number, refusal_check}
use Rattle.events.specs.declared.event.Event.TheVariants.{Entry}
use Rattle.page.specs.Page.{IsPage}
use Rattle.registers.specs.Vectors.{highest}
use Rattle.register_laws.proofs.Registers.{highest-byte}
use Rattle.meaning.specs.Input.{Input, given}
use Rattle.meaning.specs.After.{After}
use Rattle.meaning.specs.Procedures.{evaluation, evaluated_quiet, retired_record, eoi_end, eoi_virtualization, requested_record, self_ipi_virtualization}
use Rattle.meaning.specs.Entry.{request}
use Rattle.meaning.specs.Boundary.{delivered_record, delivery}
use Rattle.meaning.specs.External.{posted_record, posting}
use Rattle.meaning.specs.Leave.{left}
use Rattle.meaning.specs.Refusals.{refusal_of}
use Rattle.meaning.specs.Step.{step_by, step}
use Rattle.conditions.specs.Moves.{Move, stays, raises, delivers, retires, is_delivered, move_of, Moved}
use Rattle.conditions.specs.Settled.{Settled}
use Rattle.meaning.specs.Widths.{ByteRecord, ControlsFit, RecordFits, InputFits}
use Rattle.conditions.specs.History.{delivery_on}
use Rattle.conditions.proofs.Endings.{Ends, reads, passes, faults, exits, stores, evaluates, enters, retiring, sending, requesting, posts, delivering, leaving, ends}
use Rattle.conditions.proofs.Raised.{largest-byte}
use Rattle.conditions.proofs.Good.{Good, good-same, good}

module _ (p : List ℕ) (r : Record) (i : Input) (g : IsPage p) (b : ByteRecord r) where
  -- every input: a refusal changes nothing, anything else ends in one of the ways
  pub laws : Good p r i (step p r i)
  unfolding step
  laws = by (refusal_of p r i) refl
    where
      by : (x : Result ⊤ Refusal) → refusal_of p r i ≡ x → Good p r i (step_by x p r i)
      by (Ok passed) e = unfold step_by in good p r i g b (ends p r i e)
      by (Err refusal) e = unfold step_by in good-same p r i g b (numbers 0 (refusal_number refusal) (refusal_check refusal)) refl refl

  -- the moves law: an input does to VIRR, VISR, RVI and SVI what its answer names
  pub moves : Moved (move_of i (step p r i).answer) p r (step p r i)
  moves = laws.moved

  -- the law beside it: a settled record stays settled
  pub settles : r.rvi ≡ highest p virr → Settled p r → delivery_on i ≡ true → Settled (step p r i).page (step p r i).state
  settles = laws.settled

  -- an input that is answered delivered delivers what its answer names
  pub answers-deliver : is_delivered (step p r i).answer ≡ true → move_of i (step p r i).answer ≡ delivers (step p r i).answer.first
  answers-deliver = laws.named

-- ---- widths
-- a move leaves RVI and SVI bytes
byte-move : (m : Move) (p : List ℕ) (r : Record) (a : After) → ByteRecord r → Moved m p r a → ByteRecord a.state
byte-move stays p r a b d = record { rvi = rw d.rvi b.rvi; svi = rw d.svi b.svi }
byte-move (raises vs) p r a b d = record { rvi = rw d.rvi (largest-byte r.rvi vs b.rvi d.vector); svi = rw d.svi b.svi }
byte-move (delivers v) p r a b d = record { rvi = rw d.rvi (highest-byte a.page virr); svi = rw d.svi (subst (λ x. x < 256) (sym d.vector.is_rvi) b.rvi) }
byte-move retires p r a b d = record { rvi = rw d.rvi b.rvi; svi = rw d.svi (highest-byte a.page visr) }

-- the controls are those in force, or the entry's
module _ (p : List ℕ) (r : Record) (i : Input) where
  eoi-controls : (q : List ℕ) → (eoi_virtualization q r).state.controls ≡ r.controls
  unfolding eoi_virtualization eoi_end evaluated_quiet evaluation retired_record
  eoi-controls q = by (eoi_exit r.controls r.svi) refl
    where
      by : (x : Bool) → eoi_exit r.controls r.svi ≡ x → (eoi_virtualization q r).state.controls ≡ r.controls
      by true e = simp e
      by false e = simp e

  taken : {a : After} → Ends p r i a → (a.state.controls ≡ r.controls) ⊎ (i ≡ given (Entry a.state.controls))
  unfolding evaluated_quiet evaluation self_ipi_virtualization requested_record request posting posted_record delivery delivered_record left
  taken (reads value) = inl refl
  taken passes = inl refl
  taken faults = inl refl
  taken (exits reason qualification s n k m) = m.controls
  taken (stores m k) = inl refl
  taken (evaluates s m t d k n) = n.controls
  taken (enters c e d) = inr e
  taken (retiring m t k) = inl (eoi-controls _)
  taken (sending v m h t k) = inl refl
  taken (requesting v m h t) = inl refl
  taken (posts d m t) = inl refl
  taken (delivering m t y) = inl refl
  taken (leaving e) = inl refl

  pub controls-after : ((step p r i).state.controls ≡ r.controls) ⊎ (i ≡ given (Entry (step p r i).state.controls))
  unfolding step
  controls-after = by (refusal_of p r i) refl
    where
      by : (x : Result ⊤ Refusal) → refusal_of p r i ≡ x → ((step_by x p r i).state.controls ≡ r.controls) ⊎ (i ≡ given (Entry (step_by x p r i).state.controls))
      by (Ok passed) e = unfold step_by in taken (ends p r i e)
      by (Err refusal) e = unfold step_by in inl refl

  controls-fit : ControlsFit r.controls → InputFits i → ControlsFit (step p r i).state.controls
  controls-fit f o = ⊎_elim (λ q. subst ControlsFit (sym q) f) (λ q. o _ q) controls-after

  -- what an input leaves fits, where what it was given fits
  pub fits : IsPage p → RecordFits r → InputFits i → RecordFits (step p r i).state
  fits g f o = record {
    vectors = byte-move (move_of i (step p r i).answer) p r (step p r i) f.vectors (moves p r i g f.vectors);
    controls = controls-fit f.controls o;
  }

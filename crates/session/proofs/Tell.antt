-- What a record tells, from what its parts tell. Assumes nothing.
use Rattle.std.specs.Prelude.{if◌then◌else◌}
use native.Mathlib.Omega.{arith}
use Prim.Native.Nat.{ℕ, ◌<◌}
use mathlib.Core.Path.{◌≡◌, refl, sym, ap, ◌∙◌}
use mathlib.Core.Bool.{Bool, true, false, true≢false}
use mathlib.Core.Logic.{⊎_elim}
use lib.Dec.{eqb}
use mathlib.Core.List.{List}
use Rattle.processor.specs.Controls.{with_controls}
use Rattle.processor.specs.declared.controls.Controls.{Controls}
use Rattle.processor.specs.declared.controls.Record.{Record}
use Rattle.page.specs.Page.{byte_at}
use Rattle.events.specs.Answers.{numbers_of}
use Rattle.events.specs.declared.answer.Answer.{Answer}
use Rattle.events.specs.declared.answer.Answer.TheVariants.{Refused, Redirected, Passthrough, Fault, Exit, Delivered, Quiet}
use Rattle.events.specs.declared.answer.Numbers.{Numbers}
use Rattle.events.specs.declared.answer.Outcome.{Outcome}
use Rattle.meaning.specs.After.{Leaves}
use Rattle.events.specs.declared.event.Event.TheVariants.{Entry, Request, MemoryRead, MemoryWrite, ToCr8, FromCr8, Rdmsr, Wrmsr, Boundary}
use Rattle.meaning.specs.Input.{Input, given, external, leaves}
use Rattle.meaning.specs.Step.{step}
use Rattle.conditions.proofs.Laws.{controls-after}
use Rattle.trace.specs.Fields.{four_at}
use Rattle.trace.specs.Format.{kind_of}
use Rattle.trace.specs.Records.{memory_read_of, memory_write_of, to_cr8_of, wrmsr_of, boundary_of, event_of}
use Rattle.recorded.specs.Session.{answer_to, session_after}
use Rattle.session.specs.declared.State.{State}
use Rattle.session.specs.Told.{session_of, Tells}

-- an answer's number has one digit
pub one_digit : (a : Answer) → (numbers_of a).answer < 10
one_digit (Refused number check) = omega arith
one_digit (Redirected value) = omega arith
one_digit Passthrough = omega arith
one_digit Fault = omega arith
one_digit (Exit reason qualification) = omega arith
one_digit (Delivered vector) = omega arith
one_digit Quiet = omega arith

-- an entry alone brings controls of its own
abbrev is_entry : Input → Bool
is_entry (given (Entry controls)) = true
is_entry (given (Request vector)) = false
is_entry (given (MemoryRead access)) = false
is_entry (given (MemoryWrite access value)) = false
is_entry (given (ToCr8 value register)) = false
is_entry (given (FromCr8 register)) = false
is_entry (given (Rdmsr index)) = false
is_entry (given (Wrmsr index value)) = false
is_entry (given (Boundary at)) = false
is_entry (external d vector) = false
is_entry leaves = false

no-entry : (c : Controls) (b : List ℕ) → eqb (kind_of b) 1 ≡ false → is_entry (given (event_of c b)) ≡ false
unfolding event_of memory_read_of memory_write_of to_cr8_of wrmsr_of boundary_of
no-entry c b e = simp e (by (eqb (kind_of b) 2) (eqb (kind_of b) 3) (eqb (kind_of b) 4) (eqb (kind_of b) 5) (eqb (kind_of b) 6) (eqb (kind_of b) 7) (eqb (kind_of b) 8))
  where
    by : (x₂ x₃ x₄ x₅ x₆ x₇ x₈ : Bool) → is_entry (given (if x₂ then memory_read_of b else (if x₃ then memory_write_of b else (if x₄ then to_cr8_of b else (if x₅ then FromCr8 (byte_at b 1) else (if x₆ then Rdmsr (four_at b 1) else (if x₇ then wrmsr_of b else (if x₈ then boundary_of b else Request (byte_at b 1))))))))) ≡ false
    by true x₃ x₄ x₅ x₆ x₇ x₈ = refl
    by false true x₄ x₅ x₆ x₇ x₈ = refl
    by false false true x₅ x₆ x₇ x₈ = refl
    by false false false true x₆ x₇ x₈ = refl
    by false false false false true x₇ x₈ = refl
    by false false false false false true x₈ = refl
    by false false false false false false true = refl
    by false false false false false false false = refl

-- every other kind leaves the controls in force
same-controls : (p q : List ℕ) (r : Record) (c : Controls) (b : List ℕ) (o : Outcome) → eqb (kind_of b) 1 ≡ false → Leaves (step p r (given (event_of c b))) o q → o.«record».controls ≡ r.controls
same-controls p q r c b o e l =
    ap (λ (s : Record). s.controls) l.state ∙ ⊎_elim (λ h. h) (λ h. absurd (true≢false (sym (ap is_entry h) ∙ no-entry c b e))) (controls-after p r (given (event_of c b)))

pub tell-event : (p q : List ℕ) (s : State) (b : List ℕ) (o : Outcome) (n : Numbers) → eqb (kind_of b) 0 ≡ false → eqb (kind_of b) 1 ≡ false → Leaves (step p s.«record» (given (event_of s.controls b))) o q → n ≡ numbers_of o.answer → Tells (session_of p s) b (record { numbers = n; state = record { «record» = with_controls o.«record» s.«record».controls; controls = s.controls } }) q
unfolding answer_to session_after
tell-event p q s b o n z e l m =
    let same : with_controls o.«record» s.«record».controls ≡ o.«record» = ap (λ (c : Controls). with_controls o.«record» c) (sym (same-controls p q s.«record» s.controls b o e l)) in
    record {
      answer = simp z (m ∙ l.answer);
      session = simp z (ap (λ (r : Record). session_of q (record { «record» = r; controls = s.controls })) (same ∙ l.state) ∙ simp l.page);
      small = rw m (one_digit o.answer);
    }

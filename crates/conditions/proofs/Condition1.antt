-- Condition 1: what is refused, and what each other answer leaves, read off the ordered list of refusals and the ways to end. Assumes
-- nothing.
use Prim.Native.Nat.{ℕ}
use mathlib.Core.Path.{◌≡◌, refl, ◌∙◌, ap, subst}
use mathlib.Core.Bool.{Bool, true, false, not, true≢false, false≢true}
use mathlib.Core.List.{List}
use lib.Dec.{eqb, ltb}
use lib.ListN.{length}
use Rattle.processor.specs.Controls.{eoi_exit, external_interrupt_exiting}
use Rattle.processor.specs.Offsets.{vtpr}
use Rattle.processor.specs.declared.controls.Controls.{Controls}
use Rattle.processor.specs.declared.controls.Record.{Record}
use Rattle.events.specs.Answers.{numbers}
use Rattle.events.specs.declared.answer.Numbers.{Numbers}
use Rattle.events.specs.declared.answer.Refusal.{Refusal}
use Rattle.std.specs.Prelude.{⊤, Result, Ok, Err}
use Rattle.events.specs.Answers.{refusal_number, refusal_check}
use Rattle.events.specs.declared.answer.Refusal.TheVariants.{PageLength, DescriptorLength, Bounds, Mode, EntryCheck}
use Rattle.events.specs.Events.{in_bounds, allowed}
use Rattle.events.specs.declared.event.Event.{Event}
use Rattle.events.specs.declared.event.Event.TheVariants.{Entry, Request, MemoryRead, MemoryWrite, ToCr8, FromCr8, Rdmsr, Wrmsr, Boundary}
use Rattle.page.specs.Page.{byte_at}
use Rattle.rules.specs.EntryChecks.{failing_check}
use Rattle.descriptor.specs.Descriptor.{cleared}
use Rattle.meaning.specs.Input.{Input, given, external, leaves}
use Rattle.meaning.specs.After.{After, quiet}
use Rattle.meaning.specs.Procedures.{evaluated_quiet, retired_record, eoi_end, eoi_virtualization, self_ipi_virtualization}
use Rattle.meaning.specs.Entry.{request}
use Rattle.meaning.specs.Boundary.{delivery}
use Rattle.meaning.specs.External.{notifies, posting, external_interrupt, descriptor_out, descriptor_by}
use Rattle.meaning.specs.Leave.{left}
use Rattle.meaning.specs.Refusals.{event_check, refusal_of}
use Rattle.meaning.specs.Step.{carried_out, step_by, step, descriptor_after}
use Rattle.conditions.specs.Condition1.{Refused, changes_nothing, CarriedOut, Answered, LeaveAnswered, DescriptorLeft, ExternalAnswered}
use Rattle.meaning.proofs.Refused.{refusal-1, refusal-5, refusal-2, refusal-3, refusal-4, no-refusal}
use Rattle.conditions.proofs.Posting.{same_size, same_above, same_rest}
use Rattle.conditions.proofs.Endings.{Ends, reads, passes, faults, exits, stores, evaluates, enters, retiring, sending, requesting, posts, delivering, leaving, ends}

module _ (p : List ℕ) (r : Record) where
  -- redirected, passthrough, fault
  unchanged : (n : Numbers) → eqb n.answer 0 ≡ false → eqb n.answer 4 ≡ false → CarriedOut p r (record { answer = n; state = r; page = p })
  unchanged n e f = record {
    answer = e;
    page = λ t. refl;
    state = λ t. refl;
    root = λ t. absurd (false≢true (simp f at t));
    unrecognised = λ t. absurd (false≢true (simp f at t));
  }

  -- a VM exit
  exited : (reason qualification : ℕ) (q : List ℕ) (s : Record) → s.guest ≡ false → s.recognised ≡ false → CarriedOut p r (record { answer = numbers 4 reason qualification; state = s; page = q })
  exited reason qualification q s g u = record {
    answer = refl;
    page = λ t. absurd (false≢true t);
    state = λ t. absurd (false≢true t);
    root = λ t. g;
    unrecognised = λ t. u;
  }

  -- delivered, quiet
  done : (n : Numbers) (q : List ℕ) (s : Record) → ltb n.answer 4 ≡ false → eqb n.answer 0 ≡ false → eqb n.answer 4 ≡ false → CarriedOut p r (record { answer = n; state = s; page = q })
  done n q s c e f = record {
    answer = e;
    page = λ t. absurd (false≢true (simp c at t));
    state = λ t. absurd (false≢true (simp c at t));
    root = λ t. absurd (false≢true (simp f at t));
    unrecognised = λ t. absurd (false≢true (simp f at t));
  }

  calm : (q : List ℕ) (s : Record) → CarriedOut p r (quiet q s)
  calm q s = done (numbers 6 0 0) q s refl refl refl

  retired : (q : List ℕ) → CarriedOut p r (eoi_virtualization q r)
  unfolding eoi_virtualization eoi_end evaluated_quiet retired_record
  retired q = by (eoi_exit r.controls r.svi) refl
    where
      by : (x : Bool) → eoi_exit r.controls r.svi ≡ x → CarriedOut p r (eoi_virtualization q r)
      by true e = simp e (exited _ _ _ _ refl refl)
      by false e = simp e (calm _ _)

  -- what each way to end leaves
  carried-out : {i : Input} {a : After} → Ends p r i a → CarriedOut p r a
  unfolding evaluated_quiet self_ipi_virtualization request posting delivery left
  carried-out (reads value) = unchanged (numbers 1 value 0) refl refl
  carried-out passes = unchanged (numbers 2 0 0) refl refl
  carried-out faults = unchanged (numbers 3 0 0) refl refl
  carried-out (exits reason qualification s n k m) = exited reason qualification _ _ refl refl
  carried-out (stores m k) = calm _ _
  carried-out (evaluates s m t d k n) = calm _ _
  carried-out (enters c e d) = calm _ _
  carried-out (retiring m t k) = retired _
  carried-out (sending v m h t k) = calm _ _
  carried-out (requesting v m h t) = calm _ _
  carried-out (posts d m t) = calm _ _
  carried-out (delivering m t y) = done (numbers 5 r.rvi 0) _ _ refl refl refl
  carried-out (leaving e) = calm _ _

  module _ (i : Input) where
    -- the step of a refused input, and of any other
    refused-step : (refusal : Refusal) → refusal_of p r i ≡ Err refusal → Refused (refusal_number refusal) (refusal_check refusal) p r (step p r i)
    unfolding step step_by
    refused-step refusal e = simp e (record { answer = refl; page = refl; state = refl })

    other_step : refusal_of p r i ≡ Ok tt → CarriedOut p r (step p r i)
    unfolding step step_by
    other_step e = simp e (carried-out (ends p r i e))

    -- refused, redirected, passthrough and fault leave the page and the record
    pub nothing-changes : changes_nothing (step p r i).answer ≡ true → ((step p r i).page ≡ p) × ((step p r i).state ≡ r)
    nothing-changes t = by (refusal_of p r i) refl
      where
        by : (x : Result ⊤ Refusal) → refusal_of p r i ≡ x → ((step p r i).page ≡ p) × ((step p r i).state ≡ r)
        by (Ok passed) e = ((other_step e).page t, (other_step e).state t)
        by (Err refusal) e = ((refused-step refusal e).page, (refused-step refusal e).state)

  -- an entry that fails a check
  failed : (e : Event) → eqb (length p) 4096 ≡ true → in_bounds r e ≡ true → allowed r e ≡ true → (c : Controls) → e ≡ Entry c → eqb (failing_check c (byte_at p vtpr)) 0 ≡ false → Refused 4 (failing_check c (byte_at p vtpr)) p r (step p r (given e))
  failed e l f m c q n =
      subst (λ k. Refused 4 k p r (step p r (given e))) (ap (event_check p) q)
      (refused-step (given e) (EntryCheck (event_check p e)) (refusal-4 p r (given e) l refl f m (ap (λ (x : Event). eqb (event_check p x) 0) q ∙ n)))

  -- an event whose checks, if it has any, pass
  unchecked : (e : Event) → ((c : Controls) → e ≡ Entry c → eqb (failing_check c (byte_at p vtpr)) 0 ≡ true) → eqb (event_check p e) 0 ≡ true
  unchecked (Entry c) h = h c refl
  unchecked (Request vector) h = refl
  unchecked (MemoryRead access) h = refl
  unchecked (MemoryWrite access value) h = refl
  unchecked (ToCr8 value register) h = refl
  unchecked (FromCr8 register) h = refl
  unchecked (Rdmsr index) h = refl
  unchecked (Wrmsr index value) h = refl
  unchecked (Boundary at) h = refl

  -- condition 1, of any event
  pub answered : (e : Event) → Answered p r e (step p r (given e))
  answered e = record {
    wrong_length = λ l. refused-step (given e) PageLength (refusal-1 p r (given e) l);
    malformed = λ l f. refused-step (given e) Bounds (refusal-2 p r (given e) l refl f);
    wrong_mode = λ l f m. refused-step (given e) Mode (refusal-3 p r (given e) l refl f m);
    failed_check = λ l f m c q n. failed e l f m c q n;
    other = λ l f m h. other_step (given e) (no-refusal p r (given e) l refl f m (unchecked e h));
  }

  -- and of a guest that leaves
  pub leave-answered : LeaveAnswered p r (step p r leaves)
  leave-answered = record {
    malformed = λ f. refused-step leaves Bounds (refusal-2 p r leaves refl refl f);
    wrong_mode = λ f m. refused-step leaves Mode (refusal-3 p r leaves refl refl f m);
    other = λ f m. other_step leaves (no-refusal p r leaves refl refl f m refl);
  }

  module _ (d : List ℕ) (vector : ℕ) where
    -- the descriptor, as it was or with what was posted taken out
    stays_lent : (a : After) → eqb a.answer.answer 6 ≡ false → DescriptorLeft d a d
    stays_lent a n = record { kept = λ t. refl; taken = λ t. absurd (false≢true (simp n at t)); size = refl; above = refl; rest = λ i l. refl }

    taken_out : (a : After) → eqb a.answer.answer 6 ≡ true → DescriptorLeft d a (cleared d)
    taken_out a q = record { kept = λ t. absurd (true≢false (simp q at t)); taken = λ t. refl; size = same_size d; above = same_above d; rest = same_rest d }

    carried-lent : DescriptorLeft d (external_interrupt p r d vector) (descriptor_out r d vector)
    unfolding external_interrupt descriptor_out posting evaluated_quiet
    carried-lent = by (not (external_interrupt_exiting r.controls)) (not (notifies r.controls vector)) refl refl
      where
        by : (x y : Bool) → not (external_interrupt_exiting r.controls) ≡ x → not (notifies r.controls vector) ≡ y → DescriptorLeft d (external_interrupt p r d vector) (descriptor_out r d vector)
        by true y e f = simp e (stays_lent _ refl)
        by false true e f = simp (e, f) (stays_lent _ refl)
        by false false e f = simp (e, f) (taken_out _ refl)

    descriptor-left : DescriptorLeft d (step p r (external d vector)) (descriptor_after p r d vector)
    unfolding step step_by carried_out descriptor_after descriptor_by
    descriptor-left = by (refusal_of p r (external d vector)) refl
      where
        by : (x : Result ⊤ Refusal) → refusal_of p r (external d vector) ≡ x → DescriptorLeft d (step p r (external d vector)) (descriptor_after p r d vector)
        by (Ok passed) e = simp e carried-lent
        by (Err refusal) e = simp e (stays_lent _ refl)

    -- and of an external interrupt, with any descriptor
    pub external-answered : ExternalAnswered p r d vector (step p r (external d vector)) (descriptor_after p r d vector)
    external-answered = record {
      wrong_length = λ l. refused-step (external d vector) PageLength (refusal-1 p r (external d vector) l);
      wrong_descriptor = λ l n. refused-step (external d vector) DescriptorLength (refusal-5 p r (external d vector) l n);
      malformed = λ l n f. refused-step (external d vector) Bounds (refusal-2 p r (external d vector) l n f);
      wrong_mode = λ l n f m. refused-step (external d vector) Mode (refusal-3 p r (external d vector) l n f m);
      other = λ l n f m. other_step (external d vector) (no-refusal p r (external d vector) l n f m refl);
      descriptor = descriptor-left;
    }

-- Condition 3 of a replay: each sentence, of what is held at its end, where every entry of it has virtual-interrupt delivery on. Assumes
-- nothing.
use Rattle.std.specs.Prelude.{if◌then◌else◌}
use Prim.Native.Nat.{ℕ}
use mathlib.Core.Path.{◌≡◌, refl, sym, ◌∙◌, subst}
use mathlib.Core.Bool.{Bool, true, false}
use mathlib.Core.List.{List, [], ◌∷◌}
use lib.Dec.{eqb}
use Rattle.processor.specs.Controls.{no_controls, virtual_delivery}
use Rattle.processor.specs.declared.controls.Controls.{Controls}
use Rattle.page.specs.Page.{byte_at}
use Rattle.events.specs.declared.event.Event.TheVariants.{Entry, Request, FromCr8, Rdmsr}
use Rattle.meaning.specs.Input.{Input}
use Rattle.meaning.specs.Run.{Held, start, after}
use Rattle.conditions.specs.History.{event_on, all_on, serving}
use Rattle.conditions.specs.Condition3.{Highest, Recognition, Served, Rising, Retires, Keeps, AtMost15, Delivers16}
use Rattle.conditions.proofs.Theorems.{rvi-svi-highest, recognised-exactly, in-service-exactly, classes-rise, eoi-retires-latest, nothing-else-retires, at-most-15, none-below-16}
use Rattle.trace.specs.Fields.{four_at}
use Rattle.trace.specs.Format.{kind_of}
use Rattle.trace.specs.Records.{is_controls, controls_of, memory_read_of, memory_write_of, to_cr8_of, wrmsr_of, boundary_of, event_of}
use Rattle.recorded.specs.Session.{begin, session_end}
use Rattle.recorded.specs.Replay.{replayed}
use Rattle.recorded.specs.Theorems.{inputs_read, delivery_on_at}
use Rattle.recorded.proofs.Runs.{replay-is-run}

-- Of the events, an entry alone asks for virtual-interrupt delivery, in the controls that it is given.
event-on : (c : Controls) (b : List ℕ) → event_on (event_of c b) ≡ (if eqb (kind_of b) 1 then virtual_delivery c else true)
unfolding event_of memory_read_of memory_write_of to_cr8_of wrmsr_of boundary_of
event-on c b = by (eqb (kind_of b) 1) (eqb (kind_of b) 2) (eqb (kind_of b) 3) (eqb (kind_of b) 4) (eqb (kind_of b) 5) (eqb (kind_of b) 6) (eqb (kind_of b) 7) (eqb (kind_of b) 8)
  where
    by : (k₁ k₂ k₃ k₄ k₅ k₆ k₇ k₈ : Bool) → event_on (if k₁ then Entry c else if k₂ then memory_read_of b else if k₃ then memory_write_of b else if k₄ then to_cr8_of b else if k₅ then FromCr8 (byte_at b 1) else if k₆ then Rdmsr (four_at b 1) else if k₇ then wrmsr_of b else if k₈ then boundary_of b else Request (byte_at b 1)) ≡ (if k₁ then virtual_delivery c else true)
    by true k₂ k₃ k₄ k₅ k₆ k₇ k₈ = refl
    by false true k₃ k₄ k₅ k₆ k₇ k₈ = refl
    by false false true k₄ k₅ k₆ k₇ k₈ = refl
    by false false false true k₅ k₆ k₇ k₈ = refl
    by false false false false true k₆ k₇ k₈ = refl
    by false false false false false true k₇ k₈ = refl
    by false false false false false false true k₈ = refl
    by false false false false false false false true = refl
    by false false false false false false false false = refl

-- Read off the records of kinds 0 and 1, delivery is on at each entry exactly if it is on at each entry of the run.
pub delivery-on : (c : Controls) (bs : List (List ℕ)) → delivery_on_at c bs ≡ all_on (inputs_read c bs)
delivery-on c [] = refl
delivery-on c (b ∷ bs) = by (is_controls b) (eqb (kind_of b) 1) refl refl (delivery-on c bs) (delivery-on (controls_of b) bs)
  where
    by : (x y : Bool) → is_controls b ≡ x → eqb (kind_of b) 1 ≡ y → delivery_on_at c bs ≡ all_on (inputs_read c bs) → delivery_on_at (controls_of b) bs ≡ all_on (inputs_read (controls_of b) bs) → delivery_on_at c (b ∷ bs) ≡ all_on (inputs_read c (b ∷ bs))
    by true y e k ih ih₀ = simp e ih₀
    by false true e k ih ih₀ = simp (e, k, event-on c b, ih)
    by false false e k ih ih₀ = simp (e, k, event-on c b, ih)

module _ (t : List ℕ) (limit : ℕ) (o : delivery_on_at no_controls (replayed t limit) ≡ true) where
  -- the events read from the records processed, and what is held after the last
  abbrev read : List Input
  read = inputs_read no_controls (replayed t limit)

  abbrev now : Held
  now = (session_end begin (replayed t limit)).held

  -- Each entry of the run has delivery on.
  on : all_on read ≡ true
  on = sym (delivery-on no_controls (replayed t limit)) ∙ o

  -- What holds at the end of the run holds at the end of the replay.
  of-run : (P : Held → Type 0) → P (after start read) → P now
  of-run P x = subst P (sym (replay-is-run (replayed t limit)).held) x

  -- RVI and SVI are the highest set request and service bits, or zero.
  pub replays-highest : Highest now
  replays-highest = of-run Highest (rvi-svi-highest read on)

  -- Inside the guest an interrupt is recognised exactly when interrupt-window exiting is off and RVI's class exceeds VPPR's.
  pub replays-recognised : Recognition now
  replays-recognised = of-run Recognition (recognised-exactly read on)

  -- The vectors in service are those delivered and not yet retired by a virtualised EOI;
  pub replays-in-service : Served (serving read) now
  replays-in-service = of-run (Served (serving read)) (in-service-exactly read on)

  -- in order of delivery their classes rise strictly,
  pub replays-rise : Rising (serving read)
  replays-rise = classes-rise read on

  -- each virtualised EOI that comes next retires the latest if there is one,
  pub replays-retire-latest : (i : Input) → Retires (serving read) now i
  replays-retire-latest i = of-run (λ h. Retires (serving read) h i) (eoi-retires-latest read on i)

  -- nothing else that comes next retires any,
  pub replays-keep : (i : Input) → Keeps now i
  replays-keep i = of-run (λ h. Keeps h i) (nothing-else-retires read on i)

  -- and there are never more than 15.
  pub replays-at-most-15 : AtMost15 now
  replays-at-most-15 = of-run AtMost15 (at-most-15 read on)

  -- No vector below 16 is delivered next.
  pub replays-none-below-16 : (i : Input) → Delivers16 now i
  replays-none-below-16 i = of-run (λ h. Delivers16 h i) (none-below-16 read on i)

-- Conditions 1 and 3 of what a simulator calls. Assumes nothing.
use Rattle.std.specs.Prelude.{Option, None, Some, unwrap_or, if◌then◌else◌}
use Prim.Native.Nat.{ℕ}
use mathlib.Core.Path.{◌≡◌, refl, sym, ap, subst}
use mathlib.Core.Bool.{Bool, true, false, not, ◌&&◌}
use mathlib.Core.List.{List, []}
use lib.Dec.{eqb, ltb}
use lib.ListN.{length}
use borrow.Author.Tests.{eq-eqb}
use Rattle.processor.specs.Offsets.{virr, visr}
use Rattle.registers.specs.Vectors.{highest_set, highest}
use Rattle.meaning.specs.Input.{Input, given, external, leaves}
use Rattle.meaning.specs.Step.{step}
use Rattle.meaning.specs.Run.{Held, start, after}
use Rattle.conditions.specs.History.{all_on, serving}
use Rattle.conditions.specs.Condition3.{Highest, Recognition, Served, Rising, Retires, Keeps, AtMost15, Delivers16}
use Rattle.descriptor.specs.Descriptor.{descriptor_fits}
use Rattle.conditions.proofs.Condition1.{nothing-changes, external-answered}
use Rattle.conditions.proofs.Invariant.{run-inv, start-inv}
use Rattle.conditions.proofs.Theorems.{rvi-svi-highest, recognised-exactly, in-service-exactly, classes-rise, eoi-retires-latest, nothing-else-retires, at-most-15, none-below-16}
use Rattle.layout.specs.RecordBytes.{record_readable, record_of}
use Rattle.keeping.specs.KeptBytes.{record_bytes, kept}
use Rattle.layout.specs.EventBytes.{event_readable, event_of}
use Rattle.replies.specs.Replies.{refused, refused_lent, replied, model_reply, gg_step, external_reply, gg_external_interrupt, leave_reply, gg_leave}
use Rattle.calls.specs.Calls.{found_numbers, gg_highest}
use Rattle.chain.specs.Chain.{Call, begin, chain, inputs, AllBytes, held_of, Tells, vector, none, Asked, Untouched, UntouchedLent}
use Rattle.chain.proofs.Chain.{chain-is-run}

-- ---- condition 1: a refused call leaves every lent byte, whatever the bytes are
unchanged : (number : ℕ) (p b : List ℕ) → Untouched p b (refused number p b)
unchanged number p b e = (refl, refl)

replied-stays : (p b : List ℕ) (i : Input) → Untouched p b (replied b (step p (record_of b) i))
unfolding kept
replied-stays p b i z = (
  (nothing-changes p (record_of b) i (ap (λ n. ltb n 4) z)).0,
  ap (λ n. if ltb n 4 then b else record_bytes b (step p (record_of b) i).state) z,
)

pub step-refused : (p b e : List ℕ) → Untouched p b (gg_step p b e)
unfolding gg_step model_reply
step-refused p b e = by (eqb (length p) 4096) (eqb (length b) 48) (eqb (length e) 48) (record_readable b && event_readable e)
  where
    by : (x y z w : Bool) → Untouched p b (if not x then refused 1 p b else (if not y then refused 2 p b else (if not z then refused 2 p b else (if not w then refused 2 p b else model_reply p b e))))
    by false y z w = unchanged 1 p b
    by true false z w = unchanged 2 p b
    by true true false w = unchanged 2 p b
    by true true true false = unchanged 2 p b
    by true true true true = replied-stays p b (given (event_of e))

pub external-refused : (p b d : List ℕ) (v : ℕ) → UntouchedLent p b d (gg_external_interrupt p b d v)
unfolding gg_external_interrupt external_reply
external-refused p b d v = by (eqb (length p) 4096) (descriptor_fits d) (eqb (length b) 48) (record_readable b)
  where
    stays : (number : ℕ) → UntouchedLent p b d (refused_lent number p b d)
    stays number = (unchanged number p b, λ z. refl)

    by : (x y z w : Bool) → UntouchedLent p b d (if not x then refused_lent 1 p b d else (if not y then refused_lent 5 p b d else (if not z then refused_lent 2 p b d else (if not w then refused_lent 2 p b d else external_reply p b d v))))
    by false y z w = stays 1
    by true false z w = stays 5
    by true true false w = stays 2
    by true true true false = stays 2
    by true true true true = (replied-stays p b (external d v), λ n. (external-answered p (record_of b) d v).descriptor.kept (ap (λ m. eqb m 6) n))

pub leave-refused : (p b : List ℕ) → Untouched p b (gg_leave p b)
unfolding gg_leave leave_reply
leave-refused p b = by (eqb (length b) 48) (record_readable b)
  where
    by : (x y : Bool) → Untouched p b (if not x then refused 2 p b else (if not y then refused 2 p b else leave_reply p b))
    by false y = unchanged 2 p b
    by true false = unchanged 2 p b
    by true true = replied-stays p b leaves

-- what is found, in gg_highest's numbers, tells the same with 0 in place of none
tells : (f : Option ℕ) → Tells (found_numbers f) (unwrap_or f 0)
tells None = none
tells (Some v) = vector v

-- ---- condition 3: each sentence, of what is lent after any list of calls whose entries have virtual-interrupt delivery on
module _ (cs : List Call) (b : AllBytes cs) (o : all_on (inputs cs) ≡ true) where
  abbrev now : Held
  now = held_of (chain begin cs)

  of-run : (P : Held → Type 0) → P (after start (inputs cs)) → P now
  of-run P x = subst P (sym (chain-is-run cs b).held) x

  pub calls-highest : Highest now
  calls-highest = of-run Highest (rvi-svi-highest (inputs cs) o)

  pub calls-recognised : Recognition now
  calls-recognised = of-run Recognition (recognised-exactly (inputs cs) o)

  pub calls-in-service : Served (serving (inputs cs)) now
  calls-in-service = of-run (Served (serving (inputs cs))) (in-service-exactly (inputs cs) o)

  pub calls-rise : Rising (serving (inputs cs))
  calls-rise = classes-rise (inputs cs) o

  pub calls-retire-latest : (i : Input) → Retires (serving (inputs cs)) now i
  calls-retire-latest i = of-run (λ h. Retires (serving (inputs cs)) h i) (eoi-retires-latest (inputs cs) o i)

  pub calls-keep : (i : Input) → Keeps now i
  calls-keep i = of-run (λ h. Keeps h i) (nothing-else-retires (inputs cs) o i)

  pub calls-at-most-15 : AtMost15 now
  calls-at-most-15 = of-run AtMost15 (at-most-15 (inputs cs) o)

  pub calls-none-below-16 : (i : Input) → Delivers16 now i
  calls-none-below-16 i = of-run (λ h. Delivers16 h i) (none-below-16 (inputs cs) o i)

  size : length now.page ≡ 4096
  size = of-run (λ h. length h.page ≡ 4096) (run-inv [] start (inputs cs) o start-inv).is_page.size

  -- and the question, asked after such calls, agrees
  pub calls-asked : Asked now
  unfolding gg_highest highest
  calls-asked = record {
    rvi = simp (eq-eqb _ _ size, calls-highest.rvi) (tells (highest_set now.page virr));
    svi = simp (eq-eqb _ _ size, calls-highest.svi) (tells (highest_set now.page visr));
  }

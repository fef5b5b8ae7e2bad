-- Runs, answers and rows over `step` as the model are those of meaning, so condition 3 holds of it, and what meets condition 2 meets
-- every bench row and condition 3. Assumes nothing.
use mathlib.Core.Path.{◌≡◌, refl, sym, ◌∙◌, ap, ap₂, subst, fun_ext}
use mathlib.Core.Bool.{true, false, ◌&&◌, false≢true}
use mathlib.Core.List.{List, [], ◌∷◌, Memᴰ}
use lib.Dec.{T}
use Rattle.processor.proofs.Tests.{sure, and_left, and_right}
use Rattle.meaning.specs.Input.{Input}
use Rattle.meaning.specs.Step.{step}
use Rattle.meaning.specs.Run.{Held, start, step_of, held_after, after, answers}
use Rattle.meaning.specs.Bench.{Deed, inputs, ppr_alone, done, Row, end_holds, row_holds, rows_hold, bench_rows}
use Rattle.meaning.proofs.Bench.{every-row-holds}
use Rattle.conditions.specs.History.{in_service, serving}
use Rattle.conditions.proofs.Theorems.{rvi-svi-highest, recognised-exactly, in-service-exactly, classes-rise, eoi-retires-latest, nothing-else-retires, at-most-15, none-below-16}
use Rattle.wrong_models.specs.Models.{Model, run_by, answers_by, serving_by, done_by, row_holds_by, rows_hold_by}
use Rattle.wrong_models.specs.Conditions.{Condition2, Sentences, Condition3}

-- ---- `step` as the model
pub run-of-step : (h : Held) (is : List Input) → run_by step h is ≡ after h is
run-of-step h [] = refl
run-of-step h (i ∷ is) = run-of-step (held_after (step_of h i)) is

pub answers-of-step : (h : Held) (is : List Input) → answers_by step h is ≡ answers h is
answers-of-step h [] = refl
answers-of-step h (i ∷ is) = ap (λ ns. (step_of h i).answer ∷ ns) (answers-of-step (held_after (step_of h i)) is)

pub serving-of-step : (is : List Input) → serving_by step is ≡ serving is
serving-of-step is = ap (λ ns. in_service [] is ns) (answers-of-step start is)

done-of-step : (h : Held) (d : Deed) → done_by step h d ≡ done h d
done-of-step h (inputs is) = λ k. record { answers = answers-of-step h is k; held = run-of-step h is k }
done-of-step h ppr_alone = refl

pub row-of-step : (row : Row) → row_holds_by step row ≡ row_holds row
unfolding row_holds_by row_holds
row-of-step row = ap (λ e. end_holds e row) (done-of-step row.begin row.deed)

pub rows-of-step : (rows : List Row) → rows_hold_by step rows ≡ rows_hold rows
rows-of-step [] = refl
rows-of-step (row ∷ rows) = ap₂ ◌&&◌ (row-of-step row) (rows-of-step rows)

-- condition 3 holds of the build rules
pub step-meets-3 : Condition3 step
step-meets-3 is o = subst (λ vs. Sentences step vs (run_by step start is)) (sym (serving-of-step is)) (subst (Sentences step (serving is)) (sym (run-of-step start is)) (record {
  highest = rvi-svi-highest is o;
  recognition = recognised-exactly is o;
  served = in-service-exactly is o;
  rising = classes-rise is o;
  retires = eoi-retires-latest is o;
  keeps = nothing-else-retires is o;
  at_most15 = at-most-15 is o;
  delivers16 = none-below-16 is o;
}))

-- ---- a model that meets condition 2
module _ (m : Model) (c : Condition2 m) where
  same-model : m ≡ step
  same-model = fun_ext (λ p. fun_ext (λ r. fun_ext (λ i. c.same p r i)))

  -- what holds of the build rules holds of it
  of-step : (P : Model → Type 0) → P step → P m
  of-step P x = subst P (sym same-model) x

  pub meets-3 : Condition3 m
  meets-3 = of-step Condition3 step-meets-3

  pub row-of-rules : (row : Row) → row_holds_by m row ≡ row_holds row
  row-of-rules row = of-step (λ n. row_holds_by n row ≡ row_holds row) (row-of-step row)

  pub rows-of-rules : (rows : List Row) → rows_hold_by m rows ≡ rows_hold rows
  rows-of-rules rows = of-step (λ n. rows_hold_by n rows ≡ rows_hold rows) (rows-of-step rows)

  -- every bench row holds of it
  pub every-row : rows_hold_by m bench_rows ≡ true
  every-row = rows-of-rules bench_rows ∙ sure (rows_hold bench_rows) every-row-holds

-- each row of a table that holds
row-among : {row : Row} {rows : List Row} → Memᴰ row rows → T (rows_hold rows) → T (row_holds row)
row-among {rows = []} x t = elim x [ ]
row-among {rows = x ∷ xs} (Memᴰ.head e) t = subst (λ x. T (row_holds x)) (sym e) (and_left (row_holds x) (rows_hold xs) t)
row-among {rows = x ∷ xs} (Memᴰ.tail d) t = row-among d (and_right (row_holds x) (rows_hold xs) t)

-- a bench row that is false of a model contradicts condition 2
pub failed_row : (m : Model) (row : Row) → Memᴰ row bench_rows → row_holds_by m row ≡ false → Condition2 m → ⊥
failed_row m row d f c = false≢true (sym f ∙ row-of-rules m c row ∙ sure (row_holds row) (row-among d every-row-holds))

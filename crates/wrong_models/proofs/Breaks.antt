-- Each of the five wrong models breaks what document 01 names: a bench row that is computed to be false of it, and with it condition 2, or
-- condition 3 at a run that is computed. Assumes nothing.
use Rattle.std.specs.Prelude.{if◌then◌else◌}
use Prim.Native.Nat.{ℕ, ◌%◌}
use mathlib.Core.Path.{◌≡◌, refl, sym, ◌∙◌, ap, subst}
use mathlib.Core.Bool.{Bool, true, false, false≢true}
use mathlib.Core.List.{List, [], ◌∷◌, Memᴰ}
use lib.Dec.{eqb, lit<}
use Rattle.processor.specs.Logic.{larger, member}
use Rattle.processor.specs.Controls.{eoi_exit_word}
use Rattle.processor.specs.Offsets.{veoi, vicr_lo}
use Rattle.processor.specs.declared.controls.Record.{Record}
use Rattle.processor.proofs.Tests.{never}
use Rattle.priorities.specs.Priorities.{ppr}
use Rattle.events.specs.Answers.{numbers}
use Rattle.events.specs.Events.{value_in_bounds, event_in_bounds, root_only, allowed}
use Rattle.events.specs.declared.event.Event.{Event}
use Rattle.events.specs.declared.event.Event.TheVariants.{Entry, Request, MemoryRead, MemoryWrite, ToCr8, FromCr8, Rdmsr, Wrmsr, Boundary}
use Rattle.rules.specs.EntryChecks.{failing_check}
use Rattle.table.specs.Table.{open_offset}
use Rattle.accesses.specs.Accesses.{memory_access, write_following}
use Rattle.page.specs.Page.{word_at}
use Rattle.stores.specs.Stores.{set_word}
use Rattle.sizes.specs.Sizes.{store_at}
use Rattle.registers.specs.Vectors.{is_set, put_vector}
use Rattle.meaning.specs.Input.{Input, given, external, leaves}
use Rattle.meaning.specs.Procedures.{ppr_virtualization, evaluation, evaluated_quiet, retired_record, eoi_end, eoi_virtualization, requested_page, requested_record, self_ipi_virtualization}
use Rattle.meaning.specs.Entry.{entered, entry, request}
use Rattle.meaning.specs.Memory.{follow_by, written, write_by, memory_write}
use Rattle.meaning.specs.Boundary.{delivered_page, delivery, boundary_at, boundary}
use Rattle.meaning.specs.Refusals.{refusal_of}
use Rattle.meaning.specs.Step.{event_out, carried_out, step_by, step}
use Rattle.meaning.specs.Run.{Held, start}
use Rattle.meaning.specs.Bench.{Row, page_ends, k1, k2, k3, k10, bench_rows}
use Rattle.conditions.specs.Moves.{stays, raises, retires, move_of, event_move}
use Rattle.conditions.specs.History.{served, in_service}
use Rattle.conditions.proofs.Theorems.{rvi-svi-highest, recognised-exactly, in-service-exactly, at-most-15}
use Rattle.wrong_models.specs.Models.{Model, run_by, answers_by, done_by, row_holds_by, rows_hold_by}
use Rattle.wrong_models.specs.Conditions.{Condition2, Sentences, Condition3}
use Rattle.wrong_models.specs.Wrong.{refuses_everything, exits44, touches_nothing, names_only, stored_depth, one_delivered, Apart}
use Rattle.wrong_models.proofs.Ties.{meets-3, failed_row}

-- K1 and K2 are bench rows
k1-among : Memᴰ k1 bench_rows
k1-among = Memᴰ.head refl

k2-among : Memᴰ k2 bench_rows
k2-among = Memᴰ.tail (Memᴰ.tail (Memᴰ.head refl))

-- ---- a model that refuses everything
pub refuses-K1 : (number check : ℕ) → row_holds_by (refuses_everything number check) k1 ≡ false
unfolding row_holds_by
refuses-K1 number check = refl

pub refuses-breaks-2 : (number check : ℕ) → Condition2 (refuses_everything number check) → ⊥
refuses-breaks-2 number check = failed_row (refuses_everything number check) k1 k1-among (refuses-K1 number check)

-- ---- one that always exits 44
pub exits-K1 : (qualification : Input → ℕ) → row_holds_by (exits44 qualification) k1 ≡ false
unfolding row_holds_by
exits-K1 qualification = refl

pub exits-K10 : (qualification : Input → ℕ) → rows_hold_by (exits44 qualification) k10 ≡ false
unfolding row_holds_by
exits-K10 qualification = refl

pub exits-breaks-2 : (qualification : Input → ℕ) → Condition2 (exits44 qualification) → ⊥
exits-breaks-2 qualification = failed_row (exits44 qualification) k1 k1-among (exits-K1 qualification)

-- ---- one that touches nothing and says quiet
pub nothing-K2 : row_holds_by touches_nothing k2 ≡ false
unfolding row_holds_by
nothing-K2 = refl

pub nothing-breaks-2 : Condition2 touches_nothing → ⊥
nothing-breaks-2 = failed_row touches_nothing k2 k2-among nothing-K2

-- it stays at the start, and nothing is ever delivered
stands : (h : Held) (is : List Input) → run_by touches_nothing h is ≡ h
stands h [] = refl
stands h (i ∷ is) = stands h is

by-offset : (x y : Bool) (v : ℕ) → served (if x then raises (v ∷ []) else (if y then retires else stays)) [] ≡ []
by-offset true y v = refl
by-offset false true v = refl
by-offset false false v = refl

none-by-event : (e : Event) → served (event_move e (numbers 6 0 0)) [] ≡ []
unfolding event_move
none-by-event (Entry c) = refl
none-by-event (Request vector) = refl
none-by-event (MemoryRead access) = refl
none-by-event (MemoryWrite a value) = by-offset (eqb a.offset vicr_lo) (eqb a.offset veoi) (value % 0x100)
none-by-event (ToCr8 value register) = refl
none-by-event (FromCr8 register) = refl
none-by-event (Rdmsr index) = refl
none-by-event (Wrmsr index value) = by-offset (eqb index 0x83f) (eqb index 0x80b) (value % 0x100)
none-by-event (Boundary at) = refl

none-by : (i : Input) → served (move_of i (numbers 6 0 0)) [] ≡ []
unfolding move_of
none-by (given e) = none-by-event e
none-by (external d vector) = refl
none-by leaves = refl

none-served : (h : Held) (is : List Input) → in_service [] is (answers_by touches_nothing h is) ≡ []
none-served h [] = refl
none-served h (i ∷ is) = ap (λ vs. in_service vs is (answers_by touches_nothing h is)) (none-by i) ∙ none-served h is

-- so every sentence of condition 3 holds of it: why 3 is stated over 2
pub nothing-meets-3 : Condition3 touches_nothing
nothing-meets-3 is o = subst (λ vs. Sentences touches_nothing vs (run_by touches_nothing start is)) (sym (none-served start is)) (subst (Sentences touches_nothing []) (sym (stands start is)) (record {
  highest = rvi-svi-highest [] refl;
  recognition = recognised-exactly [] refl;
  served = in-service-exactly [] refl;
  rising = tt;
  retires = λ i t w h. refl;
  keeps = λ i n w h t. t;
  at_most15 = at-most-15 [] refl;
  delivers16 = λ i t. absurd (false≢true t);
}))

-- ---- one that delivers once and afterwards only names vectors without moving bits
-- a row whose page ends otherwise does not hold
page-fails : (m : Model) (row : Row) → page_ends row.begin.page (done_by m row.begin row.deed).held.page row.page ≡ false → row_holds_by m row ≡ false
unfolding row_holds_by
page-fails m row e = simp (e, never)

-- word 130 lacks the second bit
pub names-K2 : (next : List ℕ → Record → Record) → row_holds_by (names_only next) k2 ≡ false
unfolding value_in_bounds event_in_bounds root_only allowed open_offset memory_access write_following larger word_at set_word store_at put_vector evaluation evaluated_quiet requested_page requested_record self_ipi_virtualization follow_by written write_by memory_write delivered_page delivery boundary_at boundary refusal_of event_out carried_out step_by step
names-K2 next = page-fails (names_only next) k2 refl

-- K3 is false too where the record is left: RVI is still 71H, and the EOI retires 60H
pub names-K3 : row_holds_by (names_only (λ p r. r)) k3 ≡ false
unfolding row_holds_by eoi_exit_word value_in_bounds event_in_bounds root_only allowed open_offset memory_access write_following larger word_at set_word store_at put_vector evaluation evaluated_quiet retired_record eoi_end eoi_virtualization requested_page requested_record self_ipi_virtualization follow_by written write_by memory_write delivery boundary_at boundary refusal_of event_out carried_out step_by step
names-K3 = refl

pub names-breaks-2 : (next : List ℕ → Record → Record) → Condition2 (names_only next) → ⊥
names-breaks-2 next = failed_row (names_only next) k2 k2-among (names-K2 next)

-- ---- one whose nest depth is a stored number unrelated to VISR
pub stored-apart : Apart
unfolding move_of event_move event_in_bounds root_only allowed failing_check ppr larger set_word is_set put_vector ppr_virtualization evaluation evaluated_quiet requested_page requested_record entered entry request delivered_page delivery boundary_at boundary refusal_of event_out carried_out step_by step
stored-apart = record { delivered = refl; stored = refl; unset = refl; empty = refl }

-- 60H is in service by the answers, and not by VISR
pub stored-breaks-3 : Condition3 stored_depth → ⊥
stored-breaks-3 c = false≢true (sym stored-apart.unset ∙ (c one_delivered refl).served.exactly 0x60 (lit< tt) ∙ ap (member 0x60) stored-apart.delivered)

pub stored-breaks-2 : Condition2 stored_depth → ⊥
stored-breaks-2 c = stored-breaks-3 (meets-3 stored_depth c)

-- Condition 3 is sharp: fifteen are reached, and its premise is needed. Both are runs that antt computes. Assumes nothing.
use mathlib.Core.Path.{◌≡◌, refl, sym}
use mathlib.Core.Bool.{true, true≢false}
use Rattle.processor.specs.Controls.{eoi_exit_word}
use Rattle.events.specs.Events.{value_in_bounds, event_in_bounds, root_only, allowed}
use Rattle.rules.specs.EntryChecks.{failing_check}
use Rattle.table.specs.Table.{open_offset}
use Rattle.accesses.specs.Accesses.{memory_access, write_following}
use Rattle.processor.specs.Logic.{larger}
use Rattle.priorities.specs.Priorities.{ppr}
use Rattle.page.specs.Page.{word_at}
use Rattle.stores.specs.Stores.{set_word}
use Rattle.sizes.specs.Sizes.{store_at}
use Rattle.registers.specs.Vectors.{is_set, put_vector, highest_of, highest}
use Rattle.meaning.specs.Procedures.{ppr_virtualization, evaluation, evaluated_quiet, requested_page, requested_record, self_ipi_virtualization}
use Rattle.meaning.specs.Entry.{entered, entry, request}
use Rattle.meaning.specs.Memory.{follow_by, written, write_by, memory_write}
use Rattle.meaning.specs.Boundary.{delivered_page, delivered_record, delivery, boundary_at, boundary}
use Rattle.meaning.specs.Refusals.{refusal_of}
use Rattle.meaning.specs.Step.{event_out, carried_out, step_by, step}
use Rattle.meaning.specs.Run.{start, after}
use Rattle.conditions.specs.History.{all_on}
use Rattle.conditions.specs.Condition3.{depth, Recognition}
use Rattle.sharpness.specs.Examples.{fifteen_deep, delivery_off}

-- every entry of the run has virtual-interrupt delivery on, and fifteen are then in service
pub fifteen-allowed : all_on fifteen_deep ≡ true
fifteen-allowed = refl

pub fifteen-reached : depth (after start fifteen_deep) ≡ 15
unfolding eoi_exit_word value_in_bounds event_in_bounds root_only allowed failing_check open_offset memory_access write_following ppr larger word_at set_word store_at is_set put_vector highest_of highest ppr_virtualization evaluation evaluated_quiet requested_page requested_record self_ipi_virtualization entered entry request follow_by written write_by memory_write delivered_page delivered_record delivery boundary_at boundary refusal_of event_out carried_out step_by step
fifteen-reached = refl

-- with delivery off at its entry a run ends in guest mode with RVI's class above VPPR's and nothing recognised
pub premise-needed : Recognition (after start delivery_off) → ⊥
unfolding eoi_exit_word value_in_bounds event_in_bounds root_only allowed failing_check open_offset memory_access write_following ppr larger word_at set_word store_at is_set put_vector highest_of highest ppr_virtualization evaluation evaluated_quiet requested_page requested_record self_ipi_virtualization entered entry request follow_by written write_by memory_write delivered_page delivered_record delivery boundary_at boundary refusal_of event_out carried_out step_by step
premise-needed r = true≢false (sym r.recognised)

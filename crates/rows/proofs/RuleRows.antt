-- Every row of one input holds of the definitions: one claim over all, and one over those with a descriptor, computed. Assumes nothing.
use lib.Dec.{T}
use Rattle.processor.specs.Controls.{eoi_exit_word}
use Rattle.events.specs.Events.{value_in_bounds, event_in_bounds, root_only, allowed}
use Rattle.rules.specs.EntryChecks.{failing_check}
use Rattle.table.specs.Table.{open_offset}
use Rattle.accesses.specs.Accesses.{memory_access, read_qualification, write_following}
use Rattle.instructions.specs.Instructions.{cr8_access, wrmsr_following, wrmsr}
use Rattle.processor.specs.Logic.{larger}
use Rattle.priorities.specs.Priorities.{ppr}
use Rattle.page.specs.Page.{half_at, word_at, long_at}
use Rattle.stores.specs.Stores.{set_half, set_word, set_long}
use Rattle.sizes.specs.Sizes.{read_at, store_at}
use Rattle.registers.specs.Vectors.{is_set, put_vector, highest_of, highest}
use Rattle.descriptor.specs.Descriptor.{posted, raised_by, joined_below, cleared_below, cleared}
use Rattle.meaning.specs.Procedures.{ppr_virtualization, evaluation, evaluated_quiet, tpr_virtualization, retired_page, retired_record, eoi_end, eoi_virtualization, requested_page, requested_record, self_ipi_virtualization}
use Rattle.meaning.specs.Entry.{entered, entry, request}
use Rattle.meaning.specs.Memory.{read_by, memory_read, clear_three, follow_by, written, write_by, memory_write}
use Rattle.meaning.specs.Cr8Msr.{to_cr8_by, mov_to_cr8, from_cr8_by, mov_from_cr8, read_msr, write_msr_by, write_msr}
use Rattle.meaning.specs.Boundary.{delivered_page, delivered_record, delivery, boundary_at, boundary}
use Rattle.meaning.specs.External.{posted_record, posting, external_interrupt, descriptor_out, descriptor_by}
use Rattle.meaning.specs.Leave.{left}
use Rattle.meaning.specs.Refusals.{refusal_of}
use Rattle.meaning.specs.Step.{event_out, carried_out, step_by, step, descriptor_after}
use Rattle.rows.specs.RowBench.{row_holds, rows_hold, interrupts_hold}
use Rattle.rows.specs.RuleRows.{rule_rows}
use Rattle.rows.specs.InterruptRows.{external_rows}

pub every-rule-holds : T (rows_hold rule_rows)
unfolding eoi_exit_word value_in_bounds event_in_bounds root_only allowed failing_check open_offset memory_access read_qualification write_following cr8_access wrmsr_following wrmsr ppr larger half_at word_at long_at read_at set_half set_word set_long store_at is_set put_vector highest_of highest ppr_virtualization evaluation evaluated_quiet tpr_virtualization retired_page retired_record eoi_end eoi_virtualization requested_page requested_record self_ipi_virtualization entered entry request read_by memory_read clear_three follow_by written write_by memory_write to_cr8_by mov_to_cr8 from_cr8_by mov_from_cr8 read_msr write_msr_by write_msr delivered_page delivered_record delivery boundary_at boundary posted raised_by joined_below posted_record posting external_interrupt left refusal_of event_out carried_out step_by step row_holds
every-rule-holds = tt

pub every-interrupt-holds : T (interrupts_hold external_rows)
unfolding larger word_at is_set put_vector highest_of evaluation evaluated_quiet posted raised_by joined_below cleared_below cleared posted_record posting external_interrupt descriptor_out descriptor_by refusal_of carried_out step_by step descriptor_after row_holds
every-interrupt-holds = tt

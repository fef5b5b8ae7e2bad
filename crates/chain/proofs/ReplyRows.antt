-- Every row of the C boundary's replies holds of the definitions: a claim for each call, computed. Assumes nothing.
use lib.Dec.{T}
use Rattle.processor.specs.Rows.{all_hold}
use Rattle.processor.specs.Controls.{eoi_exit_word}
use Rattle.events.specs.Events.{value_in_bounds, event_in_bounds, root_only, allowed}
use Rattle.rules.specs.EntryChecks.{failing_check}
use Rattle.table.specs.Table.{open_offset}
use Rattle.accesses.specs.Accesses.{memory_access, read_qualification, write_following}
use Rattle.instructions.specs.Instructions.{cr8_access, wrmsr_following, wrmsr}
use Rattle.processor.specs.Logic.{larger}
use Rattle.priorities.specs.Priorities.{ppr}
use Rattle.page.specs.Page.{half_at, word_at, long_at, word_within, long_within}
use Rattle.stores.specs.Stores.{set_half, set_word, set_long}
use Rattle.sizes.specs.Sizes.{read_at, store_at}
use Rattle.registers.specs.Vectors.{is_set, put_vector, highest_of, highest}
use Rattle.descriptor.specs.Descriptor.{posted, raised_by, joined_below, cleared_below, cleared}
use Rattle.meaning.specs.Procedures.{ppr_virtualization, evaluation, evaluated_quiet, tpr_virtualization, retired_page, retired_record, eoi_end, eoi_virtualization, requested_page, requested_record, self_ipi_virtualization}
use Rattle.meaning.specs.Entry.{entered, entry, request}
use Rattle.meaning.specs.Memory.{read_by, memory_read, clear_three, follow_by, written, write_by, memory_write}
use Rattle.meaning.specs.Cr8Msr.{to_cr8_by, mov_to_cr8, from_cr8_by, mov_from_cr8, read_msr, write_msr_by, write_msr}
use Rattle.meaning.specs.Boundary.{delivered_page, delivered_record, delivery, boundary_at, boundary}
use Rattle.meaning.specs.External.{posted_record, posting, external_interrupt, descriptor_out, descriptor_by}
use Rattle.meaning.specs.Leave.{left}
use Rattle.meaning.specs.Refusals.{refusal_of}
use Rattle.meaning.specs.Step.{event_out, carried_out, step_by, step, descriptor_after}
use Rattle.layout.specs.RecordBytes.{controls_of, record_of}
use Rattle.layout.specs.EventBytes.{memory_readable, event_readable, memory_read_of, memory_write_of, to_cr8_of, wrmsr_of, boundary_of, request_of, event_of}
use Rattle.keeping.specs.KeptBytes.{controls_bytes, truth_byte, record_bytes, kept}
use Rattle.replies.specs.Replies.{model_reply, kind_reply, gg_step, leave_reply, gg_leave, external_reply, gg_external_interrupt}
use Rattle.chain.specs.ReplyRows.{step_rows, kind_rows, leave_rows, external_rows}

pub step-rows-hold : T (all_hold step_rows)
unfolding eoi_exit_word value_in_bounds event_in_bounds root_only allowed failing_check open_offset memory_access read_qualification write_following cr8_access wrmsr_following wrmsr ppr larger half_at word_at long_at read_at set_half set_word set_long store_at is_set put_vector highest_of highest ppr_virtualization evaluation evaluated_quiet tpr_virtualization retired_page retired_record eoi_end eoi_virtualization requested_page requested_record self_ipi_virtualization entered entry request read_by memory_read clear_three follow_by written write_by memory_write to_cr8_by mov_to_cr8 from_cr8_by mov_from_cr8 read_msr write_msr_by write_msr delivered_page delivered_record delivery boundary_at boundary posted raised_by joined_below posted_record posting external_interrupt left refusal_of event_out carried_out step_by step word_within long_within controls_of record_of memory_readable event_readable memory_read_of memory_write_of to_cr8_of wrmsr_of boundary_of request_of event_of controls_bytes truth_byte record_bytes kept model_reply gg_step
step-rows-hold = tt

pub kind-rows-hold : T (all_hold kind_rows)
unfolding larger word_at long_at set_half set_word set_long put_vector event_in_bounds root_only allowed requested_page requested_record request refusal_of event_out carried_out step_by step word_within long_within controls_of record_of controls_bytes truth_byte record_bytes kept kind_reply
kind-rows-hold = tt

pub leave-rows-hold : T (all_hold leave_rows)
unfolding left refusal_of carried_out step_by step word_at long_at set_half set_word set_long word_within long_within controls_of record_of controls_bytes truth_byte record_bytes kept leave_reply gg_leave
leave-rows-hold = tt

pub external-rows-hold : T (all_hold external_rows)
unfolding larger word_at is_set put_vector highest_of evaluation evaluated_quiet posted raised_by joined_below cleared_below cleared posted_record posting external_interrupt descriptor_out descriptor_by refusal_of carried_out step_by step descriptor_after long_at set_half set_word set_long word_within long_within controls_of record_of controls_bytes truth_byte record_bytes kept external_reply gg_external_interrupt
external-rows-hold = tt

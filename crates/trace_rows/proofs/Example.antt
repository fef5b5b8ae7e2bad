-- The document's example and every other row print exactly their lines, by the definitions, computed. Assumes nothing.
use mathlib.Core.Path.{refl}
use Rattle.processor.specs.Logic.{larger}
use Rattle.events.specs.Events.{event_in_bounds, root_only, allowed}
use Rattle.rules.specs.EntryChecks.{failing_check}
use Rattle.priorities.specs.Priorities.{ppr}
use Rattle.table.specs.Table.{open_offset}
use Rattle.accesses.specs.Accesses.{memory_access, read_qualification}
use Rattle.stores.specs.Stores.{set_word}
use Rattle.registers.specs.Vectors.{is_set, put_vector, highest_of, highest}
use Rattle.meaning.specs.Procedures.{ppr_virtualization, evaluation, evaluated_quiet, requested_page, requested_record}
use Rattle.meaning.specs.Entry.{entered, entry, request}
use Rattle.meaning.specs.Memory.{read_by, memory_read}
use Rattle.meaning.specs.Cr8Msr.{read_msr}
use Rattle.meaning.specs.Boundary.{delivered_page, delivered_record, delivery, boundary_at, boundary}
use Rattle.meaning.specs.Refusals.{refusal_of}
use Rattle.meaning.specs.Step.{event_out, carried_out, step_by, step}
use Rattle.trace.specs.Fields.{two_at, four_at, eight_at}
use Rattle.trace.specs.Format.{cut_short, body_at, next_place, length_of_kind, flags_used, body_readable, record_readable}
use Rattle.trace.specs.Records.{controls_of, memory_read_of, to_cr8_of, boundary_of, event_of}
use Rattle.text.specs.Decimal.{digits}
use Rattle.text.specs.Lines.{line, done_line, bad_line}
use Rattle.recorded.specs.Session.{answer_to, session_after}
use Rattle.recorded.specs.Replay.{bodies, ends_bad, last_line, text_from, is_trace, replay_text, replayed}
use Rattle.recorded.specs.ProgramText.{program_text}
use Rattle.trace_rows.specs.Example.{Examples}

pub examples-print : Examples
unfolding larger event_in_bounds root_only allowed failing_check ppr set_word is_set put_vector highest_of highest ppr_virtualization evaluation evaluated_quiet requested_page requested_record entered entry request open_offset memory_access read_qualification read_by memory_read read_msr delivered_page delivered_record delivery boundary_at boundary refusal_of event_out carried_out step_by step two_at four_at eight_at cut_short body_at next_place length_of_kind flags_used body_readable record_readable controls_of memory_read_of to_cr8_of boundary_of event_of digits line done_line bad_line answer_to session_after bodies ends_bad last_line text_from is_trace replay_text replayed program_text
examples-print =
    record {
      example = refl;
      empty = refl;
      lone = refl;
      version0 = refl;
      version2 = refl;
      unread = refl;
      cut = refl;
      third = refl;
      longest = refl;
      longer = refl;
      longest_none = refl;
      longer_none = refl;
      version_first = refl;
      none = refl;
      two = refl;
      four = refl;
      five = refl;
      before_bad = refl;
      at_bad = refl;
      ten = refl;
      in_guest = refl;
      before_first = refl;
      last_controls = refl;
      exits44 = refl;
      limit = refl;
      program = refl;
      replayed_two = refl;
      replayed_all = refl;
      replayed_cut = refl;
      replayed_none = refl;
      from_seven = refl;
      from_second = refl;
      behind = refl;
      behind_none = refl;
      held_controls = refl;
    }

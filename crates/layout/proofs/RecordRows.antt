-- Every row of records and of events whose bytes are all different holds of the definitions, computed. Assumes nothing.
use mathlib.Core.Path.{refl}
use Rattle.page.specs.Page.{word_at, long_at, word_within, long_within}
use Rattle.layout.specs.RecordBytes.{controls_of, record_of}
use Rattle.layout.specs.EventBytes.{memory_readable, event_readable, memory_read_of, memory_write_of, to_cr8_of, wrmsr_of, boundary_of, request_of, event_of}
use Rattle.layout.specs.RecordRows.{RecordRows}

pub every-record-read : RecordRows
unfolding word_at long_at word_within long_within controls_of record_of memory_readable event_readable memory_read_of memory_write_of to_cr8_of wrmsr_of boundary_of request_of event_of
every-record-read =
    record {
      entry_of = (refl, refl);
      read_of = (refl, refl);
      read_of_none = (refl, refl);
      read_of_both = (refl, refl);
      write_of = (refl, refl);
      write_of_none = (refl, refl);
      write_of_both = (refl, refl);
      to_of = (refl, refl);
      from_of = (refl, refl);
      rdmsr_of = (refl, refl);
      wrmsr_of = (refl, refl);
      boundary_of = (refl, refl);
      boundary_of_none = (refl, refl);
      boundary_of_all = (refl, refl);
      request_of = (refl, refl);
      read_flags = refl;
      write_flags = refl;
      write_flags_above = refl;
      read_offset = refl;
      read_offset_above = refl;
      read_offset_largest = (refl, refl);
      write_offset_largest = (refl, refl);
      write_offset_above = refl;
      to_value = refl;
      to_value_above = refl;
      boundary_flags_above = refl;
      request_above = refl;
      kind11 = refl;
      kind255 = refl;
      reserved_exactly = refl;
      reserved_above = refl;
      notification_largest = (refl, refl);
      guest_record = (refl, refl);
      root_record = (refl, refl);
      record_mode2 = refl;
      record_mode255 = refl;
      record_recognised2 = refl;
      record_recognised255 = refl;
      record_byte14 = refl;
      record_byte15 = refl;
    }

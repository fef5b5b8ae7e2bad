-- Every row of bodies and records holds of the definitions, computed. Assumes nothing.
use mathlib.Core.Path.{refl}
use Rattle.trace.specs.Fields.{two_at, four_at, eight_at}
use Rattle.trace.specs.Format.{cut_short, body_at, next_place, length_of_kind, flags_used, body_readable, record_readable}
use Rattle.trace.specs.Records.{controls_of, memory_read_of, memory_write_of, to_cr8_of, wrmsr_of, boundary_of, event_of}
use Rattle.trace.specs.RecordRows.{RecordRows}

pub every-record-read : RecordRows
unfolding two_at four_at eight_at cut_short body_at next_place length_of_kind flags_used body_readable record_readable controls_of memory_read_of memory_write_of to_cr8_of wrmsr_of boundary_of event_of
every-record-read =
    record {
      controls = (refl, refl);
      entry = (refl, refl);
      memory_read = (refl, refl);
      memory_write = (refl, refl);
      write_with_fetch = (refl, refl);
      to_cr8 = (refl, refl);
      from_cr8 = (refl, refl);
      rdmsr = (refl, refl);
      wrmsr = (refl, refl);
      boundary_open = (refl, refl);
      boundary_sti = (refl, refl);
      boundary_mov_ss = (refl, refl);
      request = (refl, refl);
      no_kind = refl;
      kind10 = refl;
      shorter = refl;
      longer = refl;
      controls_bit9 = refl;
      controls_bit15 = refl;
      read_bit2 = refl;
      write_bit7 = refl;
      boundary_bit3 = refl;
      whole = (refl, refl, refl);
      followed = (refl, refl, refl);
      cut_body = refl;
      cut_length = refl;
    }

-- Every row of events as bytes holds of the definitions, computed. Assumes nothing.
use mathlib.Core.Path.{refl}
use Rattle.page.specs.Page.{word_at, long_at, word_within, long_within}
use Rattle.layout.specs.RecordBytes.{controls_of}
use Rattle.layout.specs.EventBytes.{memory_readable, event_readable, memory_read_of, memory_write_of, to_cr8_of, wrmsr_of, boundary_of, request_of, event_of}
use Rattle.layout.specs.EventRows.{EventRows}

pub every-event-read : EventRows
unfolding word_at long_at word_within long_within controls_of memory_readable event_readable memory_read_of memory_write_of to_cr8_of wrmsr_of boundary_of request_of event_of
every-event-read =
    record {
      entry = (refl, refl);
      memory_read = (refl, refl);
      memory_write = (refl, refl);
      to_cr8 = (refl, refl);
      from_cr8 = (refl, refl);
      rdmsr = (refl, refl);
      wrmsr = (refl, refl);
      boundary_open = (refl, refl);
      boundary_sti = (refl, refl);
      boundary_mov_ss = (refl, refl);
      request = (refl, refl);
      kind0 = refl;
      kind10 = refl;
      reserved = refl;
      memory_flag = refl;
      memory_offset = refl;
      cr8_value = refl;
      boundary_flag = refl;
      requested = refl;
    }

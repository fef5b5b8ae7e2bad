-- Every row of bodies whose bytes are all different, and of records cut short or behind another, holds of the definitions, computed. Assumes
-- nothing.
use mathlib.Core.Path.{refl}
use Rattle.trace.specs.Fields.{two_at, four_at, eight_at}
use Rattle.trace.specs.Format.{cut_short, body_at, next_place, length_of_kind, flags_used, body_readable, record_readable}
use Rattle.trace.specs.Records.{controls_of, memory_read_of, memory_write_of, to_cr8_of, wrmsr_of, boundary_of, event_of}
use Rattle.trace.specs.BodyRows.{BodyRows}

pub every-body-read : BodyRows
unfolding two_at four_at eight_at cut_short body_at next_place length_of_kind flags_used body_readable record_readable controls_of memory_read_of memory_write_of to_cr8_of wrmsr_of boundary_of event_of
every-body-read =
    record {
      controls_of_all = (refl, refl);
      read_of = (refl, refl);
      read_of_both = (refl, refl);
      write_of = (refl, refl);
      write_of_both = (refl, refl);
      to_of = (refl, refl);
      from_of = (refl, refl);
      rdmsr_of = (refl, refl);
      wrmsr_of = (refl, refl);
      boundary_of = (refl, refl);
      boundary_of_all = (refl, refl);
      entry_with = refl;
      cut_whole = refl;
      cut_high = refl;
      cut_none = refl;
      cut_stays = refl;
      long_next = refl;
      second = (refl, refl, refl);
      whole_longer = refl;
      whole_empty = refl;
      cut_second = refl;
      cut_second_none = refl;
      cut_second_stays = refl;
    }

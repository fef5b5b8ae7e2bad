-- Every row of a trace's fields, version, size, kinds and flags holds of the definitions, computed. Assumes nothing.
use lib.Dec.{T}
use Rattle.processor.specs.Rows.{all_hold}
use Rattle.trace.specs.Fields.{two_at, four_at, eight_at}
use Rattle.trace.specs.Format.{length_of_kind, flags_used, body_readable}
use Rattle.trace_rows.specs.TraceRows.{trace_rows}

pub trace-rows-hold : T (all_hold trace_rows)
unfolding two_at four_at eight_at length_of_kind flags_used body_readable
trace-rows-hold = tt

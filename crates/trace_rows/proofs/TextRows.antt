-- Every row of numbers and lines holds of the definitions, computed. Assumes nothing.
use lib.Dec.{T}
use Rattle.processor.specs.Rows.{all_hold}
use Rattle.text.specs.Decimal.{digits, last_digits}
use Rattle.text.specs.Lines.{line, done_line, bad_line}
use Rattle.trace_rows.specs.TextRows.{text_rows}

pub text-rows-hold : T (all_hold text_rows)
unfolding digits last_digits line done_line bad_line
text-rows-hold = tt

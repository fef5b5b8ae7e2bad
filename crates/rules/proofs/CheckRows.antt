-- Every row of the entry checks and of exit 43 holds of the definitions, computed. Assumes nothing.
use lib.Dec.{T}
use Rattle.processor.specs.Rows.{all_hold}
use Rattle.rules.specs.EntryChecks.{failing_check}
use Rattle.rules.specs.CheckRows.{check_rows}

pub check-rows-hold : T (all_hold check_rows)
unfolding failing_check
check-rows-hold = tt

-- Every row of memory accesses holds of the definitions, computed. Assumes nothing.
use lib.Dec.{T}
use Rattle.processor.specs.Rows.{all_hold}
use Rattle.table.specs.Table.{open_offset}
use Rattle.accesses.specs.Accesses.{memory_access, read_qualification, write_following}
use Rattle.accesses.specs.AccessRows.{memory_rows}

pub memory-rows-hold : T (all_hold memory_rows)
unfolding open_offset memory_access read_qualification write_following
memory-rows-hold = tt

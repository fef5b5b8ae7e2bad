-- Every row of the vectors' places holds of the definitions, computed. Assumes nothing.
use lib.Dec.{T}
use Rattle.processor.specs.Rows.{all_hold}
use Rattle.registers.specs.Vectors.{is_set, put_vector}
use Rattle.register_laws.specs.VectorRows.{vector_rows}

pub vector-rows-hold : T (all_hold vector_rows)
unfolding is_set put_vector
vector-rows-hold = tt

-- Every row of the search holds of the definitions: one claim, computed. Assumes nothing.
use lib.Dec.{T}
use Rattle.registers.specs.Vectors.{is_set, put_vector, highest_of}
use Rattle.register_laws.specs.Searches.{searches_hold, search_rows}

pub every-search-holds : T (searches_hold search_rows)
unfolding is_set put_vector highest_of
every-search-holds = tt

-- Every row of gg_highest and gg_fresh holds of the definitions, computed. Assumes nothing.
use lib.Dec.{T}
use Rattle.processor.specs.Rows.{all_hold}
use Rattle.registers.specs.Vectors.{is_set, highest_of}
use Rattle.calls.specs.Calls.{gg_highest, gg_fresh}
use Rattle.chain.specs.CallRows.{highest_calls, fresh_calls}

pub highest-calls-hold : T (all_hold highest_calls)
unfolding is_set highest_of gg_highest
highest-calls-hold = tt

pub fresh-calls-hold : T (all_hold fresh_calls)
unfolding gg_fresh
fresh-calls-hold = tt

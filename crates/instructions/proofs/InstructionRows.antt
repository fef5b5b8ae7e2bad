-- Every row of CR8 and MSR holds of the definitions, computed. Assumes nothing.
use lib.Dec.{T}
use Rattle.processor.specs.Rows.{all_hold}
use Rattle.instructions.specs.Instructions.{cr8_access, wrmsr_following, wrmsr}
use Rattle.instructions.specs.InstructionRows.{instruction_rows}

pub instruction-rows-hold : T (all_hold instruction_rows)
unfolding cr8_access wrmsr_following wrmsr
instruction-rows-hold = tt

-- From word `word` up nothing is set.
use Rattle.std.proofs.Common.{◌≡◌, ◌*◌}
use Rattle.registers.specs.Vectors.{highest_of, word_bits}
use Rattle.registers.proofs.vectors.place_in.Given as goal

abbrev pub invariant-loop-word : goal.invariant-loop-word
invariant-loop-word g l = highest_of (word_bits l.words g.row.STEP) 256 ≡ highest_of (word_bits l.words g.row.STEP) (32 * l.word)

-- The array is longer than the longest trace, so what it holds is enough.
use Rattle.std.proofs.Common.{◌≡◌, arith, take}
use Rattle.std.proofs.lemmas.List.{take_min}
use Rattle.program.proofs.Program.{held}
use Rattle.program.proofs.replay_program.Goals as goal

pub returns : goal.returns
returns c =
    let taken : take c.min.result c.args.input.now ≡ take c.args.length c.args.input.now = rw (c.min.ensures, ← c.told-input) (take_min c.args.length c.args.input.now) in
    held (omega arith) (rw taken at c.printed.ensures)

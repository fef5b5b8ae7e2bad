-- `replay::main` stays within its two arrays: the text lies in the buffer. Assumes nothing.
use Rattle.std.proofs.Common.{arith, length-take}
use Rattle.program.proofs.Program.{within}
use Rattle.replay.proofs.main.Goals as goal

pub slice_bounds-out-end : goal.slice_bounds-out-end
slice_bounds-out-end c = within c.replay_program-written.ensures

pub slice_bounds-write_all-end : goal.slice_bounds-write_all-end
slice_bounds-write_all-end c =
    let within = within c.replay_program-written.ensures in
    simp length-take (omega arith)

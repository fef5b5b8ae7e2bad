-- The part from the base on has the page's register.
use Rattle.std.proofs.Common.{◌%◌}
use native.Mathlib.Nat.{zero-add}
use Rattle.registers.specs.Vectors.{vector_byte, put_bit, put_vector}
use Rattle.registers.proofs.Part.{changed-part}
use Rattle.setting.proofs.put_vector.Goals as goal

pub returns-then-at-page : goal.returns-then-at-page
unfolding put_vector
returns-then-at-page c =
    rw (c.put_in.ensures, zero-add) (changed-part c.args.page.now c.args.base (vector_byte c.args.vector) (λ x. put_bit x (c.args.vector % 8) c.args.on))

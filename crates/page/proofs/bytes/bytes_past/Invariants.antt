-- The bytes so far are the slice's.
use Rattle.std.proofs.Common.{◌≡◌, length}
use Rattle.page.specs.Page.{AreBytes}
use Rattle.page.proofs.bytes.bytes_past.Given as goal

abbrev pub invariant-loop-i : goal.invariant-loop-i
invariant-loop-i g l = (length l.byte-items ≡ l.i-end) × AreBytes l.page l.offset l.i l.byte-items

-- What is left to store makes the rest of the change.
use Rattle.std.proofs.Common.{◌≡◌, ◌+◌, drop}
use Rattle.stores.specs.Stores.{set_bytes}
use Rattle.stores.proofs.bytes.set_past.Given as goal

abbrev pub invariant-loop-i : goal.invariant-loop-i
invariant-loop-i g l = set_bytes l.page (l.offset + l.i) (drop l.i l.byte-items) ≡ set_bytes l.initial.page l.offset l.byte-items

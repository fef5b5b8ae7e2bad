-- The characters that are left to write make the rest of the text.
use Rattle.std.proofs.Common.{◌≡◌, ◌+◌, drop}
use Rattle.text.specs.Written.{written}
use Rattle.text.proofs.decimal.put_all.Given as goal

abbrev pub invariant-loop-byte : goal.invariant-loop-byte
invariant-loop-byte l = (l.next ≡ l.at + l.byte-index) × (written l.out l.next (drop l.byte-index l.text) ≡ written l.initial.out l.at l.text)

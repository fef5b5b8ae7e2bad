-- The words passed have joined, and so their bytes.
use Rattle.std.proofs.Common.{◌≡◌, ◌<◌, ◌*◌, ℕ}
use Rattle.page.specs.Page.{byte_at}
use Rattle.descriptor.specs.Descriptor.{joined_below}
use Rattle.joining.proofs.join.Given as goal

abbrev pub invariant-loop-word : goal.invariant-loop-word
invariant-loop-word l = (l.page ≡ joined_below l.initial.page l.descriptor (4 * l.word)) × ((i : ℕ) → byte_at l.page i < 256)

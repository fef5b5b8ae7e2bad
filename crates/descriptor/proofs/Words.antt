-- The descriptor's request bits stand in eight words. Assumes nothing.
use Prim.Native.Nat.{ℕ, ◌+◌, ◌*◌, ◌/◌, ◌%◌, ◌<◌}
use native.Mathlib.Omega.{arith}
use mathlib.Core.Path.{◌≡◌, ◌∙◌, ap₂}
use mathlib.Core.List.{List}
use Rattle.processor.specs.Logic.{bit}
use Rattle.page.specs.Page.{byte_at}
use Rattle.registers.specs.Vectors.{highest_of, word_bits}
use Rattle.registers.proofs.Top.{found-ext}
use Rattle.registers.proofs.Words.{word-bit}
use Rattle.descriptor.specs.Descriptor.{posted, highest_posted}

pub posted-bit : (d : List ℕ) → ((i : ℕ) → byte_at d i < 256) → (v : ℕ) → word_bits d 4 v ≡ posted d v
unfolding posted
posted-bit d bytes v = word-bit d (4 * (v / 32)) bytes (v % 32) (omega arith) ∙ ap₂ (λ a b. bit (byte_at d a) b) row column
  where
    row : 4 * (v / 32) + v % 32 / 8 ≡ v / 8
    row = omega arith

    column : v % 32 % 8 ≡ v % 8
    column = omega arith

pub posted_words : (d : List ℕ) → ((i : ℕ) → byte_at d i < 256) → highest_of (word_bits d 4) 256 ≡ highest_posted d
posted_words d bytes = found-ext (word_bits d 4) (posted d) 256 (λ v l. posted-bit d bytes v)

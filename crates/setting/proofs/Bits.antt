-- One bit of a byte by a mask: computed at every byte and bit. Assumes nothing.
use Prim.Native.Nat.{ℕ, ◌*◌, ◌-◌, ◌%◌, ◌^◌, ◌<◌}
use mathlib.Core.Path.{◌≡◌}
use mathlib.Core.Bool.{Bool, true, false, ◌&&◌}
use lib.Dec.{T, eqb, eqb→eq}
use lib.Bits.{bit_or, bit_and}
use Rattle.processor.specs.Logic.{all_below}
use Rattle.processor.proofs.Tests.{below, and_left, and_right}
use Rattle.registers.specs.Vectors.{put_bit}

-- a test of a byte and a bit that passes wherever antt computes it
pub at_byte : (f : ℕ → ℕ → Bool) → T (all_below 256 (λ b. all_below 8 (f b))) → (b k : ℕ) → b < 256 → k < 8 → T (f b k)
at_byte f t b k hb hk = below 8 (f b) (below 256 (λ b. all_below 8 (f b)) t b hb) k hk

-- a test of a bit's two states
abbrev pub both : (Bool → Bool) → Bool
both f = f true && f false

pub of-both : (f : Bool → Bool) → T (both f) → (on : Bool) → T (f on)
of-both f t true = and_left (f true) (f false) t
of-both f t false = and_right (f true) (f false) t

-- two functions of a byte and a bit that agree wherever antt computes them agree
everywhere : (f g : ℕ → ℕ → ℕ) → T (all_below 256 (λ b. all_below 8 (λ k. eqb (f b k) (g b k)))) → (b k : ℕ) → b < 256 → k < 8 → f b k ≡ g b k
everywhere f g t b k hb hk = eqb→eq (f b k) (g b k) (at_byte (λ b k. eqb (f b k) (g b k)) t b k hb hk)

pub mask-on : (b k : ℕ) → b < 256 → k < 8 → bit_or b (1 * 2 ^ k % 256) ≡ put_bit b k true
mask-on = everywhere (λ b k. bit_or b (1 * 2 ^ k % 256)) (λ b k. put_bit b k true) tt

pub mask-off : (b k : ℕ) → b < 256 → k < 8 → bit_and b (255 - 1 * 2 ^ k % 256) ≡ put_bit b k false
mask-off = everywhere (λ b k. bit_and b (255 - 1 * 2 ^ k % 256)) (λ b k. put_bit b k false) tt

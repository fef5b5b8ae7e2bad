-- The claims of the functions below the model that are no plain equation with a definition allow one outcome: what a number stands for, a
-- word's highest bit, and bytes of a slice.
use Rattle.std.specs.Prelude.{ℕ, ◌+◌, ◌≡◌, ◌<◌, ◌≤◌, List, Option, IfSome, MatchOption, unwrap_or, length}
use Rattle.events.specs.Kinds.{Decodes}
use Rattle.trace.specs.Kinds.{Decodes as DecodesRecord}
use Rattle.page.specs.Page.{AreBytes}
use Rattle.registers.specs.Vectors.{highest_bit}
use Rattle.determined.specs.Determines.{Determines}

pub record PartsDetermined : Type 0 where
  -- Kind::try_from, RecordKind::try_from: the kind that the number stands for, or none
  pub kind : (number : ℕ) → Determines (Decodes number)
  pub record_kind : (number : ℕ) → Determines (DecodesRecord number)
  -- highest_bit: the place, or none
  pub place : (word : ℕ) → Determines (λ (r : Option ℕ). (unwrap_or r 0 ≡ highest_bit word 32) × IfSome r (λ p. 0 < p) × IfSome r (λ p. p ≤ 32))
  -- bytes_within: an array of n bytes, or none
  pub bytes : (p : List ℕ) (at n : ℕ) → Determines (λ (r : Option (List ℕ)). MatchOption r (length p < at + n) (λ b. (length b ≡ n) × (at + n ≤ length p) × AreBytes p at n b))

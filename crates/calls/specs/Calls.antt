-- How the exported functions hand their numbers over, and what gg_highest and gg_fresh reply.
use Rattle.std.specs.Prelude.{ℕ, ◌≡◌, not, List, Option, None, Some, eqb, length, replicate, if◌then◌else◌}
use Rattle.processor.specs.Offsets.{virr, visr}
use Rattle.registers.specs.Vectors.{highest_set}
use Rattle.events.specs.Answers.{numbers}
use Rattle.events.specs.declared.answer.Numbers.{Numbers}

-- an answer's number brought back, and its two values handed over
pub record Handed (n : Numbers) (a f s : ℕ) : Type 0 where
  pub answer : a ≡ n.answer
  pub first : f ≡ n.first
  pub second : s ≡ n.second

-- gg_highest's own answers: 0 refused (1 a page of another length, 2 another base); 1 a vector; 2 none. Numbers not named are 0.
abbrev pub found_numbers : Option ℕ → Numbers
found_numbers None = numbers 2 0 0
found_numbers (Some v) = numbers 1 v 0

-- gg_highest reads the page alone. Its claim: the answer and its two values are these.
unfoldable pub gg_highest : List ℕ → ℕ → Numbers
gg_highest p base =
    if not (eqb (length p) 4096) then numbers 0 1 0
    else if eqb base virr then found_numbers (highest_set p virr)
    else if eqb base visr then found_numbers (highest_set p visr)
    else numbers 0 2 0

pub record FreshReply : Type 0 where
  pub answer : ℕ
  pub record_bytes : List ℕ

-- 48 bytes all become 0, quiet; bytes of another length are refused and stay
unfoldable pub gg_fresh : List ℕ → FreshReply
gg_fresh b =
    if not (eqb (length b) 48) then record { answer = 0; record_bytes = b }
    else record { answer = 6; record_bytes = replicate 48 0 }

-- The claim of gg_fresh.
pub record FreshReplies (a : FreshReply) (n : ℕ) (b : List ℕ) : Type 0 where
  pub answer : n ≡ a.answer
  pub record_bytes : b ≡ a.record_bytes

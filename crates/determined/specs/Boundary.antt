-- The claims of the functions exported to C, and of those that they hand over, allow one outcome.
use Rattle.std.specs.Prelude.{ℕ, List}
use Rattle.events.specs.declared.answer.Numbers.{Numbers}
use Rattle.replies.specs.Replies.{Reply, Replies, LentReply, RepliesLent}
use Rattle.calls.specs.Calls.{Handed, FreshReply, FreshReplies}
use Rattle.determined.specs.Determines.{Determines}

pub record BoundaryDetermined : Type 0 where
  -- gg_step: the answer, its two values, the record's bytes and the page; step_bytes: the same, as numbers in one
  pub replies : (a : Reply) → Determines (λ (x : record { answer : ℕ; first : ℕ; second : ℕ; record_bytes : List ℕ; page : List ℕ }). Replies a x.answer x.first x.second x.record_bytes x.page)
  pub replies_numbers : (a : Reply) → Determines (λ (x : record { numbers : Numbers; record_bytes : List ℕ; page : List ℕ }). Replies a x.numbers.answer x.numbers.first x.numbers.second x.record_bytes x.page)
  -- gg_external_interrupt, external_bytes: and the descriptor
  pub replies_lent : (a : LentReply) → Determines (λ (x : record { answer : ℕ; first : ℕ; second : ℕ; record_bytes : List ℕ; page : List ℕ; descriptor : List ℕ }). RepliesLent a x.answer x.first x.second x.record_bytes x.page x.descriptor)
  pub replies_lent_numbers : (a : LentReply) → Determines (λ (x : record { numbers : Numbers; record_bytes : List ℕ; page : List ℕ; descriptor : List ℕ }). RepliesLent a x.numbers.answer x.numbers.first x.numbers.second x.record_bytes x.page x.descriptor)
  -- gg_leave, leave_bytes: of every page
  pub replies_every : (a : List ℕ → Reply) → Determines (λ (x : record { answer : ℕ; first : ℕ; second : ℕ; record_bytes : List ℕ }). (p : List ℕ) → Replies (a p) x.answer x.first x.second x.record_bytes p)
  pub replies_every_numbers : (a : List ℕ → Reply) → Determines (λ (x : record { numbers : Numbers; record_bytes : List ℕ }). (p : List ℕ) → Replies (a p) x.numbers.answer x.numbers.first x.numbers.second x.record_bytes p)
  -- gg_highest, hand_over: the answer and its two values
  pub handed : (n : Numbers) → Determines (λ (x : record { answer : ℕ; first : ℕ; second : ℕ }). Handed n x.answer x.first x.second)
  -- gg_fresh, fresh_bytes: the answer and the record's bytes
  pub fresh : (a : FreshReply) → Determines (λ (x : record { answer : ℕ; record_bytes : List ℕ }). FreshReplies a x.answer x.record_bytes)

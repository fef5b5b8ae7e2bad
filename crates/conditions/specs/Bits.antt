-- Condition 1 of the tender besides: what a guest leaves that has left, and what a posting takes out of a descriptor, bit by bit.
use Rattle.std.specs.Prelude.{ℕ, ◌<◌, ◌≡◌, true, false, List, eqb}
use Rattle.processor.specs.Logic.{bit}
use Rattle.processor.specs.Controls.{flags_in_bounds}
use Rattle.processor.specs.declared.controls.Record.{Record}
use Rattle.events.specs.Answers.{numbers}
use Rattle.page.specs.Page.{byte_at}
use Rattle.descriptor.specs.Descriptor.{posted, outstanding_byte}
use Rattle.meaning.specs.After.{After}

-- The guest has left: quiet, root mode and nothing recognised; page, RVI, SVI and controls unchanged.
pub record Outside (p : List ℕ) (r : Record) (a : After) : Type 0 where
  pub answer : a.answer ≡ numbers 6 0 0
  pub root : a.state.guest ≡ false
  pub unrecognised : a.state.recognised ≡ false
  pub page : a.page ≡ p
  pub rvi : a.state.rvi ≡ r.rvi
  pub svi : a.state.svi ≡ r.svi
  pub controls : a.state.controls ≡ r.controls

-- A guest whose leaving is not refused has left.
pub record LeavesOutside (p : List ℕ) (r : Record) (a : After) : Type 0 where
  pub outside : flags_in_bounds r.controls ≡ true → r.guest ≡ true → Outside p r a

-- The descriptor d' that an external interrupt leaves, where the answer is quiet: no vector is posted and no notification outstanding.
pub record NonePosted (a : After) (d' : List ℕ) : Type 0 where
  pub unposted : eqb a.answer.answer 6 ≡ true → (v : ℕ) → v < 256 → posted d' v ≡ false
  pub not_outstanding : eqb a.answer.answer 6 ≡ true → bit (byte_at d' outstanding_byte) 0 ≡ false

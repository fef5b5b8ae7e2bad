-- The table of open offsets carries its rule: one test, computed at every offset of the table's registers, and past them no register
-- of document 01's lists is left. Assumes nothing.
use Prim.Native.Nat.{ℕ, ◌+◌, ◌/◌, ◌≤◌, ◌%◌}
use native.Mathlib.Omega.{arith}
use mathlib.Core.Path.{◌≡◌, refl, sym, ◌∙◌}
use mathlib.Core.Bool.{Bool, true, false, ◌&&◌, beq}
use mathlib.Core.List.{List, [], ◌∷◌}
use lib.Dec.{T, eqb, leb, ltb, leb→le}
use borrow.Author.Tests.{le-ltb, ne_eqb, ltb-true, ltb-false}
use Rattle.processor.specs.Offsets.{vtpr, veoi, vicr_lo}
use Rattle.table.specs.Table.{open_tpr, open_delivery, open_read, in_register, in_registers, read_registers, write_registers}
use Rattle.table.specs.declared.offsets.Open.{Open}
use Rattle.table.specs.Marks.{Rule, marked, marked_first, marked_byte, rule_test, carries_rule}
use Rattle.processor.proofs.Tests.{below, same, and_left, and_right, never}

-- what the test says at one offset
passed : (table : Open) (offset : ℕ) → T (rule_test table offset) → Rule table offset
passed table o t =
    let tpr = beq (marked_first table.tpr o) (open_tpr o) in
    let delivery = beq (marked_first table.delivery o) (open_delivery o) in
    let read = beq (marked_byte table.read o) (open_read o) in
    let t₁ = and_right tpr _ t in
    let t₂ = and_right delivery _ t₁ in
    record {
      tpr = same _ _ (and_left tpr _ t);
      delivery = same _ _ (and_left delivery _ t₁);
      read = same _ _ (and_left read _ t₂);
      write = same _ _ (and_right read _ t₂);
    }

-- every register of the list ends at or below the limit
abbrev ends : ℕ → List ℕ → Bool
ends limit [] = true
ends limit (r ∷ rs) = leb (r + 4) limit && ends limit rs

past_all : (limit : ℕ) (rs : List ℕ) → T (ends limit rs) → (o : ℕ) → limit ≤ o → in_registers rs o ≡ false
past_all limit [] t o h = refl
past_all limit (r ∷ rs) t o h =
    simp (outside r o (leb→le (r + 4) limit (and_left (leb (r + 4) limit) (ends limit rs) t)) h) (past_all limit rs (and_right (leb (r + 4) limit) (ends limit rs) t) o h)
  where
    outside : (r o : ℕ) → r + 4 ≤ limit → limit ≤ o → in_register o r ≡ false
    outside r o p q = simp (le-ltb o (r + 4) (omega arith)) (never (leb r o))

-- past the table no register is marked, and nothing is open
past : (table : Open) (offset : ℕ) → 1024 ≤ offset → Rule table offset
past table o h = record {
  tpr = simp (ne_eqb o vtpr (omega arith)) (unmarked (eqb (o % 16) 0) table.tpr);
  delivery = simp (ne_eqb o vtpr (omega arith), ne_eqb o veoi (omega arith), ne_eqb o vicr_lo (omega arith)) (unmarked (eqb (o % 16) 0) table.delivery);
  read = unmarked (ltb (o % 16) 4) table.read ∙ sym (past_all 1024 read_registers tt o h);
  write = unmarked (ltb (o % 16) 4) table.write ∙ sym (past_all 1024 write_registers tt o h);
}
  where
    unmarked : (b : Bool) (marks : ℕ) → (b && marked marks o) ≡ false
    unmarked b marks = simp (le-ltb (o / 16) 64 (omega arith)) (never b)

-- the rule, at every offset
pub rule : (table : Open) → T (carries_rule table) → (offset : ℕ) → Rule table offset
rule table t o = by (ltb o 1024) refl
  where
    by : (b : Bool) → ltb o 1024 ≡ b → Rule table o
    by true e = passed table o (below 1024 (rule_test table) t o (ltb-true o 1024 e))
    by false e = past table o (ltb-false o 1024 e)

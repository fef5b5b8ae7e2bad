-- How the table of open offsets is read: each setting's number has a bit for each register, and says at each offset what document 01's
-- setting says.
use Rattle.std.specs.Prelude.{ℕ, ◌/◌, ◌%◌, ◌≡◌, Bool, ◌&&◌, eqb, ltb}
use Rattle.std.specs.Bool.{beq}
use Rattle.processor.specs.Logic.{bit, all_below}
use Rattle.table.specs.Table.{open_tpr, open_delivery, open_read, open_write}
use Rattle.table.specs.declared.offsets.Open.{Open}

-- the offset's register is one of the table's 64, and its bit of the number is 1
abbrev pub marked : ℕ → ℕ → Bool
marked marks offset = ltb (offset / 16) 64 && bit marks (offset / 16)

-- the first byte alone of a register that is marked
abbrev pub marked_first : ℕ → ℕ → Bool
marked_first marks offset = eqb (offset % 16) 0 && marked marks offset

-- any of the four bytes of a register that is marked
abbrev pub marked_byte : ℕ → ℕ → Bool
marked_byte marks offset = ltb (offset % 16) 4 && marked marks offset

-- at an offset, each setting's marks say what its rule says
pub record Rule (table : Open) (offset : ℕ) : Type 0 where
  pub tpr : marked_first table.tpr offset ≡ open_tpr offset
  pub delivery : marked_first table.delivery offset ≡ open_delivery offset
  pub read : marked_byte table.read offset ≡ open_read offset
  pub write : marked_byte table.write offset ≡ open_write offset

-- the same four equations, as a test
abbrev pub rule_test : Open → ℕ → Bool
rule_test table offset =
    beq (marked_first table.tpr offset) (open_tpr offset) &&
    (beq (marked_first table.delivery offset) (open_delivery offset) &&
    (beq (marked_byte table.read offset) (open_read offset) && beq (marked_byte table.write offset) (open_write offset)))

-- The table carries its rule: the test passes at every offset of its 64 registers.
abbrev pub carries_rule : Open → Bool
carries_rule table = all_below 1024 (rule_test table)

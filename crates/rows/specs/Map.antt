-- The open offsets register by register: document 01's registers in the order of its list, each with its marks.
use Rattle.std.specs.Prelude.{ℕ, zero, suc, Bool, List, [], ◌∷◌}
use Rattle.table.specs.Table.{open_tpr, open_delivery, open_read, open_write, read_registers}

-- A four-byte register: its offset, and a mark for each setting in which its first byte is open.
pub record Register : Type 0 where
  pub offset : ℕ
  pub read : Bool
  pub write : Bool
  pub delivery : Bool
  pub tpr : Bool

-- what a row of the map holds; past the last row none
pub data MapRow : Type 0 where
  held : Register → MapRow
  none : MapRow

-- a register: its offset, and a mark for each setting in which that offset is open
abbrev pub register_at : ℕ → Register
register_at offset =
    record {
      offset = offset;
      read = open_read offset;
      write = open_write offset;
      delivery = open_delivery offset;
      tpr = open_tpr offset;
    }

-- the register at a place of a list of offsets, counted from 0; past the last none
abbrev pub placed : List ℕ → ℕ → MapRow
placed [] place = none
placed (offset ∷ offsets) zero = held (register_at offset)
placed (offset ∷ offsets) (suc place) = placed offsets place

-- A row of the map: the register at that place of document 01's list.
unfoldable pub row_at : ℕ → MapRow
row_at place = placed read_registers place

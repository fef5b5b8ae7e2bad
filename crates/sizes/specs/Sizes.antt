-- Document 01, "Memory accesses": the bytes of an access, by its size.
use Rattle.std.specs.Prelude.{ℕ, ◌%◌, List, eqb, if◌then◌else◌}
use Rattle.page.specs.Page.{byte_at, half_at, word_at, long_at}
use Rattle.stores.specs.Stores.{set_byte, set_half, set_word, set_long}

-- the bytes of a read, by its size
unfoldable pub read_at : List ℕ → ℕ → ℕ → ℕ
read_at p at size =
    if eqb size 1 then byte_at p at
    else if eqb size 2 then half_at p at
    else if eqb size 4 then word_at p at
    else long_at p at

-- the bytes of a write, by its size
unfoldable pub store_at : List ℕ → ℕ → ℕ → ℕ → List ℕ
store_at p at size value =
    if eqb size 1 then set_byte p at (value % 0x100)
    else if eqb size 2 then set_half p at (value % 0x1_0000)
    else if eqb size 4 then set_word p at (value % 0x1_0000_0000)
    else set_long p at value

-- Document 01, "Registers on the page": bytes stored, little-endian.
use Rattle.std.specs.Prelude.{ℕ, ◌+◌, ◌/◌, ◌%◌, List, [], ◌∷◌, set}

-- the page with bytes stored; nothing changes past its end
abbrev pub set_byte : List ℕ → ℕ → ℕ → List ℕ
set_byte p at value = set p at value

-- bytes stored one after another
abbrev pub set_bytes : List ℕ → ℕ → List ℕ → List ℕ
set_bytes p at [] = p
set_bytes p at (b ∷ bs) = set_bytes (set_byte p at b) (at + 1) bs

unfoldable pub set_half : List ℕ → ℕ → ℕ → List ℕ
set_half p at value = set_byte (set_byte p at (value % 0x100)) (at + 1) (value / 0x100 % 0x100)

unfoldable pub set_word : List ℕ → ℕ → ℕ → List ℕ
set_word p at value =
    set_byte (set_byte (set_byte (set_byte p at (value % 0x100)) (at + 1) (value / 0x100 % 0x100))
    (at + 2) (value / 0x1_0000 % 0x100)) (at + 3) (value / 0x100_0000 % 0x100)

unfoldable pub set_long : List ℕ → ℕ → ℕ → List ℕ
set_long p at value = set_word (set_word p at (value % 0x1_0000_0000)) (at + 4) (value / 0x1_0000_0000)

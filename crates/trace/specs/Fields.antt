-- Document 02, E5: fields "all big-endian", each 0 where the bytes do not have it whole.
use Rattle.std.specs.Prelude.{ℕ, ◌+◌, ◌*◌, Bool, List, leb, length, if◌then◌else◌}
use Rattle.page.specs.Page.{byte_at}

-- the bytes have n of them from a place on
abbrev pub has : List ℕ → ℕ → ℕ → Bool
has b at n = leb (at + n) (length b)

-- two, four and eight bytes, the high byte first
abbrev pub two_of : List ℕ → ℕ → ℕ
two_of b at = 0x100 * byte_at b at + byte_at b (at + 1)

abbrev pub four_of : List ℕ → ℕ → ℕ
four_of b at = 0x1_0000 * two_of b at + two_of b (at + 2)

abbrev pub eight_of : List ℕ → ℕ → ℕ
eight_of b at = 0x1_0000_0000 * four_of b at + four_of b (at + 4)

unfoldable pub two_at : List ℕ → ℕ → ℕ
two_at b at = if has b at 2 then two_of b at else 0

unfoldable pub four_at : List ℕ → ℕ → ℕ
four_at b at = if has b at 4 then four_of b at else 0

unfoldable pub eight_at : List ℕ → ℕ → ℕ
eight_at b at = if has b at 8 then eight_of b at else 0

-- Document 01, "Registers on the page": bytes of the page, little-endian.
use Rattle.std.specs.Prelude.{ℕ, ◌+◌, ◌*◌, ◌<◌, ◌≡◌, List, length, get_or, leb, if◌then◌else◌}

-- a byte of the page, 0 past its end
abbrev pub byte_at : List ℕ → ℕ → ℕ
byte_at p at = get_or p at 0

-- bytes that stand in the page from a place on, n of them, 0 past its end
abbrev pub AreBytes : List ℕ → ℕ → ℕ → List ℕ → Type 0
AreBytes p at n bytes = (i : ℕ) → i < n → byte_at bytes i ≡ byte_at p (at + i)

-- two, four and eight bytes, the low byte first
unfoldable pub half_at : List ℕ → ℕ → ℕ
half_at p at = byte_at p at + 0x100 * byte_at p (at + 1)

abbrev pub word_of : ℕ → ℕ → ℕ → ℕ → ℕ
word_of b₀ b₁ b₂ b₃ = b₀ + 0x100 * b₁ + 0x1_0000 * b₂ + 0x100_0000 * b₃

unfoldable pub word_at : List ℕ → ℕ → ℕ
word_at p at = word_of (byte_at p at) (byte_at p (at + 1)) (byte_at p (at + 2)) (byte_at p (at + 3))

unfoldable pub long_at : List ℕ → ℕ → ℕ
long_at p at = word_at p at + 0x1_0000_0000 * word_at p (at + 4)

-- four and eight bytes where the slice has them all, else 0
unfoldable pub word_within : List ℕ → ℕ → ℕ
word_within p at = if leb (at + 4) (length p) then word_at p at else 0

unfoldable pub long_within : List ℕ → ℕ → ℕ
long_within p at = if leb (at + 8) (length p) then long_at p at else 0

-- a page: 4,096 bytes
pub record IsPage (p : List ℕ) : Type 0 where
  pub size : length p ≡ 4096
  pub bytes : (i : ℕ) → byte_at p i < 256

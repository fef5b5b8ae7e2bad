-- Document 02, E1: the lent descriptor, which vectors are posted in it, and what becomes of them.
use Rattle.std.specs.Prelude.{ℕ, zero, suc, ◌+◌, ◌*◌, ◌/◌, ◌%◌, Bool, false, List, [], ◌∷◌, Option, None, Some, eqb, length, if◌then◌else◌}
use Rattle.std.specs.Int.Bits.{bit_or}
use Rattle.processor.specs.Logic.{bit, larger}
use Rattle.processor.specs.Offsets.{virr}
use Rattle.page.specs.Page.{byte_at}
use Rattle.stores.specs.Stores.{set_byte}
use Rattle.registers.specs.Vectors.{vector_byte, put_bit, highest_of}

-- a lent 64-byte descriptor
abbrev pub descriptor_fits : List ℕ → Bool
descriptor_fits d = eqb (length d) 64

-- 256 request bits in its first 32 bytes: vector v at byte v/8, bit v mod 8
unfoldable pub posted : List ℕ → ℕ → Bool
posted d v = bit (byte_at d (v / 8)) (v % 8)

-- then outstanding-notification as bit 0 of byte 32
abbrev pub outstanding_byte : ℕ
outstanding_byte = 32

-- the highest posted vector, or none
abbrev pub highest_posted : List ℕ → Option ℕ
highest_posted d = highest_of (posted d) 256

-- the set places below n of a row of bits, the highest first
unfoldable pub places_below : (ℕ → Bool) → ℕ → List ℕ
places_below f zero = []
places_below f (suc v) = if f v then (v ∷ places_below f v) else places_below f v

-- the posted vectors
abbrev pub posted_vectors : List ℕ → List ℕ
posted_vectors d = places_below (posted d) 256

-- RVI becomes the larger of itself and the highest posted vector (unchanged if none)
unfoldable pub raised_by : ℕ → Option ℕ → ℕ
raised_by rvi None = rvi
raised_by rvi (Some v) = larger rvi v

-- where VIRR has the eight vectors of the descriptor's byte k
abbrev pub place_of : ℕ → ℕ
place_of k = virr + vector_byte (8 * k)

-- a byte with the bits of another on too
abbrev pub with_bits : ℕ → ℕ → ℕ
with_bits byte other = bit_or byte other % 0x100

-- the page with the posted bits of byte k on in VIRR too
abbrev pub joined_byte : List ℕ → List ℕ → ℕ → List ℕ
joined_byte p d k = set_byte p (place_of k) (with_bits (byte_at p (place_of k)) (byte_at d k))

-- posted bits join VIRR: those of the bytes below n, of all 32
unfoldable pub joined_below : List ℕ → List ℕ → ℕ → List ℕ
joined_below p d zero = p
joined_below p d (suc k) = joined_byte (joined_below p d k) d k

abbrev pub joined : List ℕ → List ℕ → List ℕ
joined p d = joined_below p d 32

-- posted bits are cleared: the bytes below n become 0
unfoldable pub cleared_below : List ℕ → ℕ → List ℕ
cleared_below d zero = d
cleared_below d (suc k) = set_byte (cleared_below d k) k 0

-- the outstanding bit is cleared, posted bits are cleared; bits 7:1 of byte 32 and bytes 33 to 63 stay
unfoldable pub cleared : List ℕ → List ℕ
cleared d = set_byte (cleared_below d 32) outstanding_byte (put_bit (byte_at d outstanding_byte) 0 false)

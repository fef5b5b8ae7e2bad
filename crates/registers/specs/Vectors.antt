-- Document 01, "Registers on the page": the vectors of VIRR and VISR.
use Rattle.std.specs.Prelude.{ℕ, zero, suc, ◌+◌, ◌-◌, ◌*◌, ◌/◌, ◌%◌, ◌^◌, ◌<◌, ◌≤◌, ◌≡◌, Bool, true, false, List, Option, None, Some, unwrap_or, eqb, if◌then◌else◌}
use Rattle.processor.specs.Logic.{bit}
use Rattle.page.specs.Page.{byte_at, word_at}
use Rattle.stores.specs.Stores.{set_byte}

-- Vector v is bit (v mod 32) of the word at the register's base + 16 × floor(v/32): bit (v mod 8) of this byte from the base on
abbrev pub vector_byte : ℕ → ℕ
vector_byte v = v / 32 * 16 + v % 32 / 8

-- a byte with its bit k on, or off
abbrev pub put_bit : ℕ → ℕ → Bool → ℕ
put_bit byte k true = if bit byte k then byte else byte + 2 ^ k
put_bit byte k false = if bit byte k then byte - 2 ^ k else byte

-- the vector's bit of the register at the base is set
unfoldable pub is_set : List ℕ → ℕ → ℕ → Bool
is_set p base v = bit (byte_at p (base + vector_byte v)) (v % 8)

-- the page with the vector's bit of the register at the base set, or cleared
unfoldable pub put_vector : List ℕ → ℕ → ℕ → Bool → List ℕ
put_vector p base v on = set_byte p (base + vector_byte v) (put_bit (byte_at p (base + vector_byte v)) (v % 8) on)

abbrev pub set_vector : List ℕ → ℕ → ℕ → List ℕ
set_vector p base v = put_vector p base v true

abbrev pub clear_vector : List ℕ → ℕ → ℕ → List ℕ
clear_vector p base v = put_vector p base v false

-- a row of bits with one bit on, or off
abbrev pub put : (ℕ → Bool) → ℕ → Bool → ℕ → Bool
put f v on w = if eqb v w then on else f w

-- the highest set place below n of a row of bits, or none
unfoldable pub highest_of : (ℕ → Bool) → ℕ → Option ℕ
highest_of f zero = None
highest_of f (suc v) = if f v then Some v else highest_of f v

-- the highest set vector below n, or none
abbrev pub highest_below : List ℕ → ℕ → ℕ → Option ℕ
highest_below p base n = highest_of (is_set p base) n

-- the highest set vector of the register at the base, or none
abbrev pub highest_set : List ℕ → ℕ → Option ℕ
highest_set p base = highest_below p base 256

-- a vector exactly where a bit below n is set, and then the highest: what the search promises, in words of the bits
abbrev pub Finds : List ℕ → ℕ → ℕ → Option ℕ → Type 0
Finds p base n None = (w : ℕ) → w < n → is_set p base w ≡ false
Finds p base n (Some v) = (v < n) × (is_set p base v ≡ true) × ((w : ℕ) → w < n → is_set p base w ≡ true → w ≤ v)

-- The highest set vector of an empty register counts as 0.
unfoldable pub highest : List ℕ → ℕ → ℕ
highest p base = unwrap_or (highest_set p base) 0

-- ---- of the search alone: no definition of another crate speaks of these
-- a row of bits in words of 32, which stand so many bytes apart
abbrev pub word_bits : List ℕ → ℕ → ℕ → Bool
word_bits p step v = bit (word_at p (step * (v / 32))) (v % 32)

-- what its number says: none at 256, past every vector; else the vector
abbrev pub found_at : ℕ → Option ℕ
found_at place = if eqb place 256 then None else Some place

-- a number that says what is found in a row of 256 bits
pub record Places (f : ℕ → Bool) (place : ℕ) : Type 0 where
  pub within : place ≤ 256
  pub found : found_at place ≡ highest_of f 256

-- what it asks of a word: its highest set bit below bit n, counted from 1; 0 where none is set
unfoldable pub highest_bit : ℕ → ℕ → ℕ
highest_bit word zero = 0
highest_bit word (suc k) = if bit word k then suc k else highest_bit word k

-- Document 01, "Registers on the page", as rows: where a vector's bit stands, and what setting and clearing it leaves.
use Rattle.std.specs.Prelude.{ℕ, ◌+◌, ◌-◌, Bool, ◌&&◌, List, [], ◌∷◌, eqb, replicate}
use Rattle.std.specs.Bool.{beq}
use Rattle.processor.specs.Logic.{all_below}
use Rattle.processor.specs.Rows.{same_bytes, word, with_words}
use Rattle.registers.specs.Vectors.{is_set, set_vector, clear_vector}

-- as much of a page as holds both registers
abbrev zeros : List ℕ
zeros = replicate 0x280 0x00

abbrev ones : List ℕ
ones = replicate 0x280 0xff

-- of 256 vectors this one alone is set
abbrev set_alone : List ℕ → ℕ → ℕ → Bool
set_alone p base v = all_below 256 (λ w. beq (is_set p base w) (eqb w v))

-- at a base, the vector is one bit of the word at a distance from it: set there alone; set and cleared, with no other byte changed; set
-- again and cleared again, with none
abbrev stands_from : ℕ → ℕ → ℕ → ℕ → Bool
stands_from base v distance bit =
    set_alone (with_words zeros (word (base + distance) bit ∷ [])) base v &&
    same_bytes (set_vector zeros base v) (with_words zeros (word (base + distance) bit ∷ [])) &&
    same_bytes (clear_vector ones base v) (with_words ones (word (base + distance) (0xffff_ffff - bit) ∷ [])) &&
    same_bytes (set_vector ones base v) ones && same_bytes (clear_vector zeros base v) zeros

-- in VIRR, from 200H, and in VISR the same from 100H
abbrev stands : ℕ → ℕ → ℕ → Bool
stands v distance bit = stands_from 0x200 v distance bit && stands_from 0x100 v distance bit

-- bit (v mod 32) of the word at 200H + 16 × floor(v/32): the ends of each word, the ends of the first word's bytes, and 71H
abbrev pub vector_rows : List Bool
vector_rows =
    stands 0x00 0x000 0x1 ∷ stands 0x07 0x000 0x80 ∷ stands 0x08 0x000 0x100 ∷ stands 0x17 0x000 0x80_0000 ∷
    stands 0x18 0x000 0x100_0000 ∷ stands 0x1f 0x000 0x8000_0000 ∷ stands 0x20 0x010 0x1 ∷ stands 0x3f 0x010 0x8000_0000 ∷
    stands 0x40 0x020 0x1 ∷ stands 0x5f 0x020 0x8000_0000 ∷ stands 0x60 0x030 0x1 ∷ stands 0x71 0x030 0x2_0000 ∷
    stands 0x7f 0x030 0x8000_0000 ∷ stands 0x80 0x040 0x1 ∷ stands 0x9f 0x040 0x8000_0000 ∷ stands 0xa0 0x050 0x1 ∷
    stands 0xbf 0x050 0x8000_0000 ∷ stands 0xc0 0x060 0x1 ∷ stands 0xdf 0x060 0x8000_0000 ∷ stands 0xe0 0x070 0x1 ∷
    stands 0xff 0x070 0x8000_0000 ∷ []

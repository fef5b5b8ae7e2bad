-- Document 02, E4, as rows over a page's words: what the search finds where one vector, two words, every byte, or only the bytes between a
-- register's words are set; and what is found of a register and of a word.
use Rattle.std.specs.Prelude.{ℕ, ◌+◌, Bool, true, false, not, List, [], ◌∷◌, ◌++◌, Option, None, Some, eqb, replicate}
use Rattle.std.specs.Option.{option_eq}
use Rattle.processor.specs.Offsets.{virr, visr}
use Rattle.processor.specs.Rows.{word, with_words}
use Rattle.registers.specs.Vectors.{put, highest, found_at, highest_bit}
use Rattle.register_laws.specs.Searches.{Search}

abbrev empty_page : List ℕ
empty_page = replicate 4096 0

abbrev found_on : List ℕ → ℕ → Option ℕ → Search
found_on p base found = record { page = p; base = base; found = found }

-- the words at a distance from both bases
abbrev in_both : ℕ → ℕ → ℕ → ℕ → List ℕ
in_both distance₁ bits₁ distance₂ bits₂ =
    with_words empty_page (word (0x100 + distance₁) bits₁ ∷ word (0x200 + distance₁) bits₁ ∷ word (0x100 + distance₂) bits₂ ∷ word (0x200 + distance₂) bits₂ ∷ [])

-- one bit of VIRR alone: that vector there, and none in VISR; and the same with the registers changed about
abbrev word_alone : ℕ → ℕ → ℕ → List Search
word_alone v distance bit =
    found_on (with_words empty_page (word (0x200 + distance) bit ∷ [])) virr (Some v) ∷
    found_on (with_words empty_page (word (0x200 + distance) bit ∷ [])) visr None ∷
    found_on (with_words empty_page (word (0x100 + distance) bit ∷ [])) visr (Some v) ∷
    found_on (with_words empty_page (word (0x100 + distance) bit ∷ [])) virr None ∷ []

-- two words with bits in them, in both registers: the highest of all
abbrev of_two : ℕ → ℕ → ℕ → ℕ → ℕ → List Search
of_two v distance₁ bits₁ distance₂ bits₂ =
    found_on (in_both distance₁ bits₁ distance₂ bits₂) virr (Some v) ∷ found_on (in_both distance₁ bits₁ distance₂ bits₂) visr (Some v) ∷ []

-- the bytes between a register's words are all FF, the words are 0
abbrev between : List ℕ
between =
    with_words (replicate 4096 0xff)
    (word 0x100 0 ∷ word 0x110 0 ∷ word 0x120 0 ∷ word 0x130 0 ∷ word 0x140 0 ∷ word 0x150 0 ∷ word 0x160 0 ∷ word 0x170 0 ∷
    word 0x200 0 ∷ word 0x210 0 ∷ word 0x220 0 ∷ word 0x230 0 ∷ word 0x240 0 ∷ word 0x250 0 ∷ word 0x260 0 ∷ word 0x270 0 ∷ [])

-- an empty register is none; bit 0 alone is vector 0; bit 255 alone; one in each other word; the higher of two; every bit; the other bytes
-- between them are nobody's
abbrev pub word_search_rows : List Search
word_search_rows =
    (found_on empty_page virr None ∷ found_on empty_page visr None ∷ []) ++ word_alone 0 0x00 0x1 ++ word_alone 255 0x70 0x8000_0000 ++
    word_alone 0x1f 0x00 0x8000_0000 ++ word_alone 0x20 0x10 0x1 ++ word_alone 0x48 0x20 0x100 ++ word_alone 0x71 0x30 0x2_0000 ++
    word_alone 0x80 0x40 0x1 ++ word_alone 0xbf 0x50 0x8000_0000 ++ word_alone 0xc0 0x60 0x1 ++ word_alone 0xe0 0x70 0x1 ++
    of_two 0x22 0x10 0x6 0x00 0xffff_ffff ++ of_two 0x40 0x20 0x1 0x10 0x8000_0000 ++ of_two 0xe9 0x70 0x300 0x60 0x8000_0000 ++
    (found_on (replicate 4096 0xff) virr (Some 255) ∷ found_on (replicate 4096 0xff) visr (Some 255) ∷ []) ++
    (found_on between virr None ∷ found_on between visr None ∷ [])

-- The highest set vector of an empty register counts as 0.
abbrev pub highest_rows : List Bool
highest_rows =
    eqb (highest empty_page virr) 0 ∷ eqb (highest empty_page visr) 0 ∷ eqb (highest (with_words empty_page (word 0x230 0x2_0000 ∷ [])) virr) 0x71 ∷
    eqb (highest (with_words empty_page (word 0x230 0x2_0000 ∷ [])) visr) 0 ∷ eqb (highest (with_words empty_page (word 0x130 0x1 ∷ [])) visr) 0x60 ∷ []

-- a word's highest set bit below bit n, counted from 1; 0 where none is set
abbrev pub word_rows : List Bool
word_rows =
    eqb (highest_bit 0 32) 0 ∷ eqb (highest_bit 0x1 32) 1 ∷ eqb (highest_bit 0x6 32) 3 ∷ eqb (highest_bit 0x0002_0001 32) 18 ∷
    eqb (highest_bit 0x8000_0000 32) 32 ∷ eqb (highest_bit 0xffff_ffff 32) 32 ∷ eqb (highest_bit 0x8000_0001 31) 1 ∷ eqb (highest_bit 0x1 0) 0 ∷
    -- none at 256, past every vector; else the vector
    option_eq eqb (found_at 256) None ∷ option_eq eqb (found_at 255) (Some 255) ∷ option_eq eqb (found_at 0) (Some 0) ∷ option_eq eqb (found_at 257) (Some 257) ∷
    -- a row of bits with one bit on, or off
    put (eqb 0x31) 0x71 true 0x71 ∷ put (eqb 0x31) 0x71 true 0x31 ∷ not (put (eqb 0x31) 0x71 true 0x70) ∷ not (put (eqb 0x31) 0x71 true 0x72) ∷
    not (put (eqb 0x31) 0x31 false 0x31) ∷ put (eqb 0x31) 0x30 false 0x31 ∷ put (eqb 0x31) 0x32 false 0x31 ∷ []

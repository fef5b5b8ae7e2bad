-- Document 02, E1, as rows: the descriptor, which vectors are posted in it, and what becomes of them.
use Rattle.std.specs.Prelude.{ℕ, Bool, ◌&&◌, List, [], ◌∷◌, ◌++◌, Option, None, Some, eqb, replicate, set}
use Rattle.std.specs.Bool.{beq}
use Rattle.processor.specs.Logic.{all_below}
use Rattle.processor.specs.Rows.{at_each, at_none, same_bytes, word, with_words}
use Rattle.meaning.specs.Bench.{unposted, two_posted}
use Rattle.descriptor.specs.Descriptor.{descriptor_fits, posted, highest_posted, posted_vectors, raised_by, joined, cleared}

-- what is found is this vector, or none where it is 256
abbrev finds : Option ℕ → ℕ → Bool
finds None v = eqb v 256
finds (Some w) v = eqb w v

-- one bit of one byte: this vector alone is posted, and is the highest
abbrev posted_alone : ℕ → ℕ → ℕ → Bool
posted_alone v byte bits =
    all_below 256 (λ w. beq (posted (set (unposted 0xff) byte bits) w) (eqb w v)) && finds (highest_posted (set (unposted 0xff) byte bits)) v

-- 64 bytes; vector v at byte v/8, bit v mod 8
abbrev pub posted_rows : List Bool
posted_rows =
    at_each (λ n. descriptor_fits (replicate n 0)) (64 ∷ []) ∷ at_none (λ n. descriptor_fits (replicate n 0)) (0 ∷ 32 ∷ 63 ∷ 65 ∷ 128 ∷ []) ∷
    posted_alone 0x00 0 0x01 ∷ posted_alone 0x07 0 0x80 ∷ posted_alone 0x08 1 0x01 ∷ posted_alone 0x1f 3 0x80 ∷ posted_alone 0x20 4 0x01 ∷
    posted_alone 0x31 6 0x02 ∷ posted_alone 0x71 14 0x02 ∷ posted_alone 0x80 16 0x01 ∷ posted_alone 0xe0 28 0x01 ∷ posted_alone 0xff 31 0x80 ∷
    finds (highest_posted (unposted 0xff)) 256 ∷ finds (highest_posted two_posted) 0x71 ∷ finds (highest_posted (set two_posted 6 0xff)) 0x71 ∷
    finds (highest_posted (replicate 64 0xff)) 0xff ∷ same_bytes (posted_vectors two_posted) (0x71 ∷ 0x31 ∷ []) ∷
    same_bytes (posted_vectors (unposted 0xff)) [] ∷ same_bytes (posted_vectors (set (set (unposted 0xff) 31 0x80) 0 0x01)) (0xff ∷ 0x00 ∷ []) ∷ []

-- RVI becomes the larger of itself and the highest posted vector (unchanged if none).
abbrev pub raised_rows : List Bool
raised_rows =
    eqb (raised_by 0x60 None) 0x60 ∷ eqb (raised_by 0x00 None) 0x00 ∷ eqb (raised_by 0x60 (Some 0x71)) 0x71 ∷ eqb (raised_by 0x95 (Some 0x71)) 0x95 ∷
    eqb (raised_by 0x71 (Some 0x71)) 0x71 ∷ []

-- as much of a page as holds VIRR, marked A5
abbrev marks : List ℕ
marks = replicate 0x280 0xa5

-- posted bits join VIRR: the eight words, and no byte between them; what VIRR has stays
abbrev pub joined_rows : List Bool
joined_rows =
    same_bytes (joined marks (unposted 0xff)) marks ∷
    same_bytes (joined marks (replicate 64 0xff))
    (with_words marks (word 0x200 0xffff_ffff ∷ word 0x210 0xffff_ffff ∷ word 0x220 0xffff_ffff ∷ word 0x230 0xffff_ffff ∷
    word 0x240 0xffff_ffff ∷ word 0x250 0xffff_ffff ∷ word 0x260 0xffff_ffff ∷ word 0x270 0xffff_ffff ∷ [])) ∷
    same_bytes (joined marks two_posted) (with_words marks (word 0x210 0xa5a7_a5a5 ∷ word 0x230 0xa5a7_a5a5 ∷ [])) ∷
    same_bytes (joined (replicate 0x280 0) (0x11 ∷ 0x22 ∷ 0x44 ∷ 0x88 ∷ 0x33 ∷ replicate 26 0 ++ (0x80 ∷ replicate 32 0xff)))
    (with_words (replicate 0x280 0) (word 0x200 0x8844_2211 ∷ word 0x210 0x33 ∷ word 0x270 0x8000_0000 ∷ [])) ∷ []

-- the outstanding bit and the posted bits are cleared; bits 7:1 of byte 32 and bytes 33 to 63 stay
abbrev pub cleared_rows : List Bool
cleared_rows =
    same_bytes (cleared (replicate 64 0xff)) (replicate 32 0 ++ (0xfe ∷ replicate 31 0xff)) ∷
    same_bytes (cleared two_posted) (unposted 0xfe) ∷ same_bytes (cleared (unposted 0x01)) (unposted 0x00) ∷
    same_bytes (cleared (unposted 0x80)) (unposted 0x80) ∷ same_bytes (cleared (unposted 0x00)) (unposted 0x00) ∷ []

abbrev pub descriptor_rows : List Bool
descriptor_rows = posted_rows ++ raised_rows ++ joined_rows ++ cleared_rows

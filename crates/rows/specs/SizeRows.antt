-- Document 01, "Registers on the page" and "Memory accesses", as rows: bytes stored little-endian, and the bytes of an access by its size,
-- all of them different.
use Rattle.std.specs.Prelude.{ℕ, Bool, List, [], ◌∷◌, ◌++◌, eqb, replicate}
use Rattle.processor.specs.Rows.{same_bytes, nine}
use Rattle.stores.specs.Stores.{set_byte, set_half, set_word, set_long}
use Rattle.sizes.specs.Sizes.{read_at, store_at}

-- ten bytes marked A5
abbrev marks : List ℕ
marks = replicate 10 0xa5

-- one, two, four and eight bytes stored from byte 1 on
abbrev pub store_rows : List Bool
store_rows =
    same_bytes (set_byte marks 1 0x12) (0xa5 ∷ 0x12 ∷ replicate 8 0xa5) ∷
    same_bytes (set_half marks 1 0x1234) (0xa5 ∷ 0x34 ∷ 0x12 ∷ replicate 7 0xa5) ∷
    same_bytes (set_word marks 1 0x1234_5678) (0xa5 ∷ 0x78 ∷ 0x56 ∷ 0x34 ∷ 0x12 ∷ replicate 5 0xa5) ∷
    same_bytes (set_long marks 1 0x0123_4567_89ab_cdef) (0xa5 ∷ 0xef ∷ 0xcd ∷ 0xab ∷ 0x89 ∷ 0x67 ∷ 0x45 ∷ 0x23 ∷ 0x01 ∷ 0xa5 ∷ []) ∷
    -- the ends of each byte
    same_bytes (set_half marks 0 0x0100) (0x00 ∷ 0x01 ∷ replicate 8 0xa5) ∷ same_bytes (set_half marks 0 0xff00) (0x00 ∷ 0xff ∷ replicate 8 0xa5) ∷
    same_bytes (set_half marks 0 0x00ff) (0xff ∷ 0x00 ∷ replicate 8 0xa5) ∷
    same_bytes (set_word marks 0 0x0001_0000) (0x00 ∷ 0x00 ∷ 0x01 ∷ 0x00 ∷ replicate 6 0xa5) ∷
    same_bytes (set_word marks 0 0x0100_0000) (0x00 ∷ 0x00 ∷ 0x00 ∷ 0x01 ∷ replicate 6 0xa5) ∷
    same_bytes (set_word marks 0 0xff00_ff00) (0x00 ∷ 0xff ∷ 0x00 ∷ 0xff ∷ replicate 6 0xa5) ∷
    same_bytes (set_word marks 0 0x00ff_00ff) (0xff ∷ 0x00 ∷ 0xff ∷ 0x00 ∷ replicate 6 0xa5) ∷
    same_bytes (set_long marks 0 0x0000_0001_0000_0000) (0x00 ∷ 0x00 ∷ 0x00 ∷ 0x00 ∷ 0x01 ∷ 0x00 ∷ 0x00 ∷ 0x00 ∷ 0xa5 ∷ 0xa5 ∷ []) ∷
    same_bytes (set_long marks 0 0xff00_0000_ffff_ffff) (0xff ∷ 0xff ∷ 0xff ∷ 0xff ∷ 0x00 ∷ 0x00 ∷ 0x00 ∷ 0xff ∷ 0xa5 ∷ 0xa5 ∷ []) ∷
    same_bytes (set_word marks 0 0x00ff_ffff) (0xff ∷ 0xff ∷ 0xff ∷ 0x00 ∷ replicate 6 0xa5) ∷
    same_bytes (set_long marks 0 0x0000_0001_0000_0001) (0x01 ∷ 0x00 ∷ 0x00 ∷ 0x00 ∷ 0x01 ∷ 0x00 ∷ 0x00 ∷ 0x00 ∷ 0xa5 ∷ 0xa5 ∷ []) ∷
    -- of a value that is too wide the low bytes
    same_bytes (set_half marks 0 0x1_0000) (0x00 ∷ 0x00 ∷ replicate 8 0xa5) ∷ same_bytes (set_half marks 0 0x1_2345) (0x45 ∷ 0x23 ∷ replicate 8 0xa5) ∷
    same_bytes (set_word marks 0 0x1_0000_0000) (0x00 ∷ 0x00 ∷ 0x00 ∷ 0x00 ∷ replicate 6 0xa5) ∷
    same_bytes (set_word marks 0 0x12_3456_789a) (0x9a ∷ 0x78 ∷ 0x56 ∷ 0x34 ∷ replicate 6 0xa5) ∷
    -- past the end nothing is stored
    same_bytes (set_byte marks 10 0x12) marks ∷ same_bytes (set_half marks 9 0x1234) (replicate 9 0xa5 ++ (0x34 ∷ [])) ∷
    same_bytes (set_word marks 8 0x1234_5678) (replicate 8 0xa5 ++ (0x78 ∷ 0x56 ∷ [])) ∷
    same_bytes (set_long marks 3 0x0123_4567_89ab_cdef) (replicate 3 0xa5 ++ (0xef ∷ 0xcd ∷ 0xab ∷ 0x89 ∷ 0x67 ∷ 0x45 ∷ 0x23 ∷ [])) ∷ []

-- A redirected read gives the bytes: 1, 2, 4 or 8 of them.
abbrev pub read_rows : List Bool
read_rows =
    eqb (read_at nine 1 1) 0x22 ∷ eqb (read_at nine 1 2) 0x3322 ∷ eqb (read_at nine 1 4) 0x5544_3322 ∷ eqb (read_at nine 1 8) 0x9988_7766_5544_3322 ∷
    eqb (read_at nine 0 1) 0x11 ∷ eqb (read_at nine 0 2) 0x2211 ∷ eqb (read_at nine 0 4) 0x4433_2211 ∷ eqb (read_at nine 0 8) 0x8877_6655_4433_2211 ∷
    -- of a size that no event has, eight
    eqb (read_at nine 1 0) 0x9988_7766_5544_3322 ∷ eqb (read_at nine 1 3) 0x9988_7766_5544_3322 ∷ []

-- A redirected write stores them, and no byte beside them.
abbrev pub write_rows : List Bool
write_rows =
    same_bytes (store_at marks 1 1 0x12) (0xa5 ∷ 0x12 ∷ replicate 8 0xa5) ∷
    same_bytes (store_at marks 1 2 0x1234) (0xa5 ∷ 0x34 ∷ 0x12 ∷ replicate 7 0xa5) ∷
    same_bytes (store_at marks 1 4 0x1234_5678) (0xa5 ∷ 0x78 ∷ 0x56 ∷ 0x34 ∷ 0x12 ∷ replicate 5 0xa5) ∷
    same_bytes (store_at marks 1 8 0x0123_4567_89ab_cdef) (0xa5 ∷ 0xef ∷ 0xcd ∷ 0xab ∷ 0x89 ∷ 0x67 ∷ 0x45 ∷ 0x23 ∷ 0x01 ∷ 0xa5 ∷ []) ∷
    -- at another place, every bit of the value set
    same_bytes (store_at marks 0 1 0xff) (0xff ∷ replicate 9 0xa5) ∷ same_bytes (store_at marks 0 2 0xffff) (0xff ∷ 0xff ∷ replicate 8 0xa5) ∷
    same_bytes (store_at marks 0 4 0xffff_ffff) (0xff ∷ 0xff ∷ 0xff ∷ 0xff ∷ replicate 6 0xa5) ∷
    same_bytes (store_at marks 0 8 0xffff_ffff_ffff_ffff) (replicate 8 0xff ++ (0xa5 ∷ 0xa5 ∷ [])) ∷
    -- of a value that does not fit its size, which no event has, the low bytes
    same_bytes (store_at marks 1 1 0x1234) (0xa5 ∷ 0x34 ∷ replicate 8 0xa5) ∷
    same_bytes (store_at marks 1 2 0x1234_5678) (0xa5 ∷ 0x78 ∷ 0x56 ∷ replicate 7 0xa5) ∷
    same_bytes (store_at marks 1 4 0x12_3456_789a) (0xa5 ∷ 0x9a ∷ 0x78 ∷ 0x56 ∷ 0x34 ∷ replicate 5 0xa5) ∷
    -- of a size that no event has, eight
    same_bytes (store_at marks 1 0 0x0123_4567_89ab_cdef) (0xa5 ∷ 0xef ∷ 0xcd ∷ 0xab ∷ 0x89 ∷ 0x67 ∷ 0x45 ∷ 0x23 ∷ 0x01 ∷ 0xa5 ∷ []) ∷
    same_bytes (store_at marks 1 3 0x0123_4567_89ab_cdef) (0xa5 ∷ 0xef ∷ 0xcd ∷ 0xab ∷ 0x89 ∷ 0x67 ∷ 0x45 ∷ 0x23 ∷ 0x01 ∷ 0xa5 ∷ []) ∷ []

abbrev pub size_rows : List Bool
size_rows = store_rows ++ read_rows ++ write_rows

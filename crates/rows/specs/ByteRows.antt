-- Document 01, "Registers on the page": little-endian, as rows over nine different bytes.
use Rattle.std.specs.Prelude.{Bool, List, [], ◌∷◌, eqb}
use Rattle.processor.specs.Rows.{nine}
use Rattle.page.specs.Page.{byte_at, half_at, word_at, long_at, word_within, long_within}

abbrev pub byte_rows : List Bool
byte_rows =
    -- one, two, four and eight bytes, the low byte first
    eqb (byte_at nine 0) 0x11 ∷ eqb (byte_at nine 8) 0x99 ∷ eqb (half_at nine 1) 0x3322 ∷ eqb (word_at nine 1) 0x5544_3322 ∷
    eqb (long_at nine 1) 0x9988_7766_5544_3322 ∷ eqb (long_at nine 0) 0x8877_6655_4433_2211 ∷
    -- 0 past the end
    eqb (byte_at nine 9) 0 ∷ eqb (half_at nine 8) 0x99 ∷ eqb (word_at nine 7) 0x9988 ∷ eqb (long_at nine 4) 0x99_8877_6655 ∷ eqb (word_at nine 9) 0 ∷
    -- four and eight bytes where the slice has them all, else 0
    eqb (word_within nine 0) 0x4433_2211 ∷ eqb (word_within nine 5) 0x9988_7766 ∷ eqb (word_within nine 6) 0 ∷ eqb (word_within nine 9) 0 ∷
    eqb (long_within nine 0) 0x8877_6655_4433_2211 ∷ eqb (long_within nine 1) 0x9988_7766_5544_3322 ∷ eqb (long_within nine 2) 0 ∷
    eqb (long_within nine 9) 0 ∷ []

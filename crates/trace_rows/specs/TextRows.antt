-- Document 02, E5, as rows: numbers in decimal, and the lines, character by character.
use Rattle.std.specs.Prelude.{Bool, List, [], ◌∷◌, ◌++◌, eqb}
use Rattle.processor.specs.Rows.{same_bytes}
use Rattle.events.specs.Answers.{numbers}
use Rattle.text.specs.Decimal.{decimal, last_digits, value_from}
use Rattle.text.specs.Lines.{line, done_line, bad_line}

abbrev pub decimal_rows : List Bool
decimal_rows =
    -- 0, 9, 10, 99, 100, 1234567890, 10000
    same_bytes (decimal 0) (0x30 ∷ []) ∷ same_bytes (decimal 9) (0x39 ∷ []) ∷ same_bytes (decimal 10) (0x31 ∷ 0x30 ∷ []) ∷
    same_bytes (decimal 99) (0x39 ∷ 0x39 ∷ []) ∷ same_bytes (decimal 100) (0x31 ∷ 0x30 ∷ 0x30 ∷ []) ∷
    same_bytes (decimal 1234567890) (0x31 ∷ 0x32 ∷ 0x33 ∷ 0x34 ∷ 0x35 ∷ 0x36 ∷ 0x37 ∷ 0x38 ∷ 0x39 ∷ 0x30 ∷ []) ∷
    same_bytes (decimal 10000) (0x31 ∷ 0x30 ∷ 0x30 ∷ 0x30 ∷ 0x30 ∷ []) ∷
    -- FFFFFFFFFFFFFFFF is 18446744073709551615
    same_bytes (decimal 0xffff_ffff_ffff_ffff)
    (0x31 ∷ 0x38 ∷ 0x34 ∷ 0x34 ∷ 0x36 ∷ 0x37 ∷ 0x34 ∷ 0x34 ∷ 0x30 ∷ 0x37 ∷ 0x33 ∷ 0x37 ∷ 0x30 ∷ 0x39 ∷ 0x35 ∷ 0x35 ∷ 0x31 ∷ 0x36 ∷ 0x31 ∷ 0x35 ∷ []) ∷
    -- 10000000000000000000, the smallest of 20 digits
    same_bytes (decimal 10000000000000000000)
    (0x31 ∷ 0x30 ∷ 0x30 ∷ 0x30 ∷ 0x30 ∷ 0x30 ∷ 0x30 ∷ 0x30 ∷ 0x30 ∷ 0x30 ∷ 0x30 ∷ 0x30 ∷ 0x30 ∷ 0x30 ∷ 0x30 ∷ 0x30 ∷ 0x30 ∷ 0x30 ∷ 0x30 ∷ 0x30 ∷ []) ∷ []

-- what a reader of digits gets: the last three of 12345, and the number that four characters stand for
abbrev pub digit_rows : List Bool
digit_rows =
    same_bytes (last_digits 3 12345) (0x33 ∷ 0x34 ∷ 0x35 ∷ []) ∷ same_bytes (last_digits 3 7) (0x30 ∷ 0x30 ∷ 0x37 ∷ []) ∷ same_bytes (last_digits 0 7) [] ∷
    eqb (value_from 0 (0x31 ∷ 0x32 ∷ 0x33 ∷ 0x34 ∷ [])) 1234 ∷ eqb (value_from 5 (0x39 ∷ 0x30 ∷ [])) 590 ∷ eqb (value_from 5 []) 5 ∷ []

abbrev pub line_rows : List Bool
line_rows =
    -- "12 4 44 4224", "4 5 96 0", "done 0", "done 10000", "bad 0", "bad 17", each with its end of line
    same_bytes (line 12 (numbers 4 44 4224)) (0x31 ∷ 0x32 ∷ 0x20 ∷ 0x34 ∷ 0x20 ∷ 0x34 ∷ 0x34 ∷ 0x20 ∷ 0x34 ∷ 0x32 ∷ 0x32 ∷ 0x34 ∷ 0x0a ∷ []) ∷
    same_bytes (line 4 (numbers 5 96 0)) (0x34 ∷ 0x20 ∷ 0x35 ∷ 0x20 ∷ 0x39 ∷ 0x36 ∷ 0x20 ∷ 0x30 ∷ 0x0a ∷ []) ∷
    same_bytes (done_line 0) (0x64 ∷ 0x6f ∷ 0x6e ∷ 0x65 ∷ 0x20 ∷ 0x30 ∷ 0x0a ∷ []) ∷
    same_bytes (done_line 10000) (0x64 ∷ 0x6f ∷ 0x6e ∷ 0x65 ∷ 0x20 ∷ 0x31 ∷ 0x30 ∷ 0x30 ∷ 0x30 ∷ 0x30 ∷ 0x0a ∷ []) ∷
    same_bytes (bad_line 0) (0x62 ∷ 0x61 ∷ 0x64 ∷ 0x20 ∷ 0x30 ∷ 0x0a ∷ []) ∷
    same_bytes (bad_line 17) (0x62 ∷ 0x61 ∷ 0x64 ∷ 0x20 ∷ 0x31 ∷ 0x37 ∷ 0x0a ∷ []) ∷ []

abbrev pub text_rows : List Bool
text_rows = decimal_rows ++ digit_rows ++ line_rows

-- Document 02, E5: "Lines are record number, answer, its two numbers, in decimal; then "done" and the count, .. or "bad" and the number of
-- the first record that can't be read", each on its own line.
use Rattle.std.specs.Prelude.{ℕ, List, [], ◌∷◌, ◌++◌}
use Rattle.events.specs.declared.answer.Numbers.{Numbers}
use Rattle.text.specs.Decimal.{decimal}

-- a blank, and the end of a line
abbrev pub blank : ℕ
blank = 0x20

abbrev pub line_end : ℕ
line_end = 0x0a

-- a number and the character after it
abbrev pub field : ℕ → ℕ → List ℕ
field n after = decimal n ++ (after ∷ [])

-- record number, answer, its two numbers
unfoldable pub line : ℕ → Numbers → List ℕ
line number a = field number blank ++ (field a.answer blank ++ (field a.first blank ++ field a.second line_end))

-- "done " and "bad "
abbrev pub done_word : List ℕ
done_word = 0x64 ∷ 0x6f ∷ 0x6e ∷ 0x65 ∷ blank ∷ []

abbrev pub bad_word : List ℕ
bad_word = 0x62 ∷ 0x61 ∷ 0x64 ∷ blank ∷ []

unfoldable pub done_line : ℕ → List ℕ
done_line count = done_word ++ field count line_end

unfoldable pub bad_line : ℕ → List ℕ
bad_line number = bad_word ++ field number line_end

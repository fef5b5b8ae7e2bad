-- Document 02, E5, as rows: big-endian fields, the version, the size of an input, and which body can be read by its kind, its length and
-- its flags.
use Rattle.std.specs.Prelude.{ℕ, ◌+◌, ◌-◌, Bool, not, ◌&&◌, List, [], ◌∷◌, ◌++◌, eqb, replicate}
use Rattle.processor.specs.Rows.{at_each, at_none, nine}
use Rattle.trace.specs.Fields.{two_at, four_at, eight_at}
use Rattle.trace.specs.Format.{version_fits, size_fits, length_of_kind, body_readable}

-- the high byte first; 0 where the bytes do not have the field whole
abbrev pub big_endian_rows : List Bool
big_endian_rows =
    eqb (two_at nine 1) 0x2233 ∷ eqb (two_at nine 7) 0x8899 ∷ eqb (two_at nine 8) 0 ∷ eqb (two_at nine 9) 0 ∷
    eqb (four_at nine 1) 0x2233_4455 ∷ eqb (four_at nine 5) 0x6677_8899 ∷ eqb (four_at nine 6) 0 ∷ eqb (four_at nine 8) 0 ∷
    eqb (eight_at nine 0) 0x1122_3344_5566_7788 ∷ eqb (eight_at nine 1) 0x2233_4455_6677_8899 ∷ eqb (eight_at nine 2) 0 ∷ eqb (eight_at nine 5) 0 ∷ []

-- First byte: version 1. Input of 61,440 bytes is a trace, and of one byte more is none.
abbrev pub input_rows : List Bool
input_rows =
    version_fits (1 ∷ []) ∷ version_fits (1 ∷ 2 ∷ []) ∷ not (version_fits []) ∷ not (version_fits (0 ∷ 1 ∷ [])) ∷ not (version_fits (2 ∷ [])) ∷
    not (version_fits (0xff ∷ [])) ∷ size_fits [] ∷ size_fits (replicate 61440 0) ∷ not (size_fits (replicate 61441 0)) ∷ []

-- a body of a kind with so many bytes, all 0 behind the kind
abbrev of_length : ℕ → ℕ → Bool
of_length kind n = body_readable (kind ∷ replicate (n - 1) 0)

-- it can be read with its kind's length, and not with a byte less or a byte more
abbrev exactly : ℕ → ℕ → Bool
exactly kind n = of_length kind n && not (of_length kind (n + 1)) && eqb (length_of_kind kind) n

abbrev exactly_above1 : ℕ → ℕ → Bool
exactly_above1 kind n = exactly kind n && not (of_length kind (n - 1))

-- Kinds and lengths; an unknown kind has none.
abbrev pub kind_rows : List Bool
kind_rows =
    exactly_above1 0 39 ∷ exactly 1 1 ∷ exactly_above1 2 5 ∷ exactly_above1 3 13 ∷ exactly_above1 4 3 ∷ exactly_above1 5 2 ∷ exactly_above1 6 5 ∷
    exactly_above1 7 13 ∷ exactly_above1 8 3 ∷ exactly_above1 9 2 ∷ not (body_readable []) ∷
    at_none (of_length 10) (1 ∷ 2 ∷ 3 ∷ 5 ∷ 13 ∷ 39 ∷ []) ∷ at_none (of_length 11) (1 ∷ 2 ∷ 3 ∷ 5 ∷ 13 ∷ 39 ∷ []) ∷
    at_none (of_length 0xff) (1 ∷ 2 ∷ 3 ∷ 5 ∷ 13 ∷ 39 ∷ []) ∷ []

-- bodies by their flags: of kind 0 in two bytes, of a memory access, of a boundary
abbrev controls_flagged : ℕ → Bool
controls_flagged high = body_readable (0 ∷ high ∷ 0xff ∷ replicate 36 0xff)

abbrev read_flagged : ℕ → Bool
read_flagged flags = body_readable (2 ∷ 0xff ∷ 0xff ∷ 0xff ∷ flags ∷ [])

abbrev write_flagged : ℕ → Bool
write_flagged flags = body_readable (3 ∷ 0xff ∷ 0xff ∷ 0xff ∷ flags ∷ replicate 8 0xff)

abbrev boundary_flagged : ℕ → Bool
boundary_flagged flags = body_readable (8 ∷ flags ∷ 0xff ∷ [])

-- An unused flag bit is set: in kind 0 bits 15:9; of a memory access bits 7:2; of a boundary bits 7:3. No other kind has flags.
abbrev pub used_rows : List Bool
used_rows =
    at_each controls_flagged (0 ∷ 1 ∷ []) ∷ at_none controls_flagged (0x02 ∷ 0x03 ∷ 0x04 ∷ 0x08 ∷ 0x10 ∷ 0x20 ∷ 0x40 ∷ 0x80 ∷ []) ∷
    at_each read_flagged (0 ∷ 1 ∷ 2 ∷ 3 ∷ []) ∷ at_none read_flagged (0x04 ∷ 0x08 ∷ 0x10 ∷ 0x20 ∷ 0x40 ∷ 0x80 ∷ 0xff ∷ []) ∷
    at_each write_flagged (0 ∷ 1 ∷ 2 ∷ 3 ∷ []) ∷ at_none write_flagged (0x04 ∷ 0x08 ∷ 0x10 ∷ 0x20 ∷ 0x40 ∷ 0x80 ∷ 0xff ∷ []) ∷
    at_each boundary_flagged (0 ∷ 1 ∷ 2 ∷ 4 ∷ 7 ∷ []) ∷ at_none boundary_flagged (0x08 ∷ 0x10 ∷ 0x20 ∷ 0x40 ∷ 0x80 ∷ 0xff ∷ []) ∷
    body_readable (4 ∷ 0xff ∷ 0xff ∷ []) ∷ body_readable (5 ∷ 0xff ∷ []) ∷ body_readable (6 ∷ replicate 4 0xff) ∷ body_readable (7 ∷ replicate 12 0xff) ∷
    body_readable (9 ∷ 0xff ∷ []) ∷ []

abbrev pub trace_rows : List Bool
trace_rows = big_endian_rows ++ input_rows ++ kind_rows ++ used_rows

-- Document 01, "Memory accesses", as rows: which offsets are open, register by register from 000 to 3F0, in each of the four settings.
use Rattle.std.specs.Prelude.{ℕ, ◌+◌, Bool, true, false, not, ◌&&◌, List, [], ◌∷◌, ◌++◌, eqb, ltb}
use Rattle.std.specs.Bool.{beq}
use Rattle.processor.specs.Logic.{all_below, member}
use Rattle.processor.specs.Rows.{at_none, flagged}
use Rattle.table.specs.Table.{open_offset}
use Rattle.rows.specs.Map.{MapRow, held, none, row_at}

-- a register's sixteen bytes: the first four are open where its mark is 1, the others never
abbrev register_open : ℕ → Bool → ℕ → ℕ → Bool
register_open flags write register mark =
    all_below 16 (λ byte. beq (open_offset (flagged flags) write (register + byte)) (eqb mark 1 && ltb byte 4))

-- registers from one on, in steps of 10H, each with its mark
abbrev marks_hold : ℕ → Bool → ℕ → List ℕ → Bool
marks_hold flags write register [] = true
marks_hold flags write register (mark ∷ marks) = register_open flags write register mark && marks_hold flags write (register + 0x10) marks

-- control 3 on, read: 020, 030, 080, 0B0, 0D0, 0E0, 0F0, 100 to 170, 180 to 1F0, 200 to 270, 280, 300, 310, 320 to 370, 380, 3E0
abbrev read_marks : List ℕ
read_marks =
    (0 ∷ 0 ∷ 1 ∷ 1 ∷ 0 ∷ 0 ∷ 0 ∷ 0 ∷ 1 ∷ 0 ∷ 0 ∷ 1 ∷ 0 ∷ 1 ∷ 1 ∷ 1 ∷ []) ++
    (1 ∷ 1 ∷ 1 ∷ 1 ∷ 1 ∷ 1 ∷ 1 ∷ 1 ∷ 1 ∷ 1 ∷ 1 ∷ 1 ∷ 1 ∷ 1 ∷ 1 ∷ 1 ∷ []) ++
    (1 ∷ 1 ∷ 1 ∷ 1 ∷ 1 ∷ 1 ∷ 1 ∷ 1 ∷ 1 ∷ 0 ∷ 0 ∷ 0 ∷ 0 ∷ 0 ∷ 0 ∷ 0 ∷ []) ++
    (1 ∷ 1 ∷ 1 ∷ 1 ∷ 1 ∷ 1 ∷ 1 ∷ 1 ∷ 1 ∷ 0 ∷ 0 ∷ 0 ∷ 0 ∷ 0 ∷ 1 ∷ 0 ∷ [])

-- control 3 on, write: the same without 030 and 100 to 270
abbrev write_marks : List ℕ
write_marks =
    (0 ∷ 0 ∷ 1 ∷ 0 ∷ 0 ∷ 0 ∷ 0 ∷ 0 ∷ 1 ∷ 0 ∷ 0 ∷ 1 ∷ 0 ∷ 1 ∷ 1 ∷ 1 ∷ []) ++
    (0 ∷ 0 ∷ 0 ∷ 0 ∷ 0 ∷ 0 ∷ 0 ∷ 0 ∷ 0 ∷ 0 ∷ 0 ∷ 0 ∷ 0 ∷ 0 ∷ 0 ∷ 0 ∷ []) ++
    (0 ∷ 0 ∷ 0 ∷ 0 ∷ 0 ∷ 0 ∷ 0 ∷ 0 ∷ 1 ∷ 0 ∷ 0 ∷ 0 ∷ 0 ∷ 0 ∷ 0 ∷ 0 ∷ []) ++
    (1 ∷ 1 ∷ 1 ∷ 1 ∷ 1 ∷ 1 ∷ 1 ∷ 1 ∷ 1 ∷ 0 ∷ 0 ∷ 0 ∷ 0 ∷ 0 ∷ 1 ∷ 0 ∷ [])

-- of the offsets below 400 exactly these are open
abbrev open_exactly : ℕ → Bool → List ℕ → Bool
open_exactly flags write offsets = all_below 1024 (λ offset. beq (open_offset (flagged flags) write offset) (member offset offsets))

-- offsets past the table: none is open
abbrev past : List ℕ
past = 0x400 ∷ 0x410 ∷ 0x420 ∷ 0x430 ∷ 0x480 ∷ 0x4b0 ∷ 0x500 ∷ 0x600 ∷ 0x680 ∷ 0x700 ∷ 0x710 ∷ 0x7e0 ∷ 0x820 ∷ 0x880 ∷ 0xb00 ∷ 0xfe0 ∷ 0xfff ∷ []

-- control 3 on, with VID on or off; control 3 off with VID on, exactly 080, 0B0, 300; both off, exactly 080
abbrev pub open_rows : List Bool
open_rows =
    marks_hold 0x3b false 0x000 read_marks ∷ marks_hold 0x3b true 0x000 write_marks ∷ marks_hold 0x0b false 0x000 read_marks ∷
    marks_hold 0x0b true 0x000 write_marks ∷
    open_exactly 0x33 false (0x080 ∷ 0x0b0 ∷ 0x300 ∷ []) ∷ open_exactly 0x33 true (0x080 ∷ 0x0b0 ∷ 0x300 ∷ []) ∷
    open_exactly 0x03 false (0x080 ∷ []) ∷ open_exactly 0x03 true (0x080 ∷ []) ∷
    -- no other control is looked at
    open_exactly 0x7f7 true (0x080 ∷ 0x0b0 ∷ 0x300 ∷ []) ∷ open_exactly 0x010 false (0x080 ∷ 0x0b0 ∷ 0x300 ∷ []) ∷
    open_exactly 0x7e7 true (0x080 ∷ []) ∷ open_exactly 0x000 false (0x080 ∷ []) ∷
    not (open_offset (flagged 0x7f7) false 0x030) ∷ open_offset (flagged 0x008) false 0x030 ∷ not (open_offset (flagged 0x008) true 0x030) ∷
    at_none (open_offset (flagged 0x3b) false) past ∷ at_none (open_offset (flagged 0x3b) true) past ∷
    at_none (open_offset (flagged 0x33) false) past ∷ at_none (open_offset (flagged 0x33) true) past ∷
    at_none (open_offset (flagged 0x03) false) past ∷ at_none (open_offset (flagged 0x03) true) past ∷ []

-- a row of the map: its offset, and its marks for read, write, VID on and VID off with control 3 off; no row where the offset is 0
abbrev maps : MapRow → ℕ → Bool → Bool → Bool → Bool → Bool
maps (held r) offset read write delivery tpr =
    eqb r.offset offset && beq r.read read && beq r.write write && beq r.delivery delivery && beq r.tpr tpr
maps none offset read write delivery tpr = eqb offset 0

-- the first rows, the ends of each run, VICR_LO and VICR_HI, the last row, and none behind it
abbrev pub map_rows : List Bool
map_rows =
    maps (row_at 0) 0x020 true true false false ∷ maps (row_at 1) 0x030 true false false false ∷ maps (row_at 2) 0x080 true true true true ∷
    maps (row_at 3) 0x0b0 true true true false ∷ maps (row_at 4) 0x0d0 true true false false ∷ maps (row_at 6) 0x0f0 true true false false ∷
    maps (row_at 7) 0x100 true false false false ∷ maps (row_at 14) 0x170 true false false false ∷ maps (row_at 15) 0x180 true false false false ∷
    maps (row_at 22) 0x1f0 true false false false ∷ maps (row_at 23) 0x200 true false false false ∷ maps (row_at 30) 0x270 true false false false ∷
    maps (row_at 31) 0x280 true true false false ∷ maps (row_at 32) 0x300 true true true false ∷ maps (row_at 33) 0x310 true true false false ∷
    maps (row_at 34) 0x320 true true false false ∷ maps (row_at 39) 0x370 true true false false ∷ maps (row_at 40) 0x380 true true false false ∷
    maps (row_at 41) 0x3e0 true true false false ∷ maps (row_at 42) 0 false false false false ∷ maps (row_at 1000) 0 false false false false ∷ []

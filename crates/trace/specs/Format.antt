-- Document 02, E5: the format of a trace, and which record can be read. A place is that of a record's length field.
use Rattle.std.specs.Prelude.{ℕ, ◌+◌, Bool, true, not, ◌&&◌, List, [], eqb, ltb, leb, length, take, drop, if◌then◌else◌}
use Rattle.page.specs.Page.{byte_at}
use Rattle.trace.specs.Fields.{has, two_at}

-- First byte: version 1. A missing one reads as 0.
abbrev pub version_fits : List ℕ → Bool
version_fits t = eqb (byte_at t 0) 1

-- Input above 61,440 bytes is no trace.
abbrev pub size_fits : List ℕ → Bool
size_fits t = leb (length t) 61440

-- Each record: a two-byte length, then that many bytes.
abbrev pub length_at : List ℕ → ℕ → ℕ
length_at t place = two_at t place

-- It is cut short: the trace ends within the length or within those bytes.
unfoldable pub cut_short : List ℕ → ℕ → Bool
cut_short t place = not (has t place (2 + length_at t place))

-- The body: the bytes after the length, as part of the trace; none of a record that is cut short.
unfoldable pub body_at : List ℕ → ℕ → List ℕ
body_at t place = if cut_short t place then [] else take (length_at t place) (drop (place + 2) t)

-- where the next record begins; a record that is cut short has none after it
unfoldable pub next_place : List ℕ → ℕ → ℕ
next_place t place = if cut_short t place then place else (place + 2 + length_at t place)

-- the kind, a body's first byte
abbrev pub kind_of : List ℕ → ℕ
kind_of b = byte_at b 0

-- Kinds and lengths: 0 controls, 39; 1 entry, 1; 2 memory read, 5; 3 memory write, 13; 4 to CR8, 3; 5 from CR8, 2; 6 RDMSR, 5;
-- 7 WRMSR, 13; 8 boundary, 3; 9 request, 2.
abbrev pub kind_known : ℕ → Bool
kind_known kind = ltb kind 10

unfoldable pub length_of_kind : ℕ → ℕ
length_of_kind kind =
    if eqb kind 0 then 39
    else if eqb kind 1 then 1
    else if eqb kind 2 then 5
    else if eqb kind 3 then 13
    else if eqb kind 4 then 3
    else if eqb kind 5 then 2
    else if eqb kind 6 then 5
    else if eqb kind 7 then 13
    else if eqb kind 8 then 3
    else if eqb kind 9 then 2
    else 0

-- where the flags stand: two bytes of the controls, one of a memory access and of a boundary
abbrev pub control_flags : List ℕ → ℕ
control_flags b = two_at b 1

abbrev pub memory_flags : List ℕ → ℕ
memory_flags b = byte_at b 4

abbrev pub boundary_flags : List ℕ → ℕ
boundary_flags b = byte_at b 1

-- No unused flag bit is set: in kind 0 bits 15:9; a memory access has bit 0 fetch and bit 1 already-virtualised; a boundary has bit 0
-- IF, bit 1 STI and bit 2 MOV SS.
unfoldable pub flags_used : List ℕ → Bool
flags_used b =
    if eqb (kind_of b) 0 then ltb (control_flags b) 0x200
    else if eqb (kind_of b) 2 then ltb (memory_flags b) 4
    else if eqb (kind_of b) 3 then ltb (memory_flags b) 4
    else if eqb (kind_of b) 8 then ltb (boundary_flags b) 8
    else true

-- A body can be read if its kind is known, its length is its kind's, and no unused flag bit is set.
unfoldable pub body_readable : List ℕ → Bool
body_readable b = kind_known (kind_of b) && eqb (length b) (length_of_kind (kind_of b)) && flags_used b

-- A record can't be read if it is cut short, or its body can't.
unfoldable pub record_readable : List ℕ → ℕ → Bool
record_readable t place = not (cut_short t place) && body_readable (body_at t place)

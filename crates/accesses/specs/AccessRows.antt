-- Document 01, "Memory accesses", as rows: what an access comes to, the qualification of exit 44, and what follows a redirected write.
use Rattle.std.specs.Prelude.{ℕ, Bool, true, false, List, [], ◌∷◌, ◌++◌, eqb}
use Rattle.processor.specs.Rows.{at_each, at_none, flagged, answer_of}
use Rattle.accesses.specs.declared.memory.Following.{Following}
use Rattle.accesses.specs.declared.memory.Following.TheVariants.{Tpr, Eoi, SelfIpi, IcrHigh, ApicWrite}
use Rattle.accesses.specs.Accesses.{past_register, memory_access, read_qualification, write_qualification, self_ipi, write_following}

-- (offset mod 16) + size > 4
abbrev pub past_rows : List Bool
past_rows =
    at_none (past_register 0x080) (1 ∷ 2 ∷ 4 ∷ []) ∷ at_none (past_register 0x081) (1 ∷ 2 ∷ []) ∷ at_none (past_register 0x082) (1 ∷ 2 ∷ []) ∷
    at_none (past_register 0x083) (1 ∷ []) ∷ at_each (past_register 0x080) (8 ∷ []) ∷ at_each (past_register 0x081) (4 ∷ 8 ∷ []) ∷
    at_each (past_register 0x082) (4 ∷ []) ∷ at_each (past_register 0x083) (2 ∷ 4 ∷ []) ∷ at_each (past_register 0x084) (1 ∷ []) ∷ at_each (past_register 0x088) (1 ∷ []) ∷
    at_each (past_register 0x08f) (1 ∷ []) ∷ []

-- a read, or a write, of these flags at an offset with a size, a fetch flag and the already-virtualised flag
abbrev reads : ℕ → ℕ → ℕ → ℕ → Bool → Bool → Bool
reads answer flags offset size fetch already = eqb (answer_of (memory_access (flagged flags) false offset size fetch already)) answer

abbrev writes : ℕ → ℕ → ℕ → ℕ → Bool → Bool
writes answer flags offset size already = eqb (answer_of (memory_access (flagged flags) true offset size false already)) answer

-- under R, 3BH, a read and a write that are redirected; then each thing by itself that makes them another answer
abbrev pub access_rows : List Bool
access_rows =
    reads 1 0x3b 0x080 4 false false ∷ writes 1 0x3b 0x080 4 false ∷ reads 1 0x3b 0x083 1 false false ∷ writes 1 0x3b 0x082 2 false ∷
    -- control 1 off: passthrough, whatever else holds
    reads 2 0x39 0x080 4 false false ∷ writes 2 0x39 0x080 4 false ∷ reads 2 0x39 0x0a0 8 true true ∷ writes 2 0x38 0x0a0 8 true ∷
    reads 2 0x00 0x080 4 false false ∷ reads 2 0x7fd 0x080 4 false false ∷
    -- shadow off
    reads 4 0x3a 0x080 4 false false ∷ writes 4 0x3a 0x080 4 false ∷ reads 4 0x02 0x080 4 false false ∷ reads 4 0x7fe 0x080 4 false false ∷
    writes 4 0x7fe 0x080 4 false ∷ reads 1 0x7ff 0x080 4 false false ∷ writes 1 0x003 0x080 4 false ∷
    -- fetch; size 8; the already-virtualised flag; past the register; the offset isn't open
    reads 4 0x3b 0x080 4 true false ∷ reads 4 0x3b 0x080 8 false false ∷ writes 4 0x3b 0x080 8 false ∷ reads 4 0x3b 0x080 4 false true ∷
    writes 4 0x3b 0x080 4 true ∷ reads 4 0x3b 0x082 4 false false ∷ writes 4 0x3b 0x081 4 false ∷ reads 4 0x3b 0x0a0 4 false false ∷
    writes 4 0x3b 0x0a0 4 false ∷
    -- 030 is open to reads alone; with control 3 off neither is
    reads 1 0x3b 0x030 4 false false ∷ writes 4 0x3b 0x030 4 false ∷ reads 4 0x33 0x030 4 false false ∷
    -- control 3 off: 0B0 with VID on, 080 alone with VID off
    reads 1 0x33 0x0b0 4 false false ∷ writes 1 0x33 0x0b0 4 false ∷ reads 4 0x03 0x0b0 4 false false ∷ writes 4 0x03 0x0b0 4 false ∷
    reads 1 0x03 0x080 4 false false ∷ writes 1 0x03 0x080 4 false ∷ []

-- Qualification: offset, plus 0 for a read, 1000H for a write, 2000H for a fetch.
abbrev pub qualification_rows : List Bool
qualification_rows =
    eqb (read_qualification 0x083 false) 0x083 ∷ eqb (read_qualification 0x083 true) 0x2083 ∷ eqb (write_qualification 0x0a0) 0x10a0 ∷
    eqb (read_qualification 0xfff false) 0xfff ∷ eqb (read_qualification 0xfff true) 0x2fff ∷ eqb (write_qualification 0x000) 0x1000 ∷ []

-- VICR_LO from 00040071 with each of its 32 bits changed by itself, from bit 0 up. Bits 3:0 and 7:4 are the vector's; 10:8, 12, 13, 15
-- and 17:16 must be 0; 11 and 14 aren't looked at; 19:18 must be 01; 31:20 must be 0.
abbrev pub self_ipi_rows : List Bool
self_ipi_rows =
    at_each self_ipi (0x0004_0071 ∷ []) ∷
    at_each self_ipi (0x0004_0070 ∷ 0x0004_0073 ∷ 0x0004_0075 ∷ 0x0004_0079 ∷ 0x0004_0061 ∷ 0x0004_0051 ∷ 0x0004_0031 ∷ 0x0004_00f1 ∷ []) ∷
    at_none self_ipi (0x0004_0171 ∷ 0x0004_0271 ∷ 0x0004_0471 ∷ []) ∷ at_each self_ipi (0x0004_0871 ∷ []) ∷
    at_none self_ipi (0x0004_1071 ∷ 0x0004_2071 ∷ []) ∷ at_each self_ipi (0x0004_4071 ∷ []) ∷ at_none self_ipi (0x0004_8071 ∷ []) ∷
    at_none self_ipi (0x0005_0071 ∷ 0x0006_0071 ∷ 0x0000_0071 ∷ 0x000c_0071 ∷ []) ∷
    at_none self_ipi (0x0014_0071 ∷ 0x0024_0071 ∷ 0x0044_0071 ∷ 0x0084_0071 ∷ 0x0104_0071 ∷ 0x0204_0071 ∷ 0x0404_0071 ∷ 0x0804_0071 ∷ []) ∷
    at_none self_ipi (0x1004_0071 ∷ 0x2004_0071 ∷ 0x4004_0071 ∷ 0x8004_0071 ∷ []) ∷
    -- the other shorthand, 10; bits 11 and 14 both set
    at_none self_ipi (0x0008_0071 ∷ []) ∷ at_each self_ipi (0x0004_4871 ∷ []) ∷
    -- bits 7:4 all 0, one of them set, all set
    at_none self_ipi (0x0004_0000 ∷ 0x0004_0001 ∷ 0x0004_000f ∷ 0x0004_480f ∷ []) ∷
    at_each self_ipi (0x0004_0010 ∷ 0x0004_0020 ∷ 0x0004_0040 ∷ 0x0004_0080 ∷ 0x0004_00ff ∷ []) ∷ []

-- what follows, counted in the document's order: 1 TPR virtualization, 2 EOI virtualization, 3 self-IPI virtualization, 4 VICR_HI's
-- bytes, 5 exit 56
abbrev following_number : Following → ℕ
following_number Tpr = 1
following_number Eoi = 2
following_number SelfIpi = 3
following_number IcrHigh = 4
following_number ApicWrite = 5

-- this follows a write at each of the offsets, with VICR_LO then 00040071
abbrev follows : ℕ → ℕ → ℕ → Bool
follows number flags offset = eqb (following_number (write_following (flagged flags) offset 0x0004_0071)) number

abbrev pub following_rows : List Bool
following_rows =
    -- VID on
    at_each (follows 1 0x3b) (0x080 ∷ []) ∷ at_each (follows 2 0x3b) (0x0b0 ∷ []) ∷ at_each (follows 3 0x3b) (0x300 ∷ []) ∷
    at_each (follows 4 0x3b) (0x310 ∷ 0x311 ∷ 0x312 ∷ 0x313 ∷ []) ∷
    at_each (follows 5 0x3b) (0x020 ∷ 0x081 ∷ 0x083 ∷ 0x0b1 ∷ 0x0b3 ∷ 0x0d0 ∷ 0x280 ∷ 0x301 ∷ 0x303 ∷ 0x30f ∷ 0x314 ∷ 0x320 ∷ 0x3e0 ∷ []) ∷
    -- VID off: neither 0B0 nor 300 is followed by anything but exit 56
    at_each (follows 1 0x0b) (0x080 ∷ []) ∷ at_each (follows 5 0x0b) (0x0b0 ∷ 0x300 ∷ []) ∷ at_each (follows 4 0x0b) (0x310 ∷ 0x313 ∷ []) ∷
    -- VID alone is looked at
    at_each (follows 2 0x010) (0x0b0 ∷ []) ∷ at_each (follows 3 0x010) (0x300 ∷ []) ∷ at_each (follows 5 0x7ef) (0x0b0 ∷ 0x300 ∷ []) ∷
    at_each (follows 1 0x7ef) (0x080 ∷ []) ∷ at_each (follows 4 0x7ef) (0x310 ∷ 0x313 ∷ []) ∷
    -- the test of VICR_LO fails
    eqb (following_number (write_following (flagged 0x3b) 0x300 0x0004_8071)) 5 ∷
    eqb (following_number (write_following (flagged 0x3b) 0x080 0x0004_8071)) 1 ∷
    eqb (following_number (write_following (flagged 0x3b) 0x0b0 0x0004_8071)) 2 ∷
    eqb (following_number (write_following (flagged 0x3b) 0x310 0x0004_8071)) 4 ∷ []

abbrev pub memory_rows : List Bool
memory_rows = past_rows ++ access_rows ++ qualification_rows ++ self_ipi_rows ++ following_rows

-- Document 01, "Memory accesses", as rows: a redirected write stores its bytes, then by offset.
use Rattle.std.specs.Prelude.{ℕ, Bool, true, false, List, [], ◌∷◌, ◌++◌}
use Rattle.processor.specs.Access.{access}
use Rattle.processor.specs.Rows.{Word, word}
use Rattle.processor.specs.declared.controls.Record.{Record}
use Rattle.events.specs.declared.answer.Numbers.{Numbers}
use Rattle.events.specs.declared.event.Event.TheVariants.{MemoryWrite}
use Rattle.rows.specs.RowBench.{Row, quiet, exit}
use Rattle.rows.specs.RowStart.{marked, busy, guest, root, of_event}

-- a write by a guest with RVI 52, SVI 31 and an interrupt recognised: the words of the page, the flags and the threshold; offset, size and
-- value; the answer, the record and the words that change
abbrev write : List Word → ℕ → ℕ → ℕ → ℕ → ℕ → Numbers → Record → List Word → Row
write ws flags threshold offset size value a state end =
    of_event (marked ws) (guest 0x52 0x31 true (busy flags threshold)) (MemoryWrite (access offset size false false) value) a state end

-- 080 clears VTPR's bytes 3:1, whatever the size, and does TPR virtualization: with VID on PPR virtualization, all 32 bits of VPPR, then
-- evaluation by the new VPPR
abbrev tpr : ℕ → ℕ → ℕ → ℕ → Bool → List Word → Row
tpr vppr flags size value recognised end =
    write (word 0x080 0xa5a5_a5a5 ∷ word 0x0a0 vppr ∷ []) flags 5 0x080 size value quiet (guest 0x52 0x31 recognised (busy flags 5)) end

abbrev tpr_rows : List Row
tpr_rows =
    tpr 0xa5a5_a570 0x3b 1 0x44 true (word 0x080 0x44 ∷ word 0x0a0 0x44 ∷ []) ∷
    tpr 0xa5a5_a500 0x3b 4 0x9988_7766 false (word 0x080 0x66 ∷ word 0x0a0 0x66 ∷ []) ∷
    tpr 0xa5a5_a570 0x33 2 0x1122 true (word 0x080 0x22 ∷ word 0x0a0 0x30 ∷ []) ∷
    tpr 0xa5a5_a500 0x73 1 0x44 false (word 0x080 0x44 ∷ word 0x0a0 0x44 ∷ []) ∷
    -- VID off: exit 43 if VTPR's class is below threshold bits 3:0, else quiet; neither VPPR nor recognition is looked at
    write (word 0x080 0xa5a5_a5ff ∷ []) 0x03 5 0x080 1 0x4f (exit 43 0) (root 0x52 0x31 false (busy 0x03 5)) (word 0x080 0x4f ∷ []) ∷
    write (word 0x080 0xa5a5_a5ff ∷ []) 0x03 5 0x080 4 0x1122_3350 quiet (guest 0x52 0x31 true (busy 0x03 5)) (word 0x080 0x50 ∷ []) ∷
    write (word 0x080 0xa5a5_a5ff ∷ []) 0x0b 0xffff_fff5 0x080 1 0x4f (exit 43 0) (root 0x52 0x31 false (busy 0x0b 0xffff_fff5)) (word 0x080 0x4f ∷ []) ∷
    write (word 0x080 0xa5a5_a5ff ∷ []) 0x0b 0xffff_fff5 0x080 1 0x50 quiet (guest 0x52 0x31 true (busy 0x0b 0xffff_fff5)) (word 0x080 0x50 ∷ []) ∷
    write (word 0x080 0xa5a5_a5ff ∷ []) 0x03 16 0x080 1 0x00 quiet (guest 0x52 0x31 true (busy 0x03 16)) (word 0x080 0x00 ∷ []) ∷ []

-- 0B0, VID on: clears VEOI, whatever the size, and does EOI virtualization; here 31 is retired, and VPPR is VTPR's byte
abbrev eoi : ℕ → ℕ → ℕ → ℕ → Bool → List Word → Row
eoi vtpr flags size value recognised end =
    write (word 0x080 vtpr ∷ word 0x110 0x0002_0000 ∷ []) flags 0 0x0b0 size value quiet (guest 0x52 0x00 recognised (busy flags 0))
    (word 0x0b0 0 ∷ word 0x110 0 ∷ end)

abbrev veoi_rows : List Row
veoi_rows =
    eoi 0xa5a5_a520 0x33 4 0x1122_3344 true (word 0x0a0 0x20 ∷ []) ∷ eoi 0xa5a5_a560 0x3b 1 0 false (word 0x0a0 0x60 ∷ []) ∷
    -- VID off: the bytes are stored, exit 56; so are those at 0B1 with VID on
    write [] 0x0b 0 0x0b0 4 0x1122_3344 (exit 56 0x0b0) (root 0x52 0x31 false (busy 0x0b 0)) (word 0x0b0 0x1122_3344 ∷ []) ∷
    write [] 0x3b 0 0x0b1 2 0x1122 (exit 56 0x0b1) (root 0x52 0x31 false (busy 0x3b 0)) (word 0x0b0 0xa511_22a5 ∷ []) ∷ []

-- 300, VID on: self-IPI virtualization of VICR_LO's low byte, by the whole of VICR_LO after the store
abbrev icr : ℕ → ℕ → ℕ → ℕ → ℕ → Numbers → Record → List Word → Row
icr vicr flags offset size value a state end = write (word 0x300 vicr ∷ word 0x0a0 0xa5a5_a560 ∷ []) flags 0 offset size value a state end

-- exit 56, and what VICR_LO then has
abbrev icr_exits : ℕ → ℕ → ℕ → ℕ → ℕ → ℕ → Row
icr_exits vicr flags offset size value end =
    icr vicr flags offset size value (exit 56 offset) (root 0x52 0x31 false (busy flags 0)) (word 0x300 end ∷ [])

abbrev icr_rows : List Row
icr_rows =
    icr 0xa5a5_a5a5 0x33 0x300 4 0x0004_0071 quiet (guest 0x71 0x31 true (busy 0x33 0)) (word 0x300 0x0004_0071 ∷ word 0x230 0x0002_0000 ∷ []) ∷
    icr 0xa5a5_a5a5 0x3b 0x300 4 0x0004_4831 quiet (guest 0x52 0x31 false (busy 0x3b 0)) (word 0x300 0x0004_4831 ∷ word 0x210 0x0002_0000 ∷ []) ∷
    icr 0x0004_00a5 0x33 0x300 1 0x71 quiet (guest 0x71 0x31 true (busy 0x33 0)) (word 0x300 0x0004_0071 ∷ word 0x230 0x0002_0000 ∷ []) ∷
    icr 0x0004_a5a5 0x3b 0x300 2 0x0010 quiet (guest 0x52 0x31 false (busy 0x3b 0)) (word 0x300 0x0004_0010 ∷ word 0x200 0x0001_0000 ∷ []) ∷
    icr 0xa5a5_a5a5 0x73 0x300 4 0x0004_00ff quiet (guest 0xff 0x31 false (busy 0x73 0)) (word 0x300 0x0004_00ff ∷ word 0x270 0x8000_0000 ∷ []) ∷
    -- the test fails: the stored bytes stay, exit 56
    icr_exits 0xa5a5_a5a5 0x33 0x300 4 0x0004_2071 0x0004_2071 ∷ icr_exits 0xa5a5_a5a5 0x33 0x300 4 0x0004_8071 0x0004_8071 ∷
    icr_exits 0xa5a5_a5a5 0x33 0x300 4 0x0004_000f 0x0004_000f ∷ icr_exits 0xa5a5_a5a5 0x33 0x300 4 0x0000_0071 0x0000_0071 ∷
    icr_exits 0xa5a5_a5a5 0x33 0x300 1 0x71 0xa5a5_a571 ∷
    -- another byte of VICR_LO, though VICR_LO would then do; VID off
    icr_exits 0x0004_a571 0x3b 0x301 1 0x00 0x0004_0071 ∷ icr_exits 0xa5a5_0071 0x3b 0x302 2 0x0004 0x0004_0071 ∷
    icr_exits 0xa5a5_a5a5 0x0b 0x300 4 0x0004_0071 0x0004_0071 ∷ []

-- 310 to 313 clears VICR_HI's bytes 2:0, quiet, with VID on or off; recognition is not looked at
abbrev icr_high : ℕ → ℕ → ℕ → ℕ → ℕ → Row
icr_high flags offset size value end =
    write (word 0x310 0xa5b6_c7d8 ∷ []) flags 0 offset size value quiet (guest 0x52 0x31 true (busy flags 0)) (word 0x310 end ∷ [])

abbrev icr_high_rows : List Row
icr_high_rows =
    icr_high 0x3b 0x310 4 0x1122_3344 0x1100_0000 ∷ icr_high 0x3b 0x310 1 0x11 0xa500_0000 ∷ icr_high 0x3b 0x311 2 0x1122 0xa500_0000 ∷
    icr_high 0x3b 0x312 2 0x1122 0x1100_0000 ∷ icr_high 0x3b 0x313 1 0x55 0x5500_0000 ∷ icr_high 0x0b 0x310 4 0x1122_3344 0x1100_0000 ∷
    icr_high 0x0b 0x313 1 0x55 0x5500_0000 ∷ []

-- Everything else: exit 56, qualification the offset; also where VICR_LO would do
abbrev other : ℕ → ℕ → ℕ → ℕ → Word → Row
other flags offset size value end =
    write (word 0x300 0x0004_0071 ∷ []) flags 0 offset size value (exit 56 offset) (root 0x52 0x31 false (busy flags 0)) (end ∷ [])

abbrev other_rows : List Row
other_rows =
    other 0x3b 0x020 4 0x1122_3344 (word 0x020 0x1122_3344) ∷ other 0x3b 0x081 1 0x11 (word 0x080 0xa5a5_11a5) ∷
    other 0x0b 0x082 2 0x1122 (word 0x080 0x1122_a5a5) ∷ other 0x3b 0x0d0 4 0xf1e2_d3c4 (word 0x0d0 0xf1e2_d3c4) ∷
    other 0x3b 0x280 2 0x1122 (word 0x280 0xa5a5_1122) ∷ other 0x3b 0x320 4 0x0004_0071 (word 0x320 0x0004_0071) ∷
    other 0x3b 0x3e3 1 0x11 (word 0x3e0 0x11a5_a5a5) ∷ []

abbrev pub write_rows : List Row
write_rows = tpr_rows ++ veoi_rows ++ icr_rows ++ icr_high_rows ++ other_rows

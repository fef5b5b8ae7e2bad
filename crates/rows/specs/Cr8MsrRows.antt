-- Document 01, "CR8 and MSR", as rows.
use Rattle.std.specs.Prelude.{ℕ, true, false, List, [], ◌∷◌, ◌++◌}
use Rattle.processor.specs.Rows.{Word, word, exiting}
use Rattle.processor.specs.declared.controls.Controls.{Controls}
use Rattle.processor.specs.declared.controls.Record.{Record}
use Rattle.events.specs.declared.answer.Numbers.{Numbers}
use Rattle.events.specs.declared.event.Event.{Event}
use Rattle.events.specs.declared.event.Event.TheVariants.{ToCr8, FromCr8, Rdmsr, Wrmsr}
use Rattle.rows.specs.RowBench.{Row, quiet, exit}
use Rattle.rows.specs.RowStart.{marked, busy, guest, root, redirected, passthrough, fault, of_event, keeps}

-- eight different bytes at 080, at 0B0, at 0D0 and at FF0; 31 in service
abbrev page : List ℕ
page =
    marked (word 0x080 0x7a6b_5c4f ∷ word 0x084 0xb3c2_d1e0 ∷ word 0x0b0 0x1f2e_3d4c ∷ word 0x0b4 0x5b6a_7988 ∷ word 0x0d0 0x4433_2211 ∷
    word 0x0d4 0x8877_6655 ∷ word 0xff0 0x0123_4567 ∷ word 0xff4 0x89ab_cdef ∷ word 0x110 0x0002_0000 ∷ [])

-- an event of a guest with RVI 52, SVI 31 and an interrupt recognised: flags and threshold; the answer, the record, the words that change
abbrev row : ℕ → ℕ → Event → Numbers → Record → List Word → Row
row flags threshold e a state end = of_event page (guest 0x52 0x31 true (busy flags threshold)) e a state end

-- an answer that changes nothing
abbrev plain : ℕ → Event → Numbers → Row
plain flags e a = keeps page (guest 0x52 0x31 true (busy flags 0)) e a

-- an exit that stores nothing
abbrev exits : ℕ → ℕ → Event → ℕ → ℕ → Row
exits flags threshold e reason qualification =
    row flags threshold e (exit reason qualification) (root 0x52 0x31 false (busy flags threshold)) []

-- To CR8: exit 28 if control 7; passthrough if no shadow; else VTPR's four bytes become 16 × value, TPR virtualization.
abbrev to_rows : List Row
to_rows =
    exits 0x0b1 0 (ToCr8 4 3) 28 0x308 ∷ exits 0x080 0 (ToCr8 15 0) 28 0x008 ∷ exits 0x1b1 0 (ToCr8 0 15) 28 0xf08 ∷
    plain 0x000 (ToCr8 4 3) passthrough ∷ plain 0x100 (ToCr8 4 3) passthrough ∷
    row 0x131 0 (ToCr8 4 3) quiet (guest 0x52 0x31 true (busy 0x131 0)) (word 0x080 0x40 ∷ word 0x0a0 0x40 ∷ []) ∷
    row 0x031 0 (ToCr8 15 0) quiet (guest 0x52 0x31 false (busy 0x031 0)) (word 0x080 0xf0 ∷ word 0x0a0 0xf0 ∷ []) ∷
    row 0x031 0 (ToCr8 0 0) quiet (guest 0x52 0x31 true (busy 0x031 0)) (word 0x080 0x00 ∷ word 0x0a0 0x30 ∷ []) ∷
    row 0x001 0x15 (ToCr8 4 3) (exit 43 0) (root 0x52 0x31 false (busy 0x001 0x15)) (word 0x080 0x40 ∷ []) ∷
    row 0x001 0x15 (ToCr8 5 3) quiet (guest 0x52 0x31 true (busy 0x001 0x15)) (word 0x080 0x50 ∷ []) ∷
    -- VID alone is looked at: off with every other control that may be on, on by itself
    row 0x76f 0x15 (ToCr8 4 3) (exit 43 0) (root 0x52 0x31 false (busy 0x76f 0x15)) (word 0x080 0x40 ∷ []) ∷
    row 0x011 0x15 (ToCr8 4 3) quiet (guest 0x52 0x31 true (busy 0x011 0x15)) (word 0x080 0x40 ∷ word 0x0a0 0x40 ∷ []) ∷ []

-- From CR8: exit 28 if control 8; passthrough if no shadow; else redirected VTPR class.
abbrev from_rows : List Row
from_rows =
    exits 0x131 0 (FromCr8 3) 28 0x318 ∷ exits 0x100 0 (FromCr8 0) 28 0x018 ∷ exits 0x1b1 0 (FromCr8 15) 28 0xf18 ∷
    plain 0x000 (FromCr8 3) passthrough ∷ plain 0x080 (FromCr8 3) passthrough ∷ plain 0x031 (FromCr8 3) (redirected 4) ∷
    plain 0x0b1 (FromCr8 0) (redirected 4) ∷ []

-- RDMSR: redirected eight bytes from (index mod 256) × 16, or passthrough.
abbrev rdmsr_rows : List Row
rdmsr_rows =
    plain 0x3d (Rdmsr 0x808) (redirected 0xb3c2_d1e0_7a6b_5c4f) ∷ plain 0x3d (Rdmsr 0x80d) (redirected 0x8877_6655_4433_2211) ∷
    plain 0x0d (Rdmsr 0x8ff) (redirected 0x89ab_cdef_0123_4567) ∷ plain 0x0d (Rdmsr 0x800) (redirected 0xa5a5_a5a5_a5a5_a5a5) ∷
    plain 0x05 (Rdmsr 0x808) (redirected 0xb3c2_d1e0_7a6b_5c4f) ∷ plain 0x35 (Rdmsr 0x80b) passthrough ∷ plain 0x05 (Rdmsr 0x80d) passthrough ∷
    plain 0x0d (Rdmsr 0x7ff) passthrough ∷ plain 0x0d (Rdmsr 0x900) passthrough ∷ plain 0x39 (Rdmsr 0x808) passthrough ∷ []

-- WRMSR: the eight bytes are stored at the same offset, then by the index.
abbrev wrmsr_rows : List Row
wrmsr_rows =
    -- 808H TPR virtualization
    row 0x35 0 (Wrmsr 0x808 0x44) quiet (guest 0x52 0x31 true (busy 0x35 0)) (word 0x080 0x44 ∷ word 0x084 0 ∷ word 0x0a0 0x44 ∷ []) ∷
    row 0x3d 0 (Wrmsr 0x808 0xff) quiet (guest 0x52 0x31 false (busy 0x3d 0)) (word 0x080 0xff ∷ word 0x084 0 ∷ word 0x0a0 0xff ∷ []) ∷
    row 0x05 5 (Wrmsr 0x808 0x4f) (exit 43 0) (root 0x52 0x31 false (busy 0x05 5)) (word 0x080 0x4f ∷ word 0x084 0 ∷ []) ∷
    row 0x05 5 (Wrmsr 0x808 0x50) quiet (guest 0x52 0x31 true (busy 0x05 5)) (word 0x080 0x50 ∷ word 0x084 0 ∷ []) ∷
    -- 80BH EOI virtualization
    row 0x35 0 (Wrmsr 0x80b 0) quiet (guest 0x52 0x00 true (busy 0x35 0)) (word 0x0b0 0 ∷ word 0x0b4 0 ∷ word 0x110 0 ∷ word 0x0a0 0x4f ∷ []) ∷
    -- 83FH self-IPI virtualization of the low byte if it is 16 or more, else exit 56
    row 0x35 0 (Wrmsr 0x83f 0xb1) quiet (guest 0xb1 0x31 true (busy 0x35 0)) (word 0x3f0 0xb1 ∷ word 0x3f4 0 ∷ word 0x250 0x0002_0000 ∷ []) ∷
    row 0x3d 0 (Wrmsr 0x83f 0x10) quiet (guest 0x52 0x31 false (busy 0x3d 0)) (word 0x3f0 0x10 ∷ word 0x3f4 0 ∷ word 0x200 0x0001_0000 ∷ []) ∷
    row 0x35 0 (Wrmsr 0x83f 0x0f) (exit 56 0x3f0) (root 0x52 0x31 false (busy 0x35 0)) (word 0x3f0 0x0f ∷ word 0x3f4 0 ∷ []) ∷
    row 0x35 0 (Wrmsr 0x83f 0x00) (exit 56 0x3f0) (root 0x52 0x31 false (busy 0x35 0)) (word 0x3f0 0x00 ∷ word 0x3f4 0 ∷ []) ∷
    -- a value above 255 faults, at 80BH any value but 0; nothing is stored
    plain 0x35 (Wrmsr 0x808 0x100) fault ∷ plain 0x05 (Wrmsr 0x808 0x1_0000_0044) fault ∷ plain 0x35 (Wrmsr 0x80b 1) fault ∷
    plain 0x35 (Wrmsr 0x83f 0x171) fault ∷
    -- passthrough
    plain 0x35 (Wrmsr 0x80d 0x44) passthrough ∷ plain 0x05 (Wrmsr 0x80b 1) passthrough ∷ plain 0x05 (Wrmsr 0x83f 0x171) passthrough ∷
    plain 0x31 (Wrmsr 0x808 0x44) passthrough ∷ plain 0x3d (Wrmsr 0x900 0x44) passthrough ∷ []

-- 80BH where 31's EOI-exit bit is set, bit 49 of the first word
abbrev exits31 : Controls
exits31 = exiting 0x35 0x2_0000_0000_0000 0 0 0

abbrev eoi_exit_row : Row
eoi_exit_row =
    of_event page (guest 0x52 0x31 true exits31) (Wrmsr 0x80b 0) (exit 45 0x31) (root 0x52 0x00 false exits31)
    (word 0x0b0 0 ∷ word 0x0b4 0 ∷ word 0x110 0 ∷ word 0x0a0 0x4f ∷ [])

abbrev pub instruction_rows : List Row
instruction_rows = to_rows ++ from_rows ++ rdmsr_rows ++ wrmsr_rows ++ (eoi_exit_row ∷ [])

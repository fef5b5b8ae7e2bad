-- Document 01, "CR8 and MSR", as rows: what each access comes to.
use Rattle.std.specs.Prelude.{ℕ, Bool, List, [], ◌∷◌, ◌++◌, eqb}
use Rattle.processor.specs.Rows.{at_each, at_none, flagged, answer_of}
use Rattle.instructions.specs.declared.msr.MsrWrite.{MsrWrite}
use Rattle.instructions.specs.declared.msr.MsrWrite.TheVariants.{Passthrough as MsrPassthrough, Fault, Tpr, Eoi, SelfIpi, ApicWrite}
use Rattle.instructions.specs.Instructions.{to_cr8, from_cr8, to_cr8_qualification, from_cr8_qualification, rdmsr_redirected, msr_offset, wrmsr}

abbrev to : ℕ → ℕ → Bool
to answer flags = eqb (answer_of (to_cr8 (flagged flags))) answer

abbrev from : ℕ → ℕ → Bool
from answer flags = eqb (answer_of (from_cr8 (flagged flags))) answer

-- To CR8: exit 28 if control 7, with the shadow or without; else passthrough if no shadow; else redirected. From CR8: by control 8.
abbrev pub cr8_rows : List Bool
cr8_rows =
    at_each (to 4) (0x081 ∷ 0x080 ∷ 0x7ff ∷ []) ∷ at_each (to 2) (0x000 ∷ 0x100 ∷ 0x77e ∷ []) ∷ at_each (to 1) (0x001 ∷ 0x101 ∷ 0x77f ∷ []) ∷
    at_each (from 4) (0x101 ∷ 0x100 ∷ 0x7ff ∷ []) ∷ at_each (from 2) (0x000 ∷ 0x080 ∷ 0x6fe ∷ []) ∷ at_each (from 1) (0x001 ∷ 0x081 ∷ 0x6ff ∷ []) ∷
    -- 8 + 256 × register, and 24 + 256 × register
    eqb (to_cr8_qualification 0) 0x008 ∷ eqb (to_cr8_qualification 3) 0x308 ∷ eqb (to_cr8_qualification 15) 0xf08 ∷
    eqb (from_cr8_qualification 0) 0x018 ∷ eqb (from_cr8_qualification 3) 0x318 ∷ eqb (from_cr8_qualification 15) 0xf18 ∷ []

abbrev redirected : ℕ → ℕ → Bool
redirected flags index = rdmsr_redirected (flagged flags) index

-- RDMSR: controls 2 and 3 on; control 2 alone; control 3 alone; neither
abbrev pub rdmsr_rows : List Bool
rdmsr_rows =
    at_each (redirected 0x0d) (0x800 ∷ 0x801 ∷ 0x808 ∷ 0x80a ∷ 0x83f ∷ 0x840 ∷ 0x8fe ∷ 0x8ff ∷ []) ∷
    at_none (redirected 0x0d) (0x000 ∷ 0x008 ∷ 0x708 ∷ 0x7ff ∷ 0x900 ∷ 0x908 ∷ 0x1808 ∷ 0xc000_0808 ∷ 0xffff_ffff ∷ []) ∷
    at_each (redirected 0x05) (0x808 ∷ []) ∷ at_none (redirected 0x05) (0x008 ∷ 0x800 ∷ 0x807 ∷ 0x809 ∷ 0x80a ∷ 0x80b ∷ 0x83f ∷ 0x8ff ∷ 0x908 ∷ []) ∷
    at_none (redirected 0x09) (0x800 ∷ 0x808 ∷ 0x8ff ∷ []) ∷ at_none (redirected 0x01) (0x808 ∷ []) ∷ at_none (redirected 0x7fb) (0x808 ∷ []) ∷
    at_each (redirected 0x7f7) (0x808 ∷ []) ∷ at_none (redirected 0x7f7) (0x800 ∷ 0x80b ∷ []) ∷ at_each (redirected 0x00c) (0x800 ∷ []) ∷
    -- (index mod 256) × 16
    eqb (msr_offset 0x800) 0x000 ∷ eqb (msr_offset 0x801) 0x010 ∷ eqb (msr_offset 0x808) 0x080 ∷ eqb (msr_offset 0x80b) 0x0b0 ∷
    eqb (msr_offset 0x83f) 0x3f0 ∷ eqb (msr_offset 0x880) 0x800 ∷ eqb (msr_offset 0x908) 0x080 ∷ eqb (msr_offset 0x8ff) 0xff0 ∷ []

-- what comes of a WRMSR: 2 passthrough, 3 fault; then in the document's order 81 TPR virtualization, 82 EOI virtualization, 83 self-IPI
-- virtualization, 84 exit 56
abbrev msr_number : MsrWrite → ℕ
msr_number MsrPassthrough = 2
msr_number Fault = 3
msr_number Tpr = 81
msr_number Eoi = 82
msr_number SelfIpi = 83
msr_number ApicWrite = 84

-- this comes of a value at an index
abbrev comes : ℕ → ℕ → ℕ → ℕ → Bool
comes number flags index value = eqb (msr_number (wrmsr (flagged flags) index value)) number

-- the same of value 0 at each of the indices
abbrev comes_at : ℕ → ℕ → ℕ → Bool
comes_at number flags index = comes number flags index 0

abbrev pub wrmsr_rows : List Bool
wrmsr_rows =
    -- controls 2 and 4 on. 808H: a value above 255 faults
    at_each (comes 81 0x35 0x808) (0 ∷ 0x0f ∷ 0x10 ∷ 0xff ∷ []) ∷ at_each (comes 3 0x35 0x808) (0x100 ∷ 0x1ff ∷ 0x1_0000_0000 ∷ 0xffff_ffff_ffff_ffff ∷ []) ∷
    -- 80BH: any value but 0 faults
    at_each (comes 82 0x35 0x80b) (0 ∷ []) ∷ at_each (comes 3 0x35 0x80b) (1 ∷ 0x10 ∷ 0xff ∷ 0x100 ∷ 0x1_0000_0000 ∷ []) ∷
    -- 83FH: a low byte of 16 or more
    at_each (comes 83 0x35 0x83f) (0x10 ∷ 0x11 ∷ 0x71 ∷ 0xff ∷ []) ∷ at_each (comes 84 0x35 0x83f) (0 ∷ 1 ∷ 0x0f ∷ []) ∷
    at_each (comes 3 0x35 0x83f) (0x100 ∷ 0x110 ∷ 0x1_0000_0071 ∷ []) ∷
    -- every other index is passthrough, whatever the value
    at_each (comes_at 2 0x35) (0x000 ∷ 0x008 ∷ 0x00b ∷ 0x03f ∷ 0x708 ∷ 0x800 ∷ 0x807 ∷ 0x809 ∷ 0x80a ∷ 0x80c ∷ 0x80d ∷ 0x830 ∷ 0x83e ∷ 0x840 ∷ []) ∷
    at_each (comes_at 2 0x35) (0x8ff ∷ 0x908 ∷ 0x90b ∷ 0x93f ∷ 0xc000_0808 ∷ 0xffff_ffff ∷ []) ∷
    at_each (comes 2 0x35 0x830) (1 ∷ 0x100 ∷ []) ∷
    -- VID off: 808H alone is handled, with control 3 or without
    at_each (comes_at 81 0x05) (0x808 ∷ []) ∷ comes 3 0x05 0x808 0x100 ∷ at_each (comes_at 2 0x05) (0x80b ∷ 0x83f ∷ []) ∷
    comes 2 0x05 0x80b 1 ∷ comes 2 0x05 0x83f 0x71 ∷ comes 2 0x0d 0x83f 0x71 ∷
    -- no other control is looked at
    at_each (comes_at 81 0x7ef) (0x808 ∷ []) ∷ at_each (comes_at 2 0x7ef) (0x80b ∷ 0x83f ∷ []) ∷ at_each (comes_at 82 0x014) (0x80b ∷ []) ∷
    comes 83 0x014 0x83f 0x71 ∷ at_each (comes_at 81 0x004) (0x808 ∷ []) ∷
    -- control 2 off: passthrough
    at_each (comes_at 2 0x31) (0x808 ∷ 0x80b ∷ 0x83f ∷ []) ∷ comes 2 0x7fb 0x808 0x100 ∷ comes 2 0x31 0x83f 0x71 ∷ []

abbrev pub instruction_rows : List Bool
instruction_rows = cr8_rows ++ rdmsr_rows ++ wrmsr_rows

-- Document 01, "Memory accesses": the table of open offsets.
use Rattle.std.specs.Prelude.{ℕ, zero, suc, ◌+◌, Bool, ◌&&◌, ◌||◌, List, [], ◌∷◌, ◌++◌, eqb, leb, ltb, if◌then◌else◌}
use Rattle.processor.specs.Logic.{without, any}
use Rattle.processor.specs.Offsets.{vtpr, veoi, vicr_lo}
use Rattle.processor.specs.Controls.{apic_register_virtualization, virtual_delivery}
use Rattle.processor.specs.declared.controls.Controls.{Controls}

-- registers in steps of 10H: so many from the first on
abbrev pub steps : ℕ → ℕ → List ℕ
steps first zero = []
steps first (suc n) = first ∷ steps (first + 0x10) n

-- Control 3 on, read: each four-byte register at 020, 030, 080, 0B0, 0D0, 0E0, 0F0, 100 to 170, 180 to 1F0, 200 to 270,
-- 280, 300, 310, 320 to 370, 380, 3E0 (steps of 10H)
abbrev pub read_registers : List ℕ
read_registers =
    0x020 ∷ 0x030 ∷ 0x080 ∷ 0x0b0 ∷ 0x0d0 ∷ 0x0e0 ∷ 0x0f0 ∷
    (steps 0x100 8 ++ steps 0x180 8 ++ steps 0x200 8 ++
    (0x280 ∷ 0x300 ∷ 0x310 ∷ (steps 0x320 6 ++ (0x380 ∷ 0x3e0 ∷ []))))

-- Control 3 on, write: the same without 030 and 100 to 270.
abbrev pub write_registers : List ℕ
write_registers = without (λ register. eqb register 0x030 || leb 0x100 register && leb register 0x270) read_registers

-- any byte of a four-byte register
abbrev pub in_register : ℕ → ℕ → Bool
in_register offset register = leb register offset && ltb offset (register + 4)

-- any byte of a register of the list
abbrev pub in_registers : List ℕ → ℕ → Bool
in_registers registers offset = any (in_register offset) registers

-- Control 3 off, VID off: exactly 080.
abbrev pub open_tpr : ℕ → Bool
open_tpr offset = eqb offset vtpr

-- Control 3 off, VID on: exactly 080, 0B0, 300.
abbrev pub open_delivery : ℕ → Bool
open_delivery offset = eqb offset vtpr || eqb offset veoi || eqb offset vicr_lo

abbrev pub open_read : ℕ → Bool
open_read offset = in_registers read_registers offset

abbrev pub open_write : ℕ → Bool
open_write offset = in_registers write_registers offset

-- The offset may be redirected, in each of the four settings.
unfoldable pub open_offset : Controls → Bool → ℕ → Bool
open_offset c write offset =
    if apic_register_virtualization c
    then (if write then open_write offset else open_read offset)
    else (if virtual_delivery c then open_delivery offset else open_tpr offset)

-- Document 01, "Memory accesses": what an access comes to, and what follows a redirected write.
use Rattle.std.specs.Prelude.{ℕ, ◌+◌, ◌%◌, Bool, not, ◌&&◌, ◌||◌, eqb, ltb, if◌then◌else◌}
use Rattle.processor.specs.Logic.{bits}
use Rattle.processor.specs.Offsets.{vtpr, veoi, vicr_lo, vicr_hi}
use Rattle.processor.specs.Controls.{use_tpr_shadow, virtualize_apic_accesses, virtual_delivery}
use Rattle.processor.specs.declared.controls.Controls.{Controls}
use Rattle.processor.specs.declared.access.Access.{Access}
use Rattle.processor.specs.declared.access.Access.TheVariants.{Passthrough, Exit, Redirected}
use Rattle.table.specs.Table.{in_register, open_offset}
use Rattle.accesses.specs.declared.memory.Following.{Following}
use Rattle.accesses.specs.declared.memory.Following.TheVariants.{Tpr, Eoi, SelfIpi, IcrHigh, ApicWrite}

-- (offset mod 16) + size > 4
abbrev pub past_register : ℕ → ℕ → Bool
past_register offset size = ltb 4 (offset % 16 + size)

-- exit 44 if any holds: shadow off; fetch; size 8; the already-virtualised flag; (offset mod 16) + size > 4; or the offset isn't open
abbrev pub access_exits : Controls → Bool → ℕ → ℕ → Bool → Bool → Bool
access_exits c write offset size fetch already =
    not (use_tpr_shadow c) || fetch || eqb size 8 || already || past_register offset size || not (open_offset c write offset)

-- Control 1 off: passthrough. Else exit 44 if any holds. Else redirected.
unfoldable pub memory_access : Controls → Bool → ℕ → ℕ → Bool → Bool → Access
memory_access c write offset size fetch already =
    if not (virtualize_apic_accesses c) then Passthrough
    else if access_exits c write offset size fetch already then Exit
    else Redirected

-- Qualification: offset, plus 0 for a read, 1000H for a write, 2000H for a fetch.
unfoldable pub read_qualification : ℕ → Bool → ℕ
read_qualification offset fetch = if fetch then offset + 0x2000 else offset

abbrev pub write_qualification : ℕ → ℕ
write_qualification offset = offset + 0x1000

-- bits 31:20, 17:16, 15, 13, 12 and 10:8 are 0, bits 19:18 are 01, and bits 7:4 aren't 0; bits 11 and 14 aren't looked at
abbrev pub self_ipi : ℕ → Bool
self_ipi icr =
    eqb (bits 31 20 icr) 0 && eqb (bits 17 16 icr) 0 && eqb (bits 15 15 icr) 0 && eqb (bits 13 13 icr) 0 &&
    eqb (bits 12 12 icr) 0 && eqb (bits 10 8 icr) 0 && eqb (bits 19 18 icr) 1 && not (eqb (bits 7 4 icr) 0)

-- A redirected write stores its bytes, then by offset: 080 TPR virtualization; 0B0, VID on: EOI virtualization; 300, VID on:
-- self-IPI virtualization, under the test of VICR_LO; 310 to 313: VICR_HI. Everything else: exit 56.
unfoldable pub write_following : Controls → ℕ → ℕ → Following
write_following c offset icr =
    if eqb offset vtpr then Tpr
    else if virtual_delivery c && eqb offset veoi then Eoi
    else if virtual_delivery c && eqb offset vicr_lo && self_ipi icr then SelfIpi
    else if in_register offset vicr_hi then IcrHigh
    else ApicWrite

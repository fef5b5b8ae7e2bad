-- Document 01, "CR8 and MSR": what an access comes to.
use Rattle.std.specs.Prelude.{ℕ, ◌+◌, ◌*◌, ◌%◌, Bool, not, ◌&&◌, ◌||◌, eqb, leb, ltb, if◌then◌else◌}
use Rattle.processor.specs.Controls.{use_tpr_shadow, virtualize_x2apic_mode, apic_register_virtualization, virtual_delivery, cr8_load_exiting, cr8_store_exiting}
use Rattle.processor.specs.declared.controls.Controls.{Controls}
use Rattle.processor.specs.declared.access.Access.{Access}
use Rattle.processor.specs.declared.access.Access.TheVariants.{Passthrough, Exit, Redirected}
use Rattle.instructions.specs.declared.msr.MsrWrite.{MsrWrite}
use Rattle.instructions.specs.declared.msr.MsrWrite.TheVariants.{Passthrough as MsrPassthrough, Fault, Tpr, Eoi, SelfIpi, ApicWrite}

-- exit 28 if its control is on; else passthrough if no shadow; else VTPR
unfoldable pub cr8_access : Bool → Controls → Access
cr8_access exiting c = if exiting then Exit else if not (use_tpr_shadow c) then Passthrough else Redirected

-- To CR8: control 7. From CR8: control 8.
abbrev pub to_cr8 : Controls → Access
to_cr8 c = cr8_access (cr8_load_exiting c) c

abbrev pub from_cr8 : Controls → Access
from_cr8 c = cr8_access (cr8_store_exiting c) c

-- exit 28's qualification: 8 + 256 × register to CR8, 24 + 256 × register from it
abbrev pub cr8_qualification : ℕ → ℕ → ℕ
cr8_qualification low register = low + 256 * register

abbrev pub to_cr8_qualification : ℕ → ℕ
to_cr8_qualification register = cr8_qualification 8 register

abbrev pub from_cr8_qualification : ℕ → ℕ
from_cr8_qualification register = cr8_qualification 24 register

-- RDMSR: passthrough if control 2 is off or the index isn't 800H to 8FFH. With control 3, redirected; without, only 808H is;
-- the rest pass through.
abbrev pub rdmsr_redirected : Controls → ℕ → Bool
rdmsr_redirected c index =
    virtualize_x2apic_mode c && leb 0x800 index && leb index 0x8ff && (apic_register_virtualization c || eqb index 0x808)

-- eight bytes from (index mod 256) × 16
abbrev pub msr_offset : ℕ → ℕ
msr_offset index = index % 256 * 16

-- WRMSR: passthrough if control 2 is off. With control 2 on, 808H is always handled, 80BH and 83FH only with VID on, and every
-- other index is passthrough.
abbrev pub wrmsr_handled : Controls → ℕ → Bool
wrmsr_handled c index =
    virtualize_x2apic_mode c && (eqb index 0x808 || virtual_delivery c && (eqb index 0x80b || eqb index 0x83f))

-- At a handled index a value above 255 faults; for 80BH any value but 0 faults.
abbrev pub wrmsr_faults : ℕ → ℕ → Bool
wrmsr_faults index value = ltb 255 value || eqb index 0x80b && not (eqb value 0)

-- Else: 808H TPR virtualization; 80BH EOI virtualization; 83FH self-IPI virtualization if the low byte is 16 or more, else exit 56.
unfoldable pub wrmsr_following : ℕ → ℕ → MsrWrite
wrmsr_following index value =
    if eqb index 0x808 then Tpr
    else if eqb index 0x80b then Eoi
    else if ltb (value % 0x100) 16 then ApicWrite
    else SelfIpi

unfoldable pub wrmsr : Controls → ℕ → ℕ → MsrWrite
wrmsr c index value =
    if not (wrmsr_handled c index) then MsrPassthrough
    else if wrmsr_faults index value then Fault
    else wrmsr_following index value

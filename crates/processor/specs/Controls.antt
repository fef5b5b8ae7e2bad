-- Document 01, "Processor record and controls", with the controls of E1 of document 02.
use Rattle.std.specs.Prelude.{ℕ, ◌/◌, ◌%◌, ◌^◌, Bool, false, eqb, ltb, if◌then◌else◌}
use Rattle.processor.specs.Logic.{bit}
use Rattle.processor.specs.declared.controls.Control.{Control}
use Rattle.processor.specs.declared.controls.Control.TheVariants.{UseTprShadow, VirtualizeApicAccesses, VirtualizeX2apicMode, ApicRegisterVirtualization, VirtualDelivery, ExternalInterruptExiting, InterruptWindowExiting, Cr8LoadExiting, Cr8StoreExiting, ProcessPostedInterrupts, AcknowledgeOnExit}
use Rattle.processor.specs.declared.controls.Controls.{Controls}
use Rattle.processor.specs.declared.controls.Record.{Record}

-- The control of bit k is on.
abbrev pub is_on : Controls → ℕ → Bool
is_on c k = bit c.flags k

-- Controls, with the bit numbers used when they are stored.
abbrev pub control_bit : Control → ℕ
control_bit UseTprShadow = 0
control_bit VirtualizeApicAccesses = 1
control_bit VirtualizeX2apicMode = 2
control_bit ApicRegisterVirtualization = 3
control_bit VirtualDelivery = 4
control_bit ExternalInterruptExiting = 5
control_bit InterruptWindowExiting = 6
control_bit Cr8LoadExiting = 7
control_bit Cr8StoreExiting = 8
control_bit ProcessPostedInterrupts = 9
control_bit AcknowledgeOnExit = 10

-- 0 use TPR shadow
abbrev pub use_tpr_shadow : Controls → Bool
use_tpr_shadow c = is_on c 0

-- 1 virtualize APIC accesses
abbrev pub virtualize_apic_accesses : Controls → Bool
virtualize_apic_accesses c = is_on c 1

-- 2 virtualize x2APIC mode
abbrev pub virtualize_x2apic_mode : Controls → Bool
virtualize_x2apic_mode c = is_on c 2

-- 3 APIC-register virtualization
abbrev pub apic_register_virtualization : Controls → Bool
apic_register_virtualization c = is_on c 3

-- 4 virtual-interrupt delivery (VID)
abbrev pub virtual_delivery : Controls → Bool
virtual_delivery c = is_on c 4

-- 5 external-interrupt exiting
abbrev pub external_interrupt_exiting : Controls → Bool
external_interrupt_exiting c = is_on c 5

-- 6 interrupt-window exiting
abbrev pub interrupt_window_exiting : Controls → Bool
interrupt_window_exiting c = is_on c 6

-- 7 CR8-load exiting
abbrev pub cr8_load_exiting : Controls → Bool
cr8_load_exiting c = is_on c 7

-- 8 CR8-store exiting
abbrev pub cr8_store_exiting : Controls → Bool
cr8_store_exiting c = is_on c 8

-- 9 process posted interrupts
abbrev pub process_posted_interrupts : Controls → Bool
process_posted_interrupts c = is_on c 9

-- 10 acknowledge interrupt on exit
abbrev pub acknowledge_on_exit : Controls → Bool
acknowledge_on_exit c = is_on c 10

-- Where the flags are held in a number, its other bits must be 0.
abbrev pub flags_in_bounds : Controls → Bool
flags_in_bounds c = ltb c.flags (2 ^ 11)

-- 256 EOI-exit bits, four 64-bit words
unfoldable pub eoi_exit_word : Controls → ℕ → ℕ
eoi_exit_word c w =
    if eqb w 0 then c.eoi_exit_0
    else if eqb w 1 then c.eoi_exit_1
    else if eqb w 2 then c.eoi_exit_2
    else c.eoi_exit_3

-- vector v at word v/64, bit v mod 64
abbrev pub eoi_exit : Controls → ℕ → Bool
eoi_exit c v = bit (eoi_exit_word c (v / 64)) (v % 64)

-- every control off, threshold, notification vector and EOI-exit bits 0
abbrev pub no_controls : Controls
no_controls = record { flags = 0; threshold = 0; notification = 0; eoi_exit_0 = 0; eoi_exit_1 = 0; eoi_exit_2 = 0; eoi_exit_3 = 0 }

-- Fresh: root, all zero.
abbrev pub fresh : Record
fresh = record { guest = false; rvi = 0; svi = 0; recognised = false; controls = no_controls }

-- The record with one part changed.
abbrev pub with_guest : Record → Bool → Record
with_guest r g = record { guest = g; rvi = r.rvi; svi = r.svi; recognised = r.recognised; controls = r.controls }

abbrev pub with_rvi : Record → ℕ → Record
with_rvi r v = record { guest = r.guest; rvi = v; svi = r.svi; recognised = r.recognised; controls = r.controls }

abbrev pub with_svi : Record → ℕ → Record
with_svi r v = record { guest = r.guest; rvi = r.rvi; svi = v; recognised = r.recognised; controls = r.controls }

abbrev pub with_recognised : Record → Bool → Record
with_recognised r b = record { guest = r.guest; rvi = r.rvi; svi = r.svi; recognised = b; controls = r.controls }

abbrev pub with_controls : Record → Controls → Record
with_controls r c = record { guest = r.guest; rvi = r.rvi; svi = r.svi; recognised = r.recognised; controls = c }

-- Every exit sets root mode and recognition off.
abbrev pub outside : Record → Record
outside r = with_recognised (with_guest r false) false

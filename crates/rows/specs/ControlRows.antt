-- Document 01, "Processor record and controls", and the controls of E1, as rows.
use Rattle.std.specs.Prelude.{ℕ, Bool, true, false, not, ◌&&◌, List, [], ◌∷◌, ◌++◌, eqb, ltb}
use Rattle.std.specs.Bool.{beq}
use Rattle.processor.specs.Logic.{all_below}
use Rattle.processor.specs.Rows.{at_each, at_none, controls, flagged, exiting}
use Rattle.processor.specs.Controls.{use_tpr_shadow, virtualize_apic_accesses, virtualize_x2apic_mode, apic_register_virtualization, virtual_delivery, external_interrupt_exiting, interrupt_window_exiting, cr8_load_exiting, cr8_store_exiting, process_posted_interrupts, acknowledge_on_exit, flags_in_bounds, eoi_exit, no_controls, fresh, with_guest, with_rvi, with_svi, with_recognised, with_controls, outside}
use Rattle.processor.specs.declared.controls.Controls.{Controls}
use Rattle.processor.specs.declared.controls.Record.{Record}

-- the control is on by its own bit alone, and off where every other bit is set
abbrev only_by : (Controls → Bool) → ℕ → ℕ → Bool
only_by control own others = control (flagged own) && not (control (flagged others))

-- 0 use TPR shadow; 1 virtualize APIC accesses; 2 virtualize x2APIC mode; 3 APIC-register virtualization; 4 virtual-interrupt delivery;
-- 5 external-interrupt exiting; 6 interrupt-window exiting; 7 CR8-load exiting; 8 CR8-store exiting; 9 process posted interrupts;
-- 10 acknowledge interrupt on exit
abbrev pub bit_rows : List Bool
bit_rows =
    only_by use_tpr_shadow 0x001 0x7fe ∷ only_by virtualize_apic_accesses 0x002 0x7fd ∷ only_by virtualize_x2apic_mode 0x004 0x7fb ∷
    only_by apic_register_virtualization 0x008 0x7f7 ∷ only_by virtual_delivery 0x010 0x7ef ∷ only_by external_interrupt_exiting 0x020 0x7df ∷
    only_by interrupt_window_exiting 0x040 0x7bf ∷ only_by cr8_load_exiting 0x080 0x77f ∷ only_by cr8_store_exiting 0x100 0x6ff ∷
    only_by process_posted_interrupts 0x200 0x5ff ∷ only_by acknowledge_on_exit 0x400 0x3ff ∷ []

-- Its other bits must be 0: each bit from 11 on by itself, and bits 10:0 all set.
abbrev pub flag_rows : List Bool
flag_rows =
    at_each (λ flags. flags_in_bounds (flagged flags)) (0 ∷ 0x001 ∷ 0x400 ∷ 0x7ff ∷ []) ∷
    at_none (λ flags. flags_in_bounds (flagged flags)) (0x800 ∷ 0x801 ∷ 0xfff ∷ 0x1000 ∷ 0x8000 ∷ 0x1_0000 ∷ 0x8000_0000 ∷ 0xffff_ffff ∷ []) ∷ []

-- of 256 vectors this one alone has its EOI-exit bit set
abbrev exits_alone : Controls → ℕ → Bool
exits_alone c v = all_below 256 (λ w. beq (eoi_exit c w) (eqb w v))

-- vector v at word v/64, bit v mod 64: the lowest and the highest bit of each word, and one between
abbrev pub eoi_rows : List Bool
eoi_rows =
    exits_alone (exiting 0 0x1 0 0 0) 0 ∷ exits_alone (exiting 0 0x8000_0000_0000_0000 0 0 0) 63 ∷
    exits_alone (exiting 0 0 0x1 0 0) 64 ∷ exits_alone (exiting 0 0 0x0002_0000_0000_0000 0 0) 0x71 ∷
    exits_alone (exiting 0 0 0x8000_0000_0000_0000 0 0) 127 ∷ exits_alone (exiting 0 0 0 0x1 0) 128 ∷
    exits_alone (exiting 0 0 0 0x8000_0000_0000_0000 0) 191 ∷ exits_alone (exiting 0 0 0 0 0x1) 192 ∷
    exits_alone (exiting 0 0 0 0 0x8000_0000_0000_0000) 255 ∷ []

-- every number of the controls is 0
abbrev none_on : Controls → Bool
none_on c =
    eqb c.flags 0 && eqb c.threshold 0 && eqb c.notification 0 && eqb c.eoi_exit_0 0 && eqb c.eoi_exit_1 0 &&
    eqb c.eoi_exit_2 0 && eqb c.eoi_exit_3 0

-- Fresh: root, all zero.
abbrev pub fresh_rows : List Bool
fresh_rows =
    none_on no_controls ∷ none_on fresh.controls ∷ not fresh.guest ∷ eqb fresh.rvi 0 ∷ eqb fresh.svi 0 ∷ not fresh.recognised ∷ []

-- a record with these parts; its controls are told by their threshold alone
abbrev has : Record → Bool → ℕ → ℕ → Bool → ℕ → Bool
has r guest rvi svi recognised threshold =
    beq r.guest guest && eqb r.rvi rvi && eqb r.svi svi && beq r.recognised recognised && eqb r.controls.threshold threshold

abbrev in_guest : Record
in_guest = record { guest = true; rvi = 0x52; svi = 0x31; recognised = false; controls = controls 0 5 }

abbrev in_root : Record
in_root = record { guest = false; rvi = 0x52; svi = 0x31; recognised = true; controls = controls 0 5 }

-- one part changed, the others as they were; an exit sets root mode and recognition off
abbrev pub part_rows : List Bool
part_rows =
    has (with_guest in_guest false) false 0x52 0x31 false 5 ∷ has (with_guest in_root true) true 0x52 0x31 true 5 ∷
    has (with_rvi in_guest 0x71) true 0x71 0x31 false 5 ∷ has (with_rvi in_root 0x71) false 0x71 0x31 true 5 ∷
    has (with_svi in_guest 0x71) true 0x52 0x71 false 5 ∷ has (with_svi in_root 0x71) false 0x52 0x71 true 5 ∷
    has (with_recognised in_guest true) true 0x52 0x31 true 5 ∷ has (with_recognised in_root false) false 0x52 0x31 false 5 ∷
    has (with_controls in_guest (controls 0 7)) true 0x52 0x31 false 7 ∷ has (with_controls in_root (controls 0 7)) false 0x52 0x31 true 7 ∷
    has (outside in_guest) false 0x52 0x31 false 5 ∷ has (outside in_root) false 0x52 0x31 false 5 ∷ []

-- a test at every number below n: passed at each, failed at the first, failed at the last, of none
abbrev pub every_rows : List Bool
every_rows =
    all_below 3 (λ n. ltb n 3) ∷ not (all_below 3 (λ n. ltb 0 n)) ∷ not (all_below 3 (λ n. ltb n 2)) ∷ all_below 0 (λ n. ltb n 0) ∷ []

abbrev pub control_rows : List Bool
control_rows = bit_rows ++ flag_rows ++ eoi_rows ++ fresh_rows ++ part_rows ++ every_rows

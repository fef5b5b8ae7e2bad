-- Document 01, "Entry and request", with E1 and E2 of document 02: the checks, and when exit 43 follows at once.
use Rattle.std.specs.Prelude.{ℕ, Bool, not, ◌&&◌, ◌||◌, ltb, eqb, Option, Some, None, if◌then◌else◌}
use Rattle.processor.specs.Controls.{use_tpr_shadow, virtualize_apic_accesses, virtualize_x2apic_mode, apic_register_virtualization, virtual_delivery, external_interrupt_exiting, process_posted_interrupts, acknowledge_on_exit}
use Rattle.priorities.specs.Priorities.{class}
use Rattle.processor.specs.declared.controls.Controls.{Controls}

-- 1, TPR shadow off while any of controls 2, 3, 4 is on
abbrev pub check1 : Controls → Bool
check1 c = not (use_tpr_shadow c) && (virtualize_x2apic_mode c || apic_register_virtualization c || virtual_delivery c)

-- 2, controls 1 and 2 both on
abbrev pub check2 : Controls → Bool
check2 c = virtualize_apic_accesses c && virtualize_x2apic_mode c

-- 3, VID on and external-interrupt exiting off
abbrev pub check3 : Controls → Bool
check3 c = virtual_delivery c && not (external_interrupt_exiting c)

-- 4, shadow on, VID off, threshold above 15
abbrev pub check4 : Controls → Bool
check4 c = use_tpr_shadow c && not (virtual_delivery c) && ltb 15 c.threshold

-- 5, posting on without VID, without acknowledge, or with a notification vector above 255
abbrev pub check5 : Controls → Bool
check5 c = process_posted_interrupts c && (not (virtual_delivery c) || not (acknowledge_on_exit c) || ltb 255 c.notification)

-- E2, both cases: shadow on, VID off, and the threshold above VTPR's class
abbrev pub threshold_too_high : Controls → ℕ → Bool
threshold_too_high c vtpr = use_tpr_shadow c && not (virtual_delivery c) && ltb (class vtpr) c.threshold

-- 6, tested after the others: with APIC accesses not virtualised, a threshold above VTPR's class
abbrev pub check6 : Controls → ℕ → Bool
check6 c vtpr = not (virtualize_apic_accesses c) && threshold_too_high c vtpr

-- The first failing check, or 0 where none fails.
unfoldable pub failing_check : Controls → ℕ → ℕ
failing_check c vtpr =
    if check1 c then 1
    else if check2 c then 2
    else if check3 c then 3
    else if check4 c then 4
    else if check5 c then 5
    else if check6 c vtpr then 6
    else 0

-- a check by its number, none at 0
abbrev pub numbered : ℕ → Option ℕ
numbered check = if eqb check 0 then None else Some check

-- After the checks: only with APIC accesses virtualised does exit 43 follow.
abbrev pub exits_at_entry : Controls → ℕ → Bool
exits_at_entry c vtpr = virtualize_apic_accesses c && threshold_too_high c vtpr

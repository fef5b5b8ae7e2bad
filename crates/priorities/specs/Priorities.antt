-- Document 01, "The five procedures" and "Boundary": what each of them decides from numbers alone.
use Rattle.std.specs.Prelude.{ℕ, ◌/◌, ◌%◌, ◌*◌, Bool, not, ◌&&◌, leb, ltb, if◌then◌else◌}
use Rattle.processor.specs.Controls.{interrupt_window_exiting}
use Rattle.processor.specs.declared.controls.Controls.{Controls}

-- A vector's class is its bits 7:4; a vector is a byte.
abbrev pub class : ℕ → ℕ
class v = v / 16

-- a byte with its low four bits cleared
abbrev pub low_cleared : ℕ → ℕ
low_cleared v = 16 * class v

-- PPR virtualization: if VTPR's class ≥ SVI's class, VTPR's low byte, else SVI with its low four bits cleared.
unfoldable pub ppr : ℕ → ℕ → ℕ
ppr vtpr svi = if leb (class svi) (class vtpr) then vtpr else low_cleared svi

-- TPR virtualization with VID off: VTPR's class is below threshold bits 3:0.
abbrev pub below_threshold : Controls → ℕ → Bool
below_threshold c vtpr = ltb (class vtpr) (c.threshold % 16)

-- Evaluation: recognised exactly if control 6 is off and RVI's class > VPPR's class.
abbrev pub evaluated : Controls → ℕ → ℕ → Bool
evaluated c rvi vppr = not (interrupt_window_exiting c) && ltb (class vppr) (class rvi)

-- Boundary: open means IF on, neither blocking on, activity 0 or 1.
abbrev pub open_boundary : Bool → Bool → Bool → ℕ → Bool
open_boundary interrupts sti movSs activity = interrupts && not sti && not movSs && ltb activity 2

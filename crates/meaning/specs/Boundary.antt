-- Document 01, "Boundary".
use Rattle.std.specs.Prelude.{ℕ, Bool, false, ◌&&◌, ◌||◌, List, if◌then◌else◌}
use Rattle.processor.specs.Controls.{interrupt_window_exiting, with_rvi, with_svi, with_recognised}
use Rattle.priorities.specs.Priorities.{low_cleared, open_boundary}
use Rattle.processor.specs.declared.controls.Record.{Record}
use Rattle.processor.specs.Offsets.{vppr, visr, virr}
use Rattle.stores.specs.Stores.{set_word}
use Rattle.registers.specs.Vectors.{set_vector, clear_vector, highest}
use Rattle.meaning.specs.After.{After, exit, delivered, quiet}

-- v = RVI; set VISR v; VPPR = v with low four bits cleared; clear VIRR v;
unfoldable pub delivered_page : List ℕ → ℕ → List ℕ
delivered_page p v = clear_vector (set_word (set_vector p visr v) vppr (low_cleared v)) virr v

-- SVI = v; RVI = highest in VIRR; recognition off;
unfoldable pub delivered_record : List ℕ → Record → Record
delivered_record p r = with_recognised (with_rvi (with_svi r r.rvi) (highest (delivered_page p r.rvi) virr)) false

-- delivered v
unfoldable pub delivery : List ℕ → Record → After
delivery p r = delivered r.rvi (delivered_page p r.rvi) (delivered_record p r)

-- Open with control 6: exit 7. Else open and recognised: delivery. Else quiet.
unfoldable pub boundary_at : Bool → List ℕ → Record → After
boundary_at isOpen p r =
    if isOpen && interrupt_window_exiting r.controls then exit 7 0 p r
    else if isOpen && r.recognised then delivery p r
    else quiet p r

-- a boundary, by the processor's flags and activity
unfoldable pub boundary : List ℕ → Record → Bool → Bool → Bool → ℕ → After
boundary p r interrupts sti movSs activity = boundary_at (open_boundary interrupts sti movSs activity) p r

-- A boundary can do something only where it is open, and control 6 is on or an interrupt is recognised.
abbrev pub matters : Record → Bool → Bool → Bool → ℕ → Bool
matters r interrupts sti movSs activity =
    open_boundary interrupts sti movSs activity && (interrupt_window_exiting r.controls || r.recognised)

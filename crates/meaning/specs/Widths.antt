-- The widths at which the record and the controls are held.
use Rattle.std.specs.Prelude.{◌^◌, ◌<◌, ◌≡◌}
use Rattle.processor.specs.declared.controls.Controls.{Controls}
use Rattle.processor.specs.declared.controls.Record.{Record}
use Rattle.events.specs.declared.event.Event.TheVariants.{Entry}
use Rattle.meaning.specs.Input.{Input, given}

pub record ControlsFit (c : Controls) : Type 0 where
  pub flags : c.flags < 2 ^ 32
  pub threshold : c.threshold < 2 ^ 32
  pub notification : c.notification < 2 ^ 16
  pub eoi₀ : c.eoi_exit_0 < 2 ^ 64
  pub eoi₁ : c.eoi_exit_1 < 2 ^ 64
  pub eoi₂ : c.eoi_exit_2 < 2 ^ 64
  pub eoi₃ : c.eoi_exit_3 < 2 ^ 64

-- RVI and SVI are one byte each
pub record ByteRecord (r : Record) : Type 0 where
  pub rvi : r.rvi < 256
  pub svi : r.svi < 256

pub record RecordFits (r : Record) : Type 0 where
  pub vectors : ByteRecord r
  pub controls : ControlsFit r.controls

-- an entry's controls fit; whatever else an input stores in the record is a byte by its own bounds
abbrev pub InputFits : Input → Type 0
InputFits i = (c : Controls) → i ≡ given (Entry c) → ControlsFit c

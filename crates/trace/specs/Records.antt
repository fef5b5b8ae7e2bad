-- Document 02, E5: what a body says, its fields in document 01's order.
use Rattle.std.specs.Prelude.{ℕ, Bool, List, eqb, if◌then◌else◌}
use Rattle.processor.specs.Access.{access, between}
use Rattle.processor.specs.declared.access.MemoryAccess.{MemoryAccess}
use Rattle.processor.specs.Logic.{bit}
use Rattle.processor.specs.declared.controls.Controls.{Controls}
use Rattle.events.specs.declared.event.Event.{Event}
use Rattle.events.specs.declared.event.Event.TheVariants.{Entry, Request, MemoryRead, MemoryWrite, ToCr8, FromCr8, Rdmsr, Wrmsr, Boundary}
use Rattle.page.specs.Page.{byte_at}
use Rattle.trace.specs.Fields.{two_at, four_at, eight_at}
use Rattle.trace.specs.Format.{kind_of, control_flags, memory_flags, boundary_flags}

-- 0 controls for later entries: 16-bit flags, threshold, four words. E1's stay off.
abbrev pub is_controls : List ℕ → Bool
is_controls b = eqb (kind_of b) 0

unfoldable pub controls_of : List ℕ → Controls
controls_of b =
    record {
      flags = control_flags b;
      threshold = four_at b 3;
      notification = 0;
      eoi_exit_0 = eight_at b 7;
      eoi_exit_1 = eight_at b 15;
      eoi_exit_2 = eight_at b 23;
      eoi_exit_3 = eight_at b 31;
    }

-- a memory access: offset 2 bytes, size, flags bit 0 fetch, 1 already-virtualised
abbrev pub access_of : List ℕ → MemoryAccess
access_of b = access (two_at b 1) (byte_at b 3) (bit (memory_flags b) 0) (bit (memory_flags b) 1)

-- 2 memory read: its access
unfoldable pub memory_read_of : List ℕ → Event
memory_read_of b = MemoryRead (access_of b)

-- 3 memory write: plus 8-byte value
unfoldable pub memory_write_of : List ℕ → Event
memory_write_of b = MemoryWrite (access_of b) (eight_at b 5)

-- 4 to CR8: value, register
unfoldable pub to_cr8_of : List ℕ → Event
to_cr8_of b = ToCr8 (byte_at b 1) (byte_at b 2)

-- 7 WRMSR: index, value
unfoldable pub wrmsr_of : List ℕ → Event
wrmsr_of b = Wrmsr (four_at b 1) (eight_at b 5)

-- 8 boundary: flags bit 0 IF, 1 STI, 2 MOV SS; activity
unfoldable pub boundary_of : List ℕ → Event
boundary_of b = Boundary (between (bit (boundary_flags b) 0) (bit (boundary_flags b) 1) (bit (boundary_flags b) 2) (byte_at b 2))

-- The event of each kind but 0: 1 entry, with the controls for later entries; 5 from CR8: register; 6 RDMSR: index; 9 request: vector.
unfoldable pub event_of : Controls → List ℕ → Event
event_of controls b =
    if eqb (kind_of b) 1 then Entry controls
    else if eqb (kind_of b) 2 then memory_read_of b
    else if eqb (kind_of b) 3 then memory_write_of b
    else if eqb (kind_of b) 4 then to_cr8_of b
    else if eqb (kind_of b) 5 then FromCr8 (byte_at b 1)
    else if eqb (kind_of b) 6 then Rdmsr (four_at b 1)
    else if eqb (kind_of b) 7 then wrmsr_of b
    else if eqb (kind_of b) 8 then boundary_of b
    else Request (byte_at b 1)

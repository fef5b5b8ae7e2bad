-- One event as bytes: exactly 48, little-endian. A field that the kind does not name is ignored.
use Rattle.std.specs.Prelude.{ℕ, ◌%◌, Bool, true, false, ◌&&◌, List, eqb, ltb, if◌then◌else◌}
use Rattle.processor.specs.Access.{access, between}
use Rattle.processor.specs.declared.access.MemoryAccess.{MemoryAccess}
use Rattle.processor.specs.Logic.{bit}
use Rattle.events.specs.declared.event.Event.{Event}
use Rattle.events.specs.declared.event.Event.TheVariants.{Entry, Request, MemoryRead, MemoryWrite, ToCr8, FromCr8, Rdmsr, Wrmsr, Boundary}
use Rattle.page.specs.Page.{byte_at, word_within, long_within}
use Rattle.layout.specs.RecordBytes.{controls_of, reserved_zero}

-- kind u8 at 0, size u8 at 1, flags u8 at 2, detail u8 at 3, number u32 at 4, value u64 at 8
abbrev pub kind_of : List ℕ → ℕ
kind_of e = byte_at e 0

abbrev pub size_of : List ℕ → ℕ
size_of e = byte_at e 1

abbrev pub flags_of : List ℕ → ℕ
flags_of e = byte_at e 2

abbrev pub detail_of : List ℕ → ℕ
detail_of e = byte_at e 3

abbrev pub number_of : List ℕ → ℕ
number_of e = word_within e 4

abbrev pub value_of : List ℕ → ℕ
value_of e = long_within e 8

-- memory: two flags bits, and an offset that fits 16 bits
unfoldable pub memory_readable : List ℕ → Bool
memory_readable e = ltb (flags_of e) 4 && ltb (number_of e) 0x1_0000

-- Kinds 1 to 9, and every field such that the model's event can hold it: an entry's reserved bytes are 0, a CR8 value fits 8 bits, a
-- boundary has three flags bits, a requested vector fits 16 bits.
unfoldable pub event_readable : List ℕ → Bool
event_readable e =
    if eqb (kind_of e) 1 then reserved_zero e
    else if eqb (kind_of e) 2 then memory_readable e
    else if eqb (kind_of e) 3 then memory_readable e
    else if eqb (kind_of e) 4 then ltb (value_of e) 0x100
    else if eqb (kind_of e) 5 then true
    else if eqb (kind_of e) 6 then true
    else if eqb (kind_of e) 7 then true
    else if eqb (kind_of e) 8 then ltb (flags_of e) 8
    else if eqb (kind_of e) 9 then ltb (number_of e) 0x1_0000
    else false

-- memory: number is the offset; flags bit 0 fetch, bit 1 already virtualised
abbrev pub access_of : List ℕ → MemoryAccess
access_of e = access (number_of e % 0x1_0000) (size_of e) (bit (flags_of e) 0) (bit (flags_of e) 1)

unfoldable pub memory_read_of : List ℕ → Event
memory_read_of e = MemoryRead (access_of e)

unfoldable pub memory_write_of : List ℕ → Event
memory_write_of e = MemoryWrite (access_of e) (value_of e)

-- CR8: detail is the register
unfoldable pub to_cr8_of : List ℕ → Event
to_cr8_of e = ToCr8 (value_of e % 0x100) (detail_of e)

-- MSR: number is the index
unfoldable pub wrmsr_of : List ℕ → Event
wrmsr_of e = Wrmsr (number_of e) (value_of e)

-- boundary: flags bit 0 IF, bit 1 STI, bit 2 MOV SS; detail is the activity
unfoldable pub boundary_of : List ℕ → Event
boundary_of e = Boundary (between (bit (flags_of e) 0) (bit (flags_of e) 1) (bit (flags_of e) 2) (detail_of e))

-- request: number is the vector
unfoldable pub request_of : List ℕ → Event
request_of e = Request (number_of e % 0x1_0000)

-- 1 entry, 2 memory read, 3 memory write, 4 to CR8, 5 from CR8, 6 RDMSR, 7 WRMSR, 8 boundary, 9 request
unfoldable pub event_of : List ℕ → Event
event_of e =
    if eqb (kind_of e) 1 then Entry (controls_of e)
    else if eqb (kind_of e) 2 then memory_read_of e
    else if eqb (kind_of e) 3 then memory_write_of e
    else if eqb (kind_of e) 4 then to_cr8_of e
    else if eqb (kind_of e) 5 then FromCr8 (detail_of e)
    else if eqb (kind_of e) 6 then Rdmsr (number_of e)
    else if eqb (kind_of e) 7 then wrmsr_of e
    else if eqb (kind_of e) 8 then boundary_of e
    else request_of e

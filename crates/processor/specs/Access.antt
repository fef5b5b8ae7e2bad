-- Document 01, "Events": the fields of a memory access and of a boundary, put together.
use Rattle.std.specs.Prelude.{ℕ, Bool}
use Rattle.processor.specs.declared.access.MemoryAccess.{MemoryAccess}
use Rattle.processor.specs.declared.boundary.Between.{Between}

-- a memory access: offset, size, fetch flag, already-virtualised flag
abbrev pub access : ℕ → ℕ → Bool → Bool → MemoryAccess
access offset size fetch already = record { offset = offset; size = size; fetch = fetch; already = already }

-- a boundary: IF, blocking by STI, blocking by MOV SS, activity
abbrev pub between : Bool → Bool → Bool → ℕ → Between
between interrupts sti movSs activity = record { interrupts = interrupts; sti = sti; mov_ss = movSs; activity = activity }

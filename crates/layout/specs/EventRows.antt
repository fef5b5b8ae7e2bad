-- Events as bytes, one of each kind and one of each way to be unreadable, as rows: 48 bytes, and what is read from them.
use Rattle.std.specs.Prelude.{ℕ, ◌≡◌, true, false, List, [], ◌∷◌, ◌++◌, replicate}
use Rattle.events.specs.declared.event.Event.{Event}
use Rattle.events.specs.declared.event.Event.TheVariants.{Entry, Request, MemoryRead, MemoryWrite, ToCr8, FromCr8, Rdmsr, Wrmsr, Boundary}
use Rattle.processor.specs.Access.{access, between}
use Rattle.layout.specs.EventBytes.{event_readable, event_of}

-- kind, size, flags and detail, the four bytes of the number, the eight of the value, and 32 bytes that no kind but an entry names
abbrev pub event_bytes : List ℕ → List ℕ → List ℕ → List ℕ
event_bytes head number value = head ++ number ++ value ++ replicate 32 0xa5

abbrev four : ℕ → ℕ → ℕ → ℕ → List ℕ
four a b c d = a ∷ b ∷ c ∷ d ∷ []

abbrev none : List ℕ
none = replicate 8 0

abbrev pub Reads : List ℕ → Event → Type 0
Reads e event = (event_readable e ≡ true) × (event_of e ≡ event)

abbrev pub Unread : List ℕ → Type 0
Unread e = event_readable e ≡ false

-- an entry's controls, at the places of the record's
abbrev pub entry_bytes : List ℕ → List ℕ
entry_bytes notification =
    four 1 0 0 0 ++ four 5 0 0 0 ++ four 0x33 0x06 0 0 ++ notification ++ (1 ∷ replicate 7 0) ++ (2 ∷ replicate 7 0) ++ (3 ∷ replicate 7 0) ++
    (4 ∷ replicate 7 0)

pub record EventRows : Type 0 where
  pub entry : Reads (entry_bytes (four 0xf2 0 0 0)) (Entry (record { flags = 0x633; threshold = 5; notification = 0xf2; eoi_exit_0 = 1; eoi_exit_1 = 2; eoi_exit_2 = 3; eoi_exit_3 = 4 }))
  -- bit 0 of a memory access's flags is fetch, bit 1 already virtualised
  pub memory_read : Reads (event_bytes (four 2 4 1 0) (four 0x00 0x03 0 0) none) (MemoryRead (access 0x300 4 true false))
  pub memory_write : Reads (event_bytes (four 3 2 2 0) (four 0xf0 0xff 0 0) (0xcd ∷ 0xab ∷ replicate 6 0)) (MemoryWrite (access 0xfff0 2 false true) 0xabcd)
  pub to_cr8 : Reads (event_bytes (four 4 0 0 9) (four 0 0 0 0) (0xff ∷ replicate 7 0)) (ToCr8 0xff 9)
  pub from_cr8 : Reads (event_bytes (four 5 0 0 10) (four 0 0 0 0) none) (FromCr8 10)
  pub rdmsr : Reads (event_bytes (four 6 0 0 0) (four 0x08 0x08 0 0xc0) none) (Rdmsr 0xc000_0808)
  pub wrmsr : Reads (event_bytes (four 7 0 0 0) (four 0x3f 0x08 0 0) (0x71 ∷ replicate 6 0 ++ (1 ∷ []))) (Wrmsr 0x83f 0x0100_0000_0000_0071)
  -- bit 0 of a boundary's flags is IF, bit 1 blocking by STI, bit 2 by MOV SS
  pub boundary_open : Reads (event_bytes (four 8 0 1 0) (four 0 0 0 0) none) (Boundary (between true false false 0))
  pub boundary_sti : Reads (event_bytes (four 8 0 2 1) (four 0 0 0 0) none) (Boundary (between false true false 1))
  pub boundary_mov_ss : Reads (event_bytes (four 8 0 4 3) (four 0 0 0 0) none) (Boundary (between false false true 3))
  pub request : Reads (event_bytes (four 9 0 0 0) (four 0xff 0xff 0 0) none) (Request 0xffff)
  -- kinds below 1 and above 9; the bytes above an entry's notification vector; flags and numbers that an event cannot hold
  pub kind0 : Unread (event_bytes (four 0 0 0 0) (four 0 0 0 0) none)
  pub kind10 : Unread (event_bytes (four 10 0 0 0) (four 0 0 0 0) none)
  pub reserved : Unread (entry_bytes (four 0xf2 0 1 0))
  pub memory_flag : Unread (event_bytes (four 2 4 4 0) (four 0 0 0 0) none)
  pub memory_offset : Unread (event_bytes (four 3 4 0 0) (four 0 0 1 0) none)
  pub cr8_value : Unread (event_bytes (four 4 0 0 0) (four 0 0 0 0) (0 ∷ 1 ∷ replicate 6 0))
  pub boundary_flag : Unread (event_bytes (four 8 0 8 0) (four 0 0 0 0) none)
  pub requested : Unread (event_bytes (four 9 0 0 0) (four 0 0 1 0) none)

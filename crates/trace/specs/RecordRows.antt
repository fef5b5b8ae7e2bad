-- Bodies, one of each kind and one of each way to be unreadable, as rows: the bytes, and what is read from them.
use Rattle.std.specs.Prelude.{ℕ, ◌≡◌, true, false, List, [], ◌∷◌, ◌++◌, replicate}
use Rattle.processor.specs.Access.{access, between}
use Rattle.processor.specs.Controls.{no_controls}
use Rattle.events.specs.declared.event.Event.{Event}
use Rattle.events.specs.declared.event.Event.TheVariants.{Entry, Request, MemoryRead, MemoryWrite, ToCr8, FromCr8, Rdmsr, Wrmsr, Boundary}
use Rattle.trace.specs.Format.{body_readable, record_readable, body_at, next_place}
use Rattle.trace.specs.Records.{controls_of, event_of}

-- eight bytes that are zero but for the last two
abbrev long : ℕ → ℕ → List ℕ
long high low = replicate 6 0 ++ (high ∷ low ∷ [])

-- a body of kind 0: flags in two bytes, threshold 5, EOI-exit words 1 to 4
abbrev pub controls_body : ℕ → ℕ → List ℕ
controls_body high low = 0 ∷ high ∷ low ∷ 0 ∷ 0 ∷ 0 ∷ 5 ∷ (long 0 1 ++ long 0 2 ++ long 0 3 ++ long 0 4)

abbrev pub Reads : List ℕ → Event → Type 0
Reads b event = (body_readable b ≡ true) × (event_of no_controls b ≡ event)

abbrev pub Unread : List ℕ → Type 0
Unread b = body_readable b ≡ false

-- a whole record at place 1: its body, and where the next begins
abbrev pub Stands : List ℕ → List ℕ → ℕ → Type 0
Stands t b next = (record_readable t 1 ≡ true) × (body_at t 1 ≡ b) × (next_place t 1 ≡ next)

pub record RecordRows : Type 0 where
  pub controls : (body_readable (controls_body 0x01 0x33) ≡ true) × (controls_of (controls_body 0x01 0x33) ≡ record { flags = 0x133; threshold = 5; notification = 0; eoi_exit_0 = 1; eoi_exit_1 = 2; eoi_exit_2 = 3; eoi_exit_3 = 4 })
  pub entry : Reads (1 ∷ []) (Entry no_controls)
  -- flags bit 0 is fetch, bit 1 already virtualised
  pub memory_read : Reads (2 ∷ 0x03 ∷ 0x00 ∷ 4 ∷ 1 ∷ []) (MemoryRead (access 0x300 4 true false))
  pub memory_write : Reads (3 ∷ 0xff ∷ 0xf0 ∷ 2 ∷ 2 ∷ long 0xab 0xcd) (MemoryWrite (access 0xfff0 2 false true) 0xabcd)
  pub write_with_fetch : Reads (3 ∷ 0 ∷ 0x80 ∷ 1 ∷ 1 ∷ long 0 0) (MemoryWrite (access 0x80 1 true false) 0)
  pub to_cr8 : Reads (4 ∷ 0xff ∷ 9 ∷ []) (ToCr8 0xff 9)
  pub from_cr8 : Reads (5 ∷ 10 ∷ []) (FromCr8 10)
  pub rdmsr : Reads (6 ∷ 0xc0 ∷ 0 ∷ 0x08 ∷ 0x09 ∷ []) (Rdmsr 0xc000_0809)
  pub wrmsr : Reads (7 ∷ 0 ∷ 0 ∷ 0x08 ∷ 0x3f ∷ 1 ∷ (replicate 6 0 ++ (0x71 ∷ []))) (Wrmsr 0x83f 0x0100_0000_0000_0071)
  -- flags bit 0 is IF, bit 1 blocking by STI, bit 2 by MOV SS
  pub boundary_open : Reads (8 ∷ 1 ∷ 0 ∷ []) (Boundary (between true false false 0))
  pub boundary_sti : Reads (8 ∷ 2 ∷ 1 ∷ []) (Boundary (between false true false 1))
  pub boundary_mov_ss : Reads (8 ∷ 4 ∷ 3 ∷ []) (Boundary (between false false true 3))
  pub request : Reads (9 ∷ 0xff ∷ []) (Request 0xff)
  -- no kind, an unknown one, a length that isn't its kind's, an unused flag bit
  pub no_kind : Unread []
  pub kind10 : Unread (10 ∷ [])
  pub shorter : Unread (9 ∷ [])
  pub longer : Unread (1 ∷ 0 ∷ [])
  pub controls_bit9 : Unread (controls_body 0x02 0)
  pub controls_bit15 : Unread (controls_body 0x80 0)
  pub read_bit2 : Unread (2 ∷ 0 ∷ 0 ∷ 4 ∷ 4 ∷ [])
  pub write_bit7 : Unread (3 ∷ 0 ∷ 0 ∷ 4 ∷ 0x80 ∷ long 0 0)
  pub boundary_bit3 : Unread (8 ∷ 8 ∷ 0 ∷ [])
  -- a record behind the version byte: whole, with another after it, and cut short in its body and in its length
  pub whole : Stands (1 ∷ 0 ∷ 2 ∷ 9 ∷ 0x60 ∷ []) (9 ∷ 0x60 ∷ []) 5
  pub followed : Stands (1 ∷ 0 ∷ 2 ∷ 9 ∷ 0x60 ∷ 0 ∷ 1 ∷ 1 ∷ []) (9 ∷ 0x60 ∷ []) 5
  pub cut_body : record_readable (1 ∷ 0 ∷ 2 ∷ 9 ∷ []) 1 ≡ false
  pub cut_length : record_readable (1 ∷ 0 ∷ []) 1 ≡ false

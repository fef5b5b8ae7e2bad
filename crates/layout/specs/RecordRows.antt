-- Events and records whose bytes are all different, and the smallest and largest number that each place holds, as rows: 48 bytes, and what
-- is read from them.
use Rattle.std.specs.Prelude.{ℕ, ◌≡◌, true, false, List, [], ◌∷◌, ◌++◌, replicate}
use Rattle.events.specs.declared.event.Event.TheVariants.{Entry, Request, MemoryRead, MemoryWrite, ToCr8, FromCr8, Rdmsr, Wrmsr, Boundary}
use Rattle.processor.specs.Access.{access, between}
use Rattle.processor.specs.declared.controls.Controls.{Controls}
use Rattle.processor.specs.declared.controls.Record.{Record}
use Rattle.layout.specs.RecordBytes.{record_readable, record_of}
use Rattle.layout.specs.EventRows.{event_bytes, Reads, Unread, entry_bytes}

abbrev four_bytes : ℕ → ℕ → ℕ → ℕ → List ℕ
four_bytes a b c d = a ∷ b ∷ c ∷ d ∷ []

abbrev no_value : List ℕ
no_value = replicate 8 0

-- an event whose bytes are all different: size 11, detail 13, the number's bytes 14 on, the value's bytes 18 on
abbrev pub different : ℕ → ℕ → ℕ → ℕ → List ℕ
different kind flags number₂ number₃ = event_bytes (four_bytes kind 0x11 flags 0x13) (four_bytes 0x14 0x15 number₂ number₃) (0x18 ∷ 0x19 ∷ 0x1a ∷ 0x1b ∷ 0x1c ∷ 0x1d ∷ 0x1e ∷ 0x1f ∷ [])

-- the controls' bytes, all different: threshold from byte 4 on, flags, notification vector, two bytes that must be 0, four words
abbrev pub control_bytes : List ℕ → List ℕ
control_bytes reserved =
    (0x14 ∷ 0x15 ∷ 0x16 ∷ 0x17 ∷ 0x18 ∷ 0x19 ∷ 0x1a ∷ 0x1b ∷ 0x1c ∷ 0x1d ∷ []) ++ reserved ++
    (0x20 ∷ 0x21 ∷ 0x22 ∷ 0x23 ∷ 0x24 ∷ 0x25 ∷ 0x26 ∷ 0x27 ∷ 0x28 ∷ 0x29 ∷ 0x2a ∷ 0x2b ∷ 0x2c ∷ 0x2d ∷ 0x2e ∷ 0x2f ∷ []) ++
    (0x30 ∷ 0x31 ∷ 0x32 ∷ 0x33 ∷ 0x34 ∷ 0x35 ∷ 0x36 ∷ 0x37 ∷ 0x38 ∷ 0x39 ∷ 0x3a ∷ 0x3b ∷ 0x3c ∷ 0x3d ∷ 0x3e ∷ 0x3f ∷ [])

abbrev pub different_controls : Controls
different_controls =
    record {
      flags = 0x1b1a_1918;
      threshold = 0x1716_1514;
      notification = 0x1d1c;
      eoi_exit_0 = 0x2726_2524_2322_2120;
      eoi_exit_1 = 0x2f2e_2d2c_2b2a_2928;
      eoi_exit_2 = 0x3736_3534_3332_3130;
      eoi_exit_3 = 0x3f3e_3d3c_3b3a_3938;
    }

-- a record's bytes: mode, RVI 52, SVI 31, recognised, the controls
abbrev pub record_with : ℕ → ℕ → List ℕ → List ℕ
record_with mode recognised reserved = four_bytes mode 0x52 0x31 recognised ++ control_bytes reserved

abbrev pub none₂ : List ℕ
none₂ = 0 ∷ 0 ∷ []

abbrev pub ReadsRecord : List ℕ → Record → Type 0
ReadsRecord b r = (record_readable b ≡ true) × (record_of b ≡ r)

abbrev pub UnreadRecord : List ℕ → Type 0
UnreadRecord b = record_readable b ≡ false

pub record RecordRows : Type 0 where
  -- each kind with every byte different: a field that the kind does not name is ignored
  pub entry_of : Reads (four_bytes 1 0xf1 0xf2 0xf3 ++ control_bytes none₂) (Entry different_controls)
  pub read_of : Reads (different 2 2 0 0) (MemoryRead (access 0x1514 0x11 false true))
  pub read_of_none : Reads (different 2 0 0 0) (MemoryRead (access 0x1514 0x11 false false))
  pub read_of_both : Reads (different 2 3 0 0) (MemoryRead (access 0x1514 0x11 true true))
  pub write_of : Reads (different 3 1 0 0) (MemoryWrite (access 0x1514 0x11 true false) 0x1f1e_1d1c_1b1a_1918)
  pub write_of_none : Reads (different 3 0 0 0) (MemoryWrite (access 0x1514 0x11 false false) 0x1f1e_1d1c_1b1a_1918)
  pub write_of_both : Reads (different 3 3 0 0) (MemoryWrite (access 0x1514 0x11 true true) 0x1f1e_1d1c_1b1a_1918)
  pub to_of : Reads (event_bytes (four_bytes 4 0x11 0x12 0x13) (four_bytes 0x14 0x15 0x16 0x17) (0x18 ∷ replicate 7 0)) (ToCr8 0x18 0x13)
  pub from_of : Reads (different 5 0xff 0x16 0x17) (FromCr8 0x13)
  pub rdmsr_of : Reads (different 6 0xff 0x16 0x17) (Rdmsr 0x1716_1514)
  pub wrmsr_of : Reads (different 7 0xff 0x16 0x17) (Wrmsr 0x1716_1514 0x1f1e_1d1c_1b1a_1918)
  pub boundary_of : Reads (different 8 5 0x16 0x17) (Boundary (between true false true 0x13))
  pub boundary_of_none : Reads (different 8 0 0x16 0x17) (Boundary (between false false false 0x13))
  pub boundary_of_all : Reads (different 8 7 0x16 0x17) (Boundary (between true true true 0x13))
  pub request_of : Reads (different 9 0xff 0 0) (Request 0x1514)
  -- the smallest that cannot be held, and the largest that can, at each place
  pub read_flags : Unread (different 2 4 0 0)
  pub write_flags : Unread (different 3 4 0 0)
  pub write_flags_above : Unread (different 3 0x80 0 0)
  pub read_offset : Unread (different 2 0 1 0)
  pub read_offset_above : Unread (different 2 0 0 1)
  pub read_offset_largest : Reads (event_bytes (four_bytes 2 4 0 0) (four_bytes 0xff 0xff 0 0) no_value) (MemoryRead (access 0xffff 4 false false))
  pub write_offset_largest : Reads (event_bytes (four_bytes 3 4 0 0) (four_bytes 0xff 0xff 0 0) no_value) (MemoryWrite (access 0xffff 4 false false) 0)
  pub write_offset_above : Unread (different 3 0 0 0x80)
  pub to_value : Unread (different 4 0 0 0)
  pub to_value_above : Unread (event_bytes (four_bytes 4 0 0 9) (four_bytes 0 0 0 0) (replicate 7 0 ++ (1 ∷ [])))
  pub boundary_flags_above : Unread (different 8 0x85 0 0)
  pub request_above : Unread (different 9 0 0 1)
  pub kind11 : Unread (different 11 0 0 0)
  pub kind255 : Unread (different 0xff 0 0 0)
  pub reserved_exactly : Unread (entry_bytes (four_bytes 0 0 1 0))
  pub reserved_above : Unread (four_bytes 1 0 0 0 ++ control_bytes (0 ∷ 1 ∷ []))
  pub notification_largest : Reads (entry_bytes (four_bytes 0xff 0xff 0 0)) (Entry (record { flags = 0x633; threshold = 5; notification = 0xffff; eoi_exit_0 = 1; eoi_exit_1 = 2; eoi_exit_2 = 3; eoi_exit_3 = 4 }))
  -- a record: mode and recognised are 0 or 1, bytes 14 and 15 are 0
  pub guest_record : ReadsRecord (record_with 1 0 none₂) (record { guest = true; rvi = 0x52; svi = 0x31; recognised = false; controls = different_controls })
  pub root_record : ReadsRecord (record_with 0 1 none₂) (record { guest = false; rvi = 0x52; svi = 0x31; recognised = true; controls = different_controls })
  pub record_mode2 : UnreadRecord (record_with 2 0 none₂)
  pub record_mode255 : UnreadRecord (record_with 0xff 1 none₂)
  pub record_recognised2 : UnreadRecord (record_with 1 2 none₂)
  pub record_recognised255 : UnreadRecord (record_with 0 0xff none₂)
  pub record_byte14 : UnreadRecord (record_with 1 1 (1 ∷ 0 ∷ []))
  pub record_byte15 : UnreadRecord (record_with 0 0 (0 ∷ 1 ∷ []))

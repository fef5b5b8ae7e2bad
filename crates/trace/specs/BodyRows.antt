-- Bodies whose bytes are all different, and records cut short, too long, or behind another, as rows: the bytes, and what is read from them.
use Rattle.std.specs.Prelude.{ℕ, ◌≡◌, true, false, List, [], ◌∷◌, ◌++◌, replicate}
use Rattle.events.specs.declared.event.Event.TheVariants.{Entry, MemoryRead, MemoryWrite, ToCr8, FromCr8, Rdmsr, Wrmsr, Boundary}
use Rattle.trace.specs.Format.{body_readable, record_readable, body_at, next_place}
use Rattle.trace.specs.Records.{controls_of, event_of}
use Rattle.processor.specs.Access.{access, between}
use Rattle.trace.specs.RecordRows.{Reads}

-- eight different bytes
abbrev eight : List ℕ
eight = 0x9a ∷ 0xab ∷ 0xbc ∷ 0xcd ∷ 0xde ∷ 0xef ∷ 0xf0 ∷ 0x01 ∷ []

-- a body of kind 0 with every byte different
abbrev pub different_body : ℕ → ℕ → List ℕ
different_body high low =
    0 ∷ high ∷ low ∷ 0x14 ∷ 0x15 ∷ 0x16 ∷ 0x17 ∷
    (0x20 ∷ 0x21 ∷ 0x22 ∷ 0x23 ∷ 0x24 ∷ 0x25 ∷ 0x26 ∷ 0x27 ∷ []) ++ (0x28 ∷ 0x29 ∷ 0x2a ∷ 0x2b ∷ 0x2c ∷ 0x2d ∷ 0x2e ∷ 0x2f ∷ []) ++
    (0x30 ∷ 0x31 ∷ 0x32 ∷ 0x33 ∷ 0x34 ∷ 0x35 ∷ 0x36 ∷ 0x37 ∷ []) ++ (0x38 ∷ 0x39 ∷ 0x3a ∷ 0x3b ∷ 0x3c ∷ 0x3d ∷ 0x3e ∷ 0x3f ∷ [])

pub record BodyRows : Type 0 where
  -- every kind with every byte different
  pub controls_of_all : (body_readable (different_body 0x01 0xff) ≡ true) × (controls_of (different_body 0x01 0xff) ≡ record { flags = 0x1ff; threshold = 0x1415_1617; notification = 0; eoi_exit_0 = 0x2021_2223_2425_2627; eoi_exit_1 = 0x2829_2a2b_2c2d_2e2f; eoi_exit_2 = 0x3031_3233_3435_3637; eoi_exit_3 = 0x3839_3a3b_3c3d_3e3f })
  pub read_of : Reads (2 ∷ 0x12 ∷ 0x34 ∷ 0x56 ∷ 2 ∷ []) (MemoryRead (access 0x1234 0x56 false true))
  pub read_of_both : Reads (2 ∷ 0x12 ∷ 0x34 ∷ 0x56 ∷ 3 ∷ []) (MemoryRead (access 0x1234 0x56 true true))
  pub write_of : Reads (3 ∷ 0x12 ∷ 0x34 ∷ 0x56 ∷ 1 ∷ eight) (MemoryWrite (access 0x1234 0x56 true false) 0x9aab_bccd_deef_f001)
  pub write_of_both : Reads (3 ∷ 0x12 ∷ 0x34 ∷ 0x56 ∷ 3 ∷ eight) (MemoryWrite (access 0x1234 0x56 true true) 0x9aab_bccd_deef_f001)
  pub to_of : Reads (4 ∷ 0x12 ∷ 0x34 ∷ []) (ToCr8 0x12 0x34)
  pub from_of : Reads (5 ∷ 0xff ∷ []) (FromCr8 0xff)
  pub rdmsr_of : Reads (6 ∷ 0x12 ∷ 0x34 ∷ 0x56 ∷ 0x78 ∷ []) (Rdmsr 0x1234_5678)
  pub wrmsr_of : Reads (7 ∷ 0x12 ∷ 0x34 ∷ 0x56 ∷ 0x78 ∷ eight) (Wrmsr 0x1234_5678 0x9aab_bccd_deef_f001)
  pub boundary_of : Reads (8 ∷ 5 ∷ 0xff ∷ []) (Boundary (between true false true 0xff))
  pub boundary_of_all : Reads (8 ∷ 7 ∷ 2 ∷ []) (Boundary (between true true true 2))
  -- an entry takes the controls for later entries
  pub entry_with : event_of (record { flags = 1; threshold = 2; notification = 3; eoi_exit_0 = 4; eoi_exit_1 = 5; eoi_exit_2 = 6; eoi_exit_3 = 7 }) (1 ∷ []) ≡ Entry (record { flags = 1; threshold = 2; notification = 3; eoi_exit_0 = 4; eoi_exit_1 = 5; eoi_exit_2 = 6; eoi_exit_3 = 7 })
  -- cut short by a byte, though what is there is a record by itself; a length whose high byte isn't 0
  pub cut_whole : record_readable (1 ∷ 0 ∷ 3 ∷ 9 ∷ 0x60 ∷ []) 1 ≡ false
  pub cut_high : record_readable (1 ∷ 1 ∷ 2 ∷ 9 ∷ 0x60 ∷ []) 1 ≡ false
  pub cut_none : body_at (1 ∷ 0 ∷ 3 ∷ 9 ∷ 0x60 ∷ []) 1 ≡ []
  pub cut_stays : next_place (1 ∷ 0 ∷ 3 ∷ 9 ∷ 0x60 ∷ []) 1 ≡ 1
  pub long_next : next_place (1 ∷ 1 ∷ 2 ∷ replicate 258 0xa5) 1 ≡ 261
  pub second : (record_readable (1 ∷ 0 ∷ 2 ∷ 9 ∷ 0x60 ∷ 0 ∷ 1 ∷ 1 ∷ []) 5 ≡ true) × (body_at (1 ∷ 0 ∷ 2 ∷ 9 ∷ 0x60 ∷ 0 ∷ 1 ∷ 1 ∷ []) 5 ≡ 1 ∷ []) × (next_place (1 ∷ 0 ∷ 2 ∷ 9 ∷ 0x60 ∷ 0 ∷ 1 ∷ 1 ∷ []) 5 ≡ 8)
  -- a whole record whose length isn't its kind's
  pub whole_longer : record_readable (1 ∷ 0 ∷ 3 ∷ 9 ∷ 0x60 ∷ 0 ∷ []) 1 ≡ false
  pub whole_empty : record_readable (1 ∷ 0 ∷ 0 ∷ []) 1 ≡ false
  -- a second record that is cut short, behind a whole one
  pub cut_second : record_readable (1 ∷ 0 ∷ 2 ∷ 9 ∷ 0x60 ∷ 0 ∷ 3 ∷ 9 ∷ 0x61 ∷ []) 5 ≡ false
  pub cut_second_none : body_at (1 ∷ 0 ∷ 2 ∷ 9 ∷ 0x60 ∷ 0 ∷ 3 ∷ 9 ∷ 0x61 ∷ []) 5 ≡ []
  pub cut_second_stays : next_place (1 ∷ 0 ∷ 2 ∷ 9 ∷ 0x60 ∷ 0 ∷ 3 ∷ 9 ∷ 0x61 ∷ []) 5 ≡ 5

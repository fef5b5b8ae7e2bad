-- The processor record as bytes: exactly 48, little-endian. A number that the bytes do not have whole is 0.
use Rattle.std.specs.Prelude.{ℕ, ◌%◌, Bool, ◌&&◌, List, eqb, ltb}
use Rattle.processor.specs.declared.controls.Controls.{Controls}
use Rattle.processor.specs.declared.controls.Record.{Record}
use Rattle.page.specs.Page.{byte_at, word_within, long_within}

-- threshold u32 at 4, flags u32 at 8, notification vector u16 at 12, the low half of the word there, EOI-exit words u64 at 16, 24, 32,
-- 40; an entry's event has them at the same places
unfoldable pub controls_of : List ℕ → Controls
controls_of b =
    record {
      flags = word_within b 8;
      threshold = word_within b 4;
      notification = word_within b 12 % 0x1_0000;
      eoi_exit_0 = long_within b 16;
      eoi_exit_1 = long_within b 24;
      eoi_exit_2 = long_within b 32;
      eoi_exit_3 = long_within b 40;
    }

-- bytes 14 and 15, the high half of the word at 12, are kept for what comes, and must be 0
abbrev pub reserved_zero : List ℕ → Bool
reserved_zero b = ltb (word_within b 12) 0x1_0000

-- mode (at 0) and recognised (at 3) are 0 or 1, and the reserved bytes are 0
abbrev pub record_readable : List ℕ → Bool
record_readable b = ltb (byte_at b 0) 2 && ltb (byte_at b 3) 2 && reserved_zero b

-- mode u8 at 0 (0 root, 1 guest), RVI u8 at 1, SVI u8 at 2, recognised u8 at 3
unfoldable pub record_of : List ℕ → Record
record_of b =
    record {
      guest = eqb (byte_at b 0) 1;
      rvi = byte_at b 1;
      svi = byte_at b 2;
      recognised = eqb (byte_at b 3) 1;
      controls = controls_of b;
    }

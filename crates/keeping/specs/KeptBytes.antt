-- What a call keeps of the processor record in its 48 bytes, at the places where `layout` reads it.
use Rattle.std.specs.Prelude.{ℕ, Bool, List, ltb, replicate, if◌then◌else◌}
use Rattle.processor.specs.declared.controls.Controls.{Controls}
use Rattle.processor.specs.declared.controls.Record.{Record}
use Rattle.stores.specs.Stores.{set_byte, set_half, set_word, set_long}

-- the bytes with the controls stored at the same places
unfoldable pub controls_bytes : List ℕ → Controls → List ℕ
controls_bytes b c =
    set_long (set_long (set_long (set_long (set_half (set_word (set_word b
    4 c.threshold)
    8 c.flags)
    12 c.notification)
    16 c.eoi_exit_0)
    24 c.eoi_exit_1)
    32 c.eoi_exit_2)
    40 c.eoi_exit_3

-- mode and recognised are stored as 0 or 1
unfoldable pub truth_byte : Bool → ℕ
truth_byte on = if on then 1 else 0

-- the bytes with all of the record but its controls stored
abbrev pub status_bytes : List ℕ → Record → List ℕ
status_bytes b r =
    set_byte (set_byte (set_byte (set_byte b
    0 (truth_byte r.guest))
    1 r.rvi)
    2 r.svi)
    3 (truth_byte r.recognised)

-- the bytes with the record stored; the reserved ones stay
unfoldable pub record_bytes : List ℕ → Record → List ℕ
record_bytes b r = controls_bytes (status_bytes b r) r.controls

-- the record's own 48 bytes
abbrev pub bytes_of : Record → List ℕ
bytes_of r = record_bytes (replicate 48 0) r

-- Refused, redirected, passthrough and fault, answers 0 to 3, change nothing, so the record's bytes stay; an exit, a delivery and quiet
-- store the record.
unfoldable pub kept : List ℕ → ℕ → Record → List ℕ
kept b answer r = if ltb answer 4 then b else record_bytes b r

-- the same with the controls left as the bytes hold them
unfoldable pub kept_status : List ℕ → ℕ → Record → List ℕ
kept_status b answer r = if ltb answer 4 then b else status_bytes b r

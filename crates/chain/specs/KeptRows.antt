-- The record's 48 bytes after a call, as rows: every byte different where the record stands, A5 where the bytes stay.
use Rattle.std.specs.Prelude.{ℕ, Bool, true, false, List, [], ◌∷◌, replicate}
use Rattle.processor.specs.Rows.{same_bytes}
use Rattle.processor.specs.declared.controls.Record.{Record}
use Rattle.layout.specs.RecordRows.{different_controls, record_with}
use Rattle.keeping.specs.KeptBytes.{bytes_of, kept, kept_status}

abbrev in_guest : Record
in_guest = record { guest = true; rvi = 0x52; svi = 0x31; recognised = false; controls = different_controls }

abbrev in_root : Record
in_root = record { guest = false; rvi = 0x52; svi = 0x31; recognised = true; controls = different_controls }

abbrev marks : List ℕ
marks = replicate 48 0xa5

abbrev stays : ℕ → Bool
stays answer = same_bytes (kept marks answer in_guest) marks

abbrev stored : ℕ → Bool
stored answer = same_bytes (kept marks answer in_guest) (record_with 1 0 (0xa5 ∷ 0xa5 ∷ []))

abbrev stays_status : ℕ → Bool
stays_status answer = same_bytes (kept_status marks answer in_root) marks

abbrev stored_status : ℕ → Bool
stored_status answer = same_bytes (kept_status marks answer in_root) (0 ∷ 0x52 ∷ 0x31 ∷ 1 ∷ replicate 44 0xa5)

-- 0 refused, 1 redirected, 2 passthrough, 3 fault leave the bytes; 4 exit, 5 delivered, 6 quiet store the record, but for bytes 14 and 15
abbrev pub kept_rows : List Bool
kept_rows =
    stays 0 ∷ stays 1 ∷ stays 2 ∷ stays 3 ∷ stored 4 ∷ stored 5 ∷ stored 6 ∷
    stays_status 0 ∷ stays_status 1 ∷ stays_status 2 ∷ stays_status 3 ∷ stored_status 4 ∷ stored_status 5 ∷ stored_status 6 ∷
    same_bytes (bytes_of in_guest) (record_with 1 0 (0 ∷ 0 ∷ [])) ∷ same_bytes (bytes_of in_root) (record_with 0 1 (0 ∷ 0 ∷ [])) ∷ []

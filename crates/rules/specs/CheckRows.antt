-- Document 01, "Entry and request", with E1 and E2 of document 02, as rows: each check by itself, both sides of it, and the order of the
-- checks.
use Rattle.std.specs.Prelude.{ℕ, Bool, not, List, [], ◌∷◌, ◌++◌, eqb}
use Rattle.processor.specs.Rows.{at_each, at_none, notified, controls, flagged}
use Rattle.rules.specs.EntryChecks.{failing_check, exits_at_entry}

-- an entry with these flags, threshold 0 and VTPR 0 fails this check first, or none where it is 0
abbrev fails : ℕ → ℕ → Bool
fails check flags = eqb (failing_check (flagged flags) 0x00) check

-- the same with a threshold, and VTPR's byte
abbrev fails_at : ℕ → ℕ → ℕ → ℕ → Bool
fails_at check flags threshold vtpr = eqb (failing_check (controls flags threshold) vtpr) check

-- the same with a notification vector and a threshold, at VTPR 4F
abbrev fails_with : ℕ → ℕ → ℕ → ℕ → Bool
fails_with check flags threshold notification = eqb (failing_check (notified notification flags threshold) 0x4f) check

-- 1, TPR shadow off while any of controls 2, 3, 4 is on: each alone; none of them, whatever else is on; with the shadow
abbrev pub check_rows1 : List Bool
check_rows1 =
    at_each (fails 1) (0x04 ∷ 0x08 ∷ 0x10 ∷ 0x30 ∷ []) ∷ at_each (fails 0) (0x00 ∷ 0x02 ∷ 0x20 ∷ 0x40 ∷ 0x80 ∷ 0x100 ∷ 0x400 ∷ 0x5e2 ∷ []) ∷
    at_each (fails 0) (0x01 ∷ 0x05 ∷ 0x09 ∷ 0x31 ∷ 0x3d ∷ []) ∷ []

-- 2, controls 1 and 2 both on; 3, VID on and external-interrupt exiting off; 1 is tested before 2 and 3, 2 before 3
abbrev pub check_rows23 : List Bool
check_rows23 =
    at_each (fails 2) (0x07 ∷ 0x37 ∷ []) ∷ at_each (fails 0) (0x03 ∷ 0x05 ∷ 0x33 ∷ 0x35 ∷ []) ∷
    at_each (fails 3) (0x11 ∷ 0x13 ∷ 0x15 ∷ 0x1d ∷ []) ∷ at_each (fails 0) (0x31 ∷ 0x21 ∷ []) ∷
    at_each (fails 1) (0x06 ∷ 0x10 ∷ 0x16 ∷ []) ∷ at_each (fails 2) (0x17 ∷ []) ∷ []

-- 4, shadow on, VID off, threshold above 15: at 15 and 16, and where VTPR's class is no lower; after 2
abbrev pub check_rows4 : List Bool
check_rows4 =
    fails_at 0 0x01 15 0xf0 ∷ fails_at 4 0x01 16 0xf0 ∷ fails_at 4 0x01 16 0xff ∷ fails_at 4 0x03 16 0x00 ∷ fails_at 4 0x05 17 0x00 ∷
    fails_at 4 0x01 0xffff_ffff 0xff ∷ fails_at 0 0x00 16 0x00 ∷ fails_at 0 0x20 0xffff_ffff 0x00 ∷ fails_at 0 0x31 16 0x00 ∷
    fails_at 0 0x33 0xffff_ffff 0x00 ∷ fails_at 2 0x07 16 0x00 ∷ []

-- 5, posting on without VID, without acknowledge, or with a notification vector above 255; after 1 to 4, before 6
abbrev pub check_rows5 : List Bool
check_rows5 =
    fails_with 5 0x621 0 0xf2 ∷ fails_with 5 0x200 0 0xf2 ∷ fails_with 5 0x600 0 0xf2 ∷ fails_with 5 0x231 0 0xf2 ∷ fails_with 5 0x631 0 0x100 ∷
    fails_with 5 0x631 0 0xffff ∷ fails_with 0 0x631 0 0xff ∷ fails_with 0 0x631 0 0x00 ∷ fails_with 0 0x031 0 0x100 ∷ fails_with 0 0x431 0 0xffff ∷
    fails_with 0 0x400 0 0x100 ∷ fails_with 1 0x610 0 0x100 ∷ fails_with 2 0x607 0 0x100 ∷ fails_with 3 0x611 0 0x100 ∷ fails_with 4 0x621 16 0xf2 ∷
    fails_with 5 0x621 5 0xf2 ∷ fails_with 5 0x621 4 0xf2 ∷ []

-- 6, shadow on, VID off, APIC accesses not virtualised, the threshold above VTPR's class; after the others
abbrev pub check_rows6 : List Bool
check_rows6 =
    fails_at 6 0x01 5 0x4f ∷ fails_at 0 0x01 5 0x50 ∷ fails_at 0 0x01 4 0x4f ∷ fails_at 6 0x05 5 0x4f ∷ fails_at 6 0x01 15 0xef ∷
    fails_at 6 0x01 1 0x0f ∷ fails_at 0 0x01 1 0x10 ∷ fails_at 0 0x01 0 0x00 ∷ fails_at 0 0x03 5 0x4f ∷ fails_at 0 0x31 5 0x4f ∷
    fails_at 0 0x00 5 0x4f ∷ fails_at 0 0x20 5 0x4f ∷ fails_at 4 0x01 16 0x4f ∷ []

-- exit 43 at once: the same with APIC accesses virtualised
abbrev pub exit_rows : List Bool
exit_rows =
    at_each (exits_at_entry (controls 0x03 5)) (0x00 ∷ 0x4f ∷ []) ∷ at_none (exits_at_entry (controls 0x03 5)) (0x50 ∷ 0xff ∷ []) ∷
    at_each (exits_at_entry (controls 0x03 15)) (0xef ∷ []) ∷ at_none (exits_at_entry (controls 0x03 15)) (0xf0 ∷ []) ∷
    at_none (exits_at_entry (controls 0x01 5)) (0x4f ∷ []) ∷ at_none (exits_at_entry (controls 0x02 5)) (0x4f ∷ []) ∷
    at_none (exits_at_entry (controls 0x33 5)) (0x4f ∷ []) ∷ at_none (exits_at_entry (controls 0x03 0)) (0x00 ∷ []) ∷ []

-- no other control is looked at: each check with all of them on, and with all of them on but its own
abbrev pub other_rows : List Bool
other_rows =
    fails 1 0x7fe ∷ fails 1 0x7e6 ∷ fails 1 0x7ea ∷ fails 1 0x7f2 ∷ fails 0 0x5e2 ∷ fails 2 0x7ff ∷ fails 0 0x7fb ∷ fails 0 0x7fd ∷
    fails 3 0x7db ∷ fails 0 0x7fb ∷ fails_at 4 0x5eb 16 0xff ∷ fails_at 4 0x5ed 16 0xff ∷ fails_at 0 0x7fb 16 0x00 ∷ fails_at 0 0x5e2 16 0x00 ∷
    fails_with 5 0x7eb 0 0xf2 ∷ fails_with 5 0x3fb 0 0xf2 ∷ fails_with 5 0x7fb 0 0x100 ∷ fails_with 0 0x7fb 0 0xff ∷ fails_with 0 0x5fb 0 0xffff ∷
    fails_at 6 0x5ed 5 0x4f ∷ fails_at 6 0x5e9 5 0x4f ∷ fails_at 6 0x21 5 0x4f ∷ fails_at 0 0x5eb 5 0x4f ∷ fails_at 0 0x7f9 5 0x4f ∷ fails_at 0 0x5e0 5 0x4f ∷
    exits_at_entry (controls 0x5eb 5) 0x4f ∷ exits_at_entry (controls 0x23 5) 0x4f ∷ not (exits_at_entry (controls 0x5ed 5) 0x4f) ∷
    not (exits_at_entry (controls 0x5ea 5) 0x4f) ∷ not (exits_at_entry (controls 0x7fb 5) 0x4f) ∷ []

abbrev pub check_rows : List Bool
check_rows = check_rows1 ++ check_rows23 ++ check_rows4 ++ check_rows5 ++ check_rows6 ++ exit_rows ++ other_rows

-- Document 01, "Memory accesses", as rows: passthrough, exit 44 with its qualification, and what a redirected read gives.
use Rattle.std.specs.Prelude.{ℕ, true, false, List, [], ◌∷◌, ◌++◌}
use Rattle.processor.specs.Access.{access}
use Rattle.processor.specs.Rows.{word, controls}
use Rattle.events.specs.declared.event.Event.{Event}
use Rattle.events.specs.declared.event.Event.TheVariants.{MemoryRead, MemoryWrite}
use Rattle.meaning.specs.Run.{zero_page}
use Rattle.rows.specs.RowBench.{Row, exit}
use Rattle.rows.specs.RowStart.{marked, busy, guest, root, redirected, passthrough, of_event, keeps}

-- four different bytes at 0D0, at 0B0 and at 080
abbrev page : List ℕ
page = marked (word 0x080 0x7a6b_5c4f ∷ word 0x0b0 0x1f2e_3d4c ∷ word 0x0d0 0x4433_2211 ∷ [])

-- with these flags: a redirected read, and its value
abbrev reads : ℕ → ℕ → ℕ → ℕ → Row
reads flags offset size value = keeps page (guest 0x52 0x31 true (busy flags 0)) (MemoryRead (access offset size false false)) (redirected value)

abbrev read_rows : List Row
read_rows =
    reads 0x3b 0x0d0 1 0x11 ∷ reads 0x3b 0x0d1 1 0x22 ∷ reads 0x3b 0x0d2 1 0x33 ∷ reads 0x3b 0x0d3 1 0x44 ∷ reads 0x3b 0x0d0 2 0x2211 ∷
    reads 0x3b 0x0d1 2 0x3322 ∷ reads 0x3b 0x0d2 2 0x4433 ∷ reads 0x3b 0x0d0 4 0x4433_2211 ∷ reads 0x0b 0x030 4 0xa5a5_a5a5 ∷
    reads 0x3b 0x100 4 0 ∷ reads 0x33 0x080 4 0x7a6b_5c4f ∷ reads 0x33 0x080 2 0x5c4f ∷ reads 0x33 0x0b0 4 0x1f2e_3d4c ∷ reads 0x33 0x300 1 0xa5 ∷
    reads 0x03 0x080 1 0x4f ∷ []

-- Control 1 off: passthrough, and nothing changes.
abbrev passes : ℕ → Event → Row
passes flags e = keeps page (guest 0x52 0x31 true (busy flags 0)) e passthrough

abbrev pass_rows : List Row
pass_rows =
    passes 0x39 (MemoryRead (access 0x080 4 false false)) ∷ passes 0x39 (MemoryWrite (access 0x080 4 false false) 0x11) ∷ passes 0x39 (MemoryRead (access 0x080 8 true true)) ∷
    passes 0x00 (MemoryWrite (access 0x300 4 false false) 0x0004_0071) ∷ passes 0x35 (MemoryWrite (access 0x0b0 4 false false) 0) ∷ []

-- Exit 44: root mode, nothing recognised, the page as before.
abbrev exits44 : ℕ → Event → ℕ → Row
exits44 flags e qualification =
    of_event page (guest 0x52 0x31 true (busy flags 0)) e (exit 44 qualification) (root 0x52 0x31 false (busy flags 0)) []

abbrev exit_rows : List Row
exit_rows =
    -- the offset isn't open
    exits44 0x3b (MemoryRead (access 0x0a0 4 false false)) 0x00a0 ∷ exits44 0x3b (MemoryWrite (access 0x0a0 4 false false) 0x11) 0x10a0 ∷
    exits44 0x3b (MemoryWrite (access 0x030 4 false false) 0x11) 0x1030 ∷ exits44 0x33 (MemoryWrite (access 0x0d0 4 false false) 0x11) 0x10d0 ∷
    exits44 0x33 (MemoryRead (access 0x083 1 false false)) 0x0083 ∷ exits44 0x03 (MemoryWrite (access 0x0b0 4 false false) 0) 0x10b0 ∷
    exits44 0x3b (MemoryRead (access 0xfff 1 false false)) 0x0fff ∷
    -- fetch
    exits44 0x3b (MemoryRead (access 0x080 4 true false)) 0x2080 ∷ exits44 0x3b (MemoryRead (access 0x0a0 4 true true)) 0x20a0 ∷
    -- the already-virtualised flag
    exits44 0x3b (MemoryRead (access 0x080 4 false true)) 0x0080 ∷ exits44 0x3b (MemoryWrite (access 0x080 4 false true) 0x11) 0x1080 ∷
    -- size 8; past the register
    exits44 0x3b (MemoryRead (access 0x080 8 false false)) 0x0080 ∷ exits44 0x3b (MemoryWrite (access 0x080 8 false false) 0x11) 0x1080 ∷
    exits44 0x3b (MemoryRead (access 0x0d2 4 false false)) 0x00d2 ∷ exits44 0x3b (MemoryWrite (access 0x0d3 2 false false) 0x11) 0x10d3 ∷
    -- shadow off
    exits44 0x02 (MemoryRead (access 0x080 4 false false)) 0x0080 ∷ exits44 0x02 (MemoryWrite (access 0x080 4 false false) 0x11) 0x1080 ∷ []

-- K10 on a page that is zero throughout
abbrev zero_rows : List Row
zero_rows =
    keeps zero_page (guest 0 0 false (controls 0x3b 0)) (MemoryRead (access 0x083 1 false false)) (redirected 0) ∷
    of_event zero_page (guest 0 0 false (controls 0x33 0)) (MemoryRead (access 0x083 1 false false)) (exit 44 0x083) (root 0 0 false (controls 0x33 0)) [] ∷ []

abbrev pub access_rows : List Row
access_rows = read_rows ++ pass_rows ++ exit_rows ++ zero_rows

-- Document 02, E1, as rows of an external interrupt with its descriptor: the order of the refusals, and a posting over a marked page.
use Rattle.std.specs.Prelude.{ℕ, true, false, List, [], ◌∷◌, ◌++◌, replicate, set}
use Rattle.processor.specs.Rows.{Word, word, notified}
use Rattle.processor.specs.declared.controls.Controls.{Controls}
use Rattle.processor.specs.declared.controls.Record.{Record}
use Rattle.events.specs.declared.answer.Numbers.{Numbers}
use Rattle.events.specs.Answers.{numbers}
use Rattle.meaning.specs.Bench.{unposted, two_posted}
use Rattle.rows.specs.RowBench.{Interrupt, quiet, exit, refused}
use Rattle.rows.specs.RowStart.{marked, guest, root}
use Rattle.rows.specs.RefusedRows.{short_page, long_page}

abbrev on : List ℕ → Record → List ℕ → ℕ → Numbers → Record → List Word → List ℕ → Interrupt
on p r d vector a state ws left =
    record { begin = record { page = p; state = r }; descriptor = d; vector = vector; answer = a; state = state; changed = ws; left = left }

-- nothing but the answer comes of it
abbrev keeps : List ℕ → Record → List ℕ → ℕ → Numbers → Interrupt
keeps p r d vector a = on p r d vector a r [] d

-- VPPR 60; 52 and 60 requested
abbrev page : List ℕ
page = marked (word 0x0a0 0xa5a5_a560 ∷ word 0x220 0x0004_0000 ∷ word 0x230 0x0000_0001 ∷ [])

abbrev short : List ℕ
short = replicate 63 0xff

-- a notification vector of F2, and these flags
abbrev flags : ℕ → Controls
flags n = notified 0xf2 n 0

-- Tested in the order 1, 5, 2, 3: a page of another length before a descriptor of another length, that before a field outside its bounds,
-- that before the mode; page, record and descriptor stay.
abbrev order_rows : List Interrupt
order_rows =
    keeps short_page (guest 0x52 0x31 true (flags 0x633)) two_posted 0xf2 (refused 1 0) ∷
    keeps long_page (root 0x52 0x31 true (flags 0xe33)) short 0x100 (refused 1 0) ∷
    keeps [] (guest 0x52 0x31 true (flags 0x633)) two_posted 0xf2 (refused 1 0) ∷
    keeps page (root 0x52 0x31 true (flags 0xe33)) short 0x100 (refused 5 0) ∷
    keeps page (guest 0x52 0x31 true (flags 0x633)) [] 0xf2 (refused 5 0) ∷
    keeps page (root 0x52 0x31 true (flags 0xe33)) two_posted 0xf2 (refused 2 0) ∷
    keeps page (guest 0x52 0x31 true (flags 0x633)) two_posted 0x100 (refused 2 0) ∷
    keeps page (root 0x52 0x31 true (flags 0x633)) two_posted 0xf2 (refused 3 0) ∷ []

-- External-interrupt exiting off: passthrough, whatever the vector and posting. Posting off, or not the notification vector: exit 1, with
-- VID on or off.
abbrev exit_rows : List Interrupt
exit_rows =
    keeps page (guest 0x52 0x31 true (flags 0x613)) two_posted 0xf2 (numbers 2 0 0) ∷
    keeps page (guest 0x52 0x31 true (flags 0x000)) two_posted 0x00 (numbers 2 0 0) ∷
    keeps page (guest 0x52 0x31 true (flags 0x7df)) two_posted 0xf2 (numbers 2 0 0) ∷
    on page (guest 0x52 0x31 true (flags 0x5ff)) two_posted 0xf2 (exit 1 0) (root 0x52 0x31 false (flags 0x5ff)) [] two_posted ∷
    on page (guest 0x52 0x31 true (flags 0x620)) two_posted 0xf3 (exit 1 0) (root 0x52 0x31 false (flags 0x620)) [] two_posted ∷
    on page (guest 0x52 0x31 true (flags 0x020)) two_posted 0xf2 (exit 1 0) (root 0x52 0x31 false (flags 0x020)) [] two_posted ∷
    on page (guest 0x52 0x31 true (flags 0x633)) two_posted 0x00 (exit 1 0) (root 0x52 0x31 false (flags 0x633)) [] two_posted ∷
    on page (guest 0x52 0x31 true (flags 0x633)) two_posted 0xff (exit 1 0) (root 0x52 0x31 false (flags 0x633)) [] two_posted ∷ []

-- Otherwise posted bits join VIRR and are cleared, RVI becomes the larger, evaluation by VPPR as it is, quiet: with VID on, with it off, and
-- with interrupt-window exiting; acknowledge is not looked at
abbrev posting_rows : List Interrupt
posting_rows =
    on page (guest 0x60 0x31 false (flags 0x633)) two_posted 0xf2 quiet (guest 0x71 0x31 true (flags 0x633))
    (word 0x210 0x0002_0000 ∷ word 0x230 0x0002_0001 ∷ []) (unposted 0xfe) ∷
    on page (guest 0x60 0x31 false (flags 0x220)) two_posted 0xf2 quiet (guest 0x71 0x31 true (flags 0x220))
    (word 0x210 0x0002_0000 ∷ word 0x230 0x0002_0001 ∷ []) (unposted 0xfe) ∷
    on page (guest 0x60 0x31 true (flags 0x673)) two_posted 0xf2 quiet (guest 0x71 0x31 false (flags 0x673))
    (word 0x210 0x0002_0000 ∷ word 0x230 0x0002_0001 ∷ []) (unposted 0xfe) ∷
    on page (guest 0x60 0x31 true (flags 0x633)) (unposted 0xa5) 0xf2 quiet (guest 0x60 0x31 false (flags 0x633)) [] (unposted 0xa4) ∷
    -- RVI below a request that VIRR has: VIRR is not searched
    on page (guest 0x00 0x31 true (flags 0x633)) (set (unposted 0xff) 6 0x02) 0xf2 quiet (guest 0x31 0x31 false (flags 0x633))
    (word 0x210 0x0002_0000 ∷ []) (unposted 0xfe) ∷
    on page (guest 0x00 0x31 true (flags 0x633)) (unposted 0x01) 0xf2 quiet (guest 0x00 0x31 false (flags 0x633)) [] (unposted 0x00) ∷
    on page (guest 0x60 0x31 false (flags 0x633)) (replicate 64 0xff) 0xf2 quiet (guest 0xff 0x31 true (flags 0x633))
    (word 0x200 0xffff_ffff ∷ word 0x210 0xffff_ffff ∷ word 0x220 0xffff_ffff ∷ word 0x230 0xffff_ffff ∷ word 0x240 0xffff_ffff ∷
    word 0x250 0xffff_ffff ∷ word 0x260 0xffff_ffff ∷ word 0x270 0xffff_ffff ∷ []) (replicate 32 0 ++ (0xfe ∷ replicate 31 0xff)) ∷ []

abbrev pub external_rows : List Interrupt
external_rows = order_rows ++ exit_rows ++ posting_rows

-- What gg_step, gg_external_interrupt and gg_leave reply, as rows: the answer and its two values, every byte of the record and of the page,
-- and of the descriptor.
use Rattle.std.specs.Prelude.{ℕ, Bool, true, false, ◌&&◌, List, [], ◌∷◌, ◌++◌, eqb, replicate}
use Rattle.processor.specs.Rows.{same_bytes, word, with_words}
use Rattle.events.specs.declared.event.Event.TheVariants.{Request}
use Rattle.meaning.specs.Run.{zero_page}
use Rattle.meaning.specs.Bench.{unposted, two_posted}
use Rattle.replies.specs.Replies.{Reply, LentReply, kind_reply, gg_step, gg_leave, gg_external_interrupt}

abbrev says : Reply → ℕ → ℕ → ℕ → List ℕ → List ℕ → Bool
says r answer first second b p =
    eqb r.answer answer && eqb r.first first && eqb r.second second && same_bytes r.record_bytes b && same_bytes r.page p

-- a record's bytes: mode, RVI, SVI, recognised; threshold 0, the flags' low bytes, notification vector F2, EOI-exit words 1 to 4
abbrev bytes : ℕ → ℕ → ℕ → ℕ → ℕ → ℕ → List ℕ
bytes mode rvi svi recognised low high =
    mode ∷ rvi ∷ svi ∷ recognised ∷ 0 ∷ 0 ∷ 0 ∷ 0 ∷ low ∷ high ∷ 0 ∷ 0 ∷ 0xf2 ∷ 0 ∷ 0 ∷ 0 ∷ (1 ∷ replicate 7 0) ++ (2 ∷ replicate 7 0) ++
    (3 ∷ replicate 7 0) ++ (4 ∷ replicate 7 0)

-- an event's bytes: kind, size, flags, detail, the number's two low bytes, the value's lowest; the rest 0
abbrev event : ℕ → ℕ → ℕ → ℕ → ℕ → ℕ → ℕ → List ℕ
event kind size flags detail low high value = kind ∷ size ∷ flags ∷ detail ∷ low ∷ high ∷ 0 ∷ 0 ∷ value ∷ replicate 39 0

-- 71 requested, VPPR 60
abbrev page : List ℕ
page = with_words zero_page (word 0x230 0x0002_0000 ∷ word 0x0a0 0x60 ∷ [])

-- a request, an open boundary, a read at 083, an entry as of kind 1 with its controls at the record's places
abbrev request : List ℕ
request = event 9 0 0 0 0x60 0 0

abbrev boundary : List ℕ
boundary = event 8 0 1 0 0 0 0

abbrev read083 : List ℕ
read083 = event 2 1 0 0 0x83 0 0

abbrev entry : ℕ → List ℕ
entry low = 1 ∷ 0 ∷ 0 ∷ 0 ∷ 0 ∷ 0 ∷ 0 ∷ 0 ∷ low ∷ 0 ∷ 0 ∷ 0 ∷ 0xf3 ∷ replicate 3 0 ++ (5 ∷ replicate 7 0) ++ (6 ∷ replicate 7 0) ++ (7 ∷ replicate 7 0) ++ (8 ∷ replicate 7 0)

-- a call that is refused leaves every byte
abbrev step_refused : ℕ → ℕ → List ℕ → List ℕ → List ℕ → Bool
step_refused number check p b e = says (gg_step p b e) 0 number check b p

abbrev pub step_rows : List Bool
step_rows =
    -- quiet, delivered, redirected, exit: what each leaves of the record's bytes
    says (gg_step page (bytes 0 0x52 0x31 0 0x31 0) request) 6 0 0 (bytes 0 0x60 0x31 0 0x31 0) (with_words page (word 0x230 0x0002_0001 ∷ [])) ∷
    says (gg_step page (bytes 1 0x71 0x60 1 0x33 0) boundary) 5 0x71 0 (bytes 1 0 0x71 0 0x33 0)
    (with_words page (word 0x230 0 ∷ word 0x130 0x0002_0000 ∷ word 0x0a0 0x70 ∷ [])) ∷
    says (gg_step (with_words page (word 0x080 0x5c00_0000 ∷ [])) (bytes 1 0x71 0x60 1 0x3b 0) read083) 1 0x5c 0 (bytes 1 0x71 0x60 1 0x3b 0)
    (with_words page (word 0x080 0x5c00_0000 ∷ [])) ∷
    says (gg_step page (bytes 1 0x71 0x60 1 0x33 0) read083) 4 44 0x083 (bytes 0 0x71 0x60 0 0x33 0) page ∷
    says (gg_step page (bytes 1 0x71 0x60 1 0x39 0) read083) 2 0 0 (bytes 1 0x71 0x60 1 0x39 0) page ∷
    -- an entry stores its controls; VPPR is 60 by SVI, and 71 is recognised
    says (gg_step page (bytes 0 0x71 0x60 0 0x20 1) (entry 0x31)) 6 0 0 (1 ∷ 0x71 ∷ 0x60 ∷ 1 ∷ 0 ∷ 0 ∷ 0 ∷ 0 ∷ 0x31 ∷ 0 ∷ 0 ∷ 0 ∷ 0xf3 ∷ replicate 3 0 ++ (5 ∷ replicate 7 0) ++ (6 ∷ replicate 7 0) ++ (7 ∷ replicate 7 0) ++ (8 ∷ replicate 7 0)) page ∷
    -- 1 the page's length, before 2; 2 the record's length, the event's, one that cannot be read, a field out of bounds; 3; 4 with its check
    step_refused 1 0 (replicate 4095 0) (replicate 47 0) (replicate 47 0) ∷ step_refused 1 0 (replicate 4097 0) (bytes 0 0 0 0 0x31 0) request ∷
    step_refused 1 0 (replicate 4097 0) (replicate 47 0) request ∷
    step_refused 2 0 page (replicate 47 0) request ∷ step_refused 2 0 page (replicate 49 0) request ∷ step_refused 2 0 page [] request ∷
    step_refused 2 0 page (bytes 0 0 0 0 0x31 0) (9 ∷ replicate 46 0) ∷ step_refused 2 0 page (bytes 0 0 0 0 0x31 0) (9 ∷ replicate 48 0) ∷
    step_refused 2 0 page (bytes 2 0 0 0 0x31 0) request ∷ step_refused 2 0 page (bytes 0 0 0 2 0x31 0) request ∷
    step_refused 2 0 page (bytes 0 0 0 0 0x31 0) (event 10 0 0 0 0 0 0) ∷ step_refused 2 0 page (bytes 1 0 0 0 0x31 0) (event 9 0 0 0 0 1 0) ∷
    step_refused 2 0 page (bytes 0 0 0 0 0x31 8) request ∷ step_refused 3 0 page (bytes 1 0 0 0 0x31 0) request ∷
    step_refused 4 1 page (bytes 0 0 0 0 0x31 0) (entry 0x10) ∷ []

-- the same of an event of one kind by itself, whose bytes can be read or not
abbrev pub kind_rows : List Bool
kind_rows =
    says (kind_reply true (Request 0x60) page (bytes 0 0x52 0x31 0 0x31 0)) 6 0 0 (bytes 0 0x60 0x31 0 0x31 0) (with_words page (word 0x230 0x0002_0001 ∷ [])) ∷
    says (kind_reply false (Request 0x60) page (bytes 0 0x52 0x31 0 0x31 0)) 0 2 0 (bytes 0 0x52 0x31 0 0x31 0) page ∷ []

-- gg_leave takes no page: whatever page there is stays
abbrev leave_says : List ℕ → ℕ → ℕ → List ℕ → Bool
leave_says b answer first left = says (gg_leave page b) answer first 0 left page

abbrev pub leave_rows : List Bool
leave_rows =
    leave_says (bytes 1 0x71 0x60 1 0x33 0) 6 0 (bytes 0 0x71 0x60 0 0x33 0) ∷
    leave_says (bytes 0 0x71 0x60 1 0x33 0) 0 3 (bytes 0 0x71 0x60 1 0x33 0) ∷ leave_says (bytes 2 0x71 0x60 1 0x33 0) 0 2 (bytes 2 0x71 0x60 1 0x33 0) ∷
    leave_says (bytes 1 0x71 0x60 1 0x33 8) 0 2 (bytes 1 0x71 0x60 1 0x33 8) ∷ leave_says (1 ∷ replicate 46 0) 0 2 (1 ∷ replicate 46 0) ∷
    leave_says (1 ∷ replicate 48 0) 0 2 (1 ∷ replicate 48 0) ∷ says (gg_leave [] (bytes 1 0x71 0x60 1 0x33 0)) 6 0 0 (bytes 0 0x71 0x60 0 0x33 0) [] ∷ []

abbrev lent_says : LentReply → ℕ → ℕ → ℕ → List ℕ → List ℕ → List ℕ → Bool
lent_says r answer first second b p d = says r.reply answer first second b p && same_bytes r.descriptor d

abbrev external_refused : ℕ → List ℕ → List ℕ → List ℕ → ℕ → Bool
external_refused number p b d vector = lent_says (gg_external_interrupt p b d vector) 0 number 0 b p d

abbrev pub external_rows : List Bool
external_rows =
    -- a posting, exit 1, passthrough
    lent_says (gg_external_interrupt zero_page (bytes 1 0x52 0x31 0 0x33 6) two_posted 0xf2) 6 0 0 (bytes 1 0x71 0x31 1 0x33 6)
    (with_words zero_page (word 0x210 0x0002_0000 ∷ word 0x230 0x0002_0000 ∷ [])) (unposted 0xfe) ∷
    lent_says (gg_external_interrupt page (bytes 1 0x52 0x31 1 0x33 6) two_posted 0xf3) 4 1 0 (bytes 0 0x52 0x31 0 0x33 6) page two_posted ∷
    lent_says (gg_external_interrupt page (bytes 1 0x52 0x31 1 0x13 6) two_posted 0xf2) 2 0 0 (bytes 1 0x52 0x31 1 0x13 6) page two_posted ∷
    -- 1 the page's length, 5 the descriptor's, 2 the record's length, one that cannot be read, a field out of bounds, 3
    external_refused 1 (replicate 4095 0) (replicate 47 0) (replicate 63 0xff) 0x100 ∷ external_refused 1 (replicate 4097 0) (bytes 1 0 0 0 0x33 6) two_posted 0xf2 ∷
    external_refused 1 (replicate 4097 0) (replicate 47 0) (replicate 63 0xff) 0x100 ∷
    external_refused 5 page (replicate 47 0) (replicate 63 0xff) 0x100 ∷ external_refused 5 page (bytes 1 0 0 0 0x33 6) (replicate 65 0xff) 0xf2 ∷
    external_refused 2 page (replicate 47 0) two_posted 0xf2 ∷ external_refused 2 page (replicate 49 0) two_posted 0xf2 ∷
    external_refused 2 page (bytes 2 0 0 0 0x33 6) two_posted 0xf2 ∷ external_refused 2 page (bytes 1 0 0 0 0x33 6) two_posted 0x100 ∷
    external_refused 2 page (bytes 0 0 0 0 0x33 0xe) two_posted 0xf2 ∷ external_refused 3 page (bytes 0 0 0 0 0x33 6) two_posted 0xf2 ∷ []

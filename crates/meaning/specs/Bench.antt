-- Document 01, "Bench cases" K1 to K12, one of the guest that leaves, two of an EOI, both sides of E2 of document 02, and E1 of it, as rows
-- of one table: where a row starts, what is done, and what must come of it. Then rows of an external interrupt with its descriptor.
use Rattle.std.specs.Prelude.{ℕ, Bool, true, false, ◌&&◌, List, [], ◌∷◌, ◌++◌, eqb, replicate}
use Rattle.std.specs.Bool.{beq}
use Rattle.events.specs.declared.answer.Numbers.{Numbers}
use Rattle.events.specs.Answers.{numbers}
use Rattle.processor.specs.Access.{access, between}
use Rattle.processor.specs.declared.controls.Controls.{Controls}
use Rattle.processor.specs.declared.controls.Record.{Record}
use Rattle.events.specs.declared.event.Event.{Event}
use Rattle.events.specs.declared.event.Event.TheVariants.{Entry, Request, MemoryRead, MemoryWrite, ToCr8, Boundary}
use Rattle.processor.specs.Offsets.{vtpr, vppr, virr, visr}
use Rattle.page.specs.Page.{word_at}
use Rattle.stores.specs.Stores.{set_byte}
use Rattle.registers.specs.Vectors.{set_vector}
use Rattle.meaning.specs.Input.{Input, given, external, leaves}
use Rattle.meaning.specs.Procedures.{ppr_virtualization}
use Rattle.meaning.specs.Step.{descriptor_after}
use Rattle.meaning.specs.Run.{Held, zero_page, start, after, answers}

-- a word of the page: its offset and its value
pub record Word : Type 0 where
  pub at : ℕ
  pub value : ℕ

-- a list of inputs, or PPR virtualization alone
pub data Deed : Type 0 where
  inputs : List Input → Deed
  ppr_alone : Deed

-- what a deed leaves: the answers in order, and what is then held
pub record End : Type 0 where
  pub answers : List Numbers
  pub held : Held

abbrev pub done : Held → Deed → End
done h (inputs is) = record { answers = answers h is; held = after h is }
done h ppr_alone = record { answers = []; held = record { page = ppr_virtualization h.page h.state; state = h.state } }

-- what is asked of the page at the end: that some words have their values, that it has these bytes, or those of the start
pub data PageEnd : Type 0 where
  words : List Word → PageEnd
  bytes : List ℕ → PageEnd
  as_before : PageEnd

-- a row: the start; the deed; the answers' numbers; mode, RVI, SVI, recognition and controls at the end; the page at the end
pub record Row : Type 0 where
  pub begin : Held
  pub deed : Deed
  pub answers : List Numbers
  pub state : Record
  pub page : PageEnd

abbrev pub same_numbers : Numbers → Numbers → Bool
same_numbers a b = eqb a.answer b.answer && eqb a.first b.first && eqb a.second b.second

abbrev pub same_answers : List Numbers → List Numbers → Bool
same_answers [] [] = true
same_answers [] (b ∷ bs) = false
same_answers (a ∷ rest) [] = false
same_answers (a ∷ rest) (b ∷ bs) = same_numbers a b && same_answers rest bs

abbrev pub has_words : List ℕ → List Word → Bool
has_words p [] = true
has_words p (w ∷ ws) = eqb (word_at p w.at) w.value && has_words p ws

abbrev pub same_bytes : List ℕ → List ℕ → Bool
same_bytes [] [] = true
same_bytes [] (b ∷ q) = false
same_bytes (a ∷ p) [] = false
same_bytes (a ∷ p) (b ∷ q) = eqb a b && same_bytes p q

-- a page at the end, of a page at the start
abbrev pub page_ends : List ℕ → List ℕ → PageEnd → Bool
page_ends before p (words ws) = has_words p ws
page_ends before p (bytes q) = same_bytes p q
page_ends before p as_before = same_bytes p before

abbrev pub same_controls : Controls → Controls → Bool
same_controls a b =
    eqb a.flags b.flags && eqb a.threshold b.threshold && eqb a.notification b.notification &&
    eqb a.eoi_exit_0 b.eoi_exit_0 && eqb a.eoi_exit_1 b.eoi_exit_1 && eqb a.eoi_exit_2 b.eoi_exit_2 && eqb a.eoi_exit_3 b.eoi_exit_3

abbrev pub same_record : Record → Record → Bool
same_record a b =
    beq a.guest b.guest && eqb a.rvi b.rvi && eqb a.svi b.svi && beq a.recognised b.recognised &&
    same_controls a.controls b.controls

-- the row holds of the definitions
abbrev pub end_holds : End → Row → Bool
end_holds e row =
    same_answers e.answers row.answers && same_record e.held.state row.state &&
    page_ends row.begin.page e.held.page row.page

unfoldable pub row_holds : Row → Bool
row_holds row = end_holds (done row.begin row.deed) row

abbrev pub rows_hold : List Row → Bool
rows_hold [] = true
rows_hold (row ∷ rows) = row_holds row && rows_hold rows

abbrev word : ℕ → ℕ → Word
word at value = record { at = at; value = value }

abbrev pub notified : ℕ → ℕ → ℕ → Controls
notified notification flags threshold =
    record { flags = flags; threshold = threshold; notification = notification; eoi_exit_0 = 0; eoi_exit_1 = 0; eoi_exit_2 = 0; eoi_exit_3 = 0 }

abbrev pub controls : ℕ → ℕ → Controls
controls flags threshold = notified 0 flags threshold

-- "V" is controls 0, 4, 5 on; "M" adds control 1; "R" adds control 3 to M.
abbrev pub controls_v : Controls
controls_v = controls 0x31 0

abbrev pub controls_m : Controls
controls_m = controls 0x33 0

abbrev pub controls_r : Controls
controls_r = controls 0x3b 0

-- mode, RVI, SVI, recognition and controls
abbrev state_of : Bool → ℕ → ℕ → Bool → Controls → Record
state_of guest rvi svi recognised c = record { guest = guest; rvi = rvi; svi = svi; recognised = recognised; controls = c }

-- in guest mode with the values given and zero elsewhere
abbrev guest_with : Controls → ℕ → Record
guest_with c svi = state_of true 0 svi false c

-- a page that is zero but for VTPR
abbrev vtpr_page : ℕ → List ℕ
vtpr_page value = set_byte zero_page vtpr value

abbrev quiet : Numbers
quiet = numbers 6 0 0

abbrev delivered : ℕ → Numbers
delivered vector = numbers 5 vector 0

abbrev exit : ℕ → ℕ → Numbers
exit reason qualification = numbers 4 reason qualification

abbrev refused : ℕ → ℕ → Numbers
refused number check = numbers 0 number check

abbrev pub boundary_open : Event
boundary_open = Boundary (between true false false 0)

-- events as inputs
abbrev pub each : List Event → List Input
each [] = []
each (e ∷ es) = given e ∷ each es

abbrev write300 : ℕ → Event
write300 value = MemoryWrite (access 0x300 4 false false) value

abbrev write_eoi : Event
write_eoi = MemoryWrite (access 0x0b0 4 false false) 0

-- a row that starts fresh
abbrev from_fresh : List Input → List Numbers → Record → PageEnd → Row
from_fresh is answers state page = record { begin = start; deed = inputs is; answers = answers; state = state; page = page }

-- a row of one event
abbrev one_event : List ℕ → Record → Event → Numbers → Record → PageEnd → Row
one_event p r e a state page =
    record { begin = record { page = p; state = r }; deed = inputs (given e ∷ []); answers = a ∷ []; state = state; page = page }

-- a row of one event in guest mode
abbrev in_guest : Controls → List ℕ → Event → Numbers → Bool → List Word → Row
in_guest c p e a guest ws = one_event p (guest_with c 0) e a (state_of guest 0 0 false c) (words ws)

-- K1 under some controls
abbrev row_k1 : Controls → PageEnd → Row
row_k1 c page = from_fresh (each (Request 0x60 ∷ Entry c ∷ boundary_open ∷ [])) (quiet ∷ quiet ∷ delivered 0x60 ∷ []) (state_of true 0 0x60 false c) page

abbrev pub k1 : Row
k1 = row_k1 controls_v (words (word 0x130 1 ∷ word 0x230 0 ∷ word 0x0a0 0x60 ∷ []))

-- a page that is zero but for 60H in service and VPPR 60H
abbrev service_page : List ℕ
service_page = set_byte (set_vector zero_page visr 0x60) vppr 0x60

-- K1 under M leaves this very page, so a row can start there
abbrev pub k1_under_m : Row
k1_under_m = row_k1 controls_m (bytes service_page)

-- a row that starts in the state after K1 under M
abbrev after_k1 : List Input → List Numbers → Record → List Word → Row
after_k1 is answers state ws =
    record { begin = record { page = service_page; state = k1_under_m.state }; deed = inputs is; answers = answers; state = state; page = words ws }

abbrev pub k2 : Row
k2 =
    after_k1 (each (write300 0x0004_0071 ∷ boundary_open ∷ [])) (quiet ∷ delivered 0x71 ∷ []) (state_of true 0 0x71 false controls_m)
    (word 0x130 0x0002_0001 ∷ word 0x0a0 0x70 ∷ [])

abbrev pub k3 : Row
k3 =
    after_k1 (each (write300 0x0004_0071 ∷ boundary_open ∷ write_eoi ∷ [])) (quiet ∷ delivered 0x71 ∷ quiet ∷ [])
    (state_of true 0 0x60 false controls_m) (word 0x130 1 ∷ word 0x0a0 0x60 ∷ [])

-- one write to VICR_LO after K1 under M
abbrev after_k1_write : ℕ → Numbers → Bool → ℕ → Bool → List Word → Row
after_k1_write value a guest rvi recognised ws =
    after_k1 (each (write300 value ∷ [])) (a ∷ []) (state_of guest rvi 0x60 recognised controls_m) ws

abbrev pub k4 : Row
k4 = after_k1_write 0x0004_0065 quiet true 0x65 false []

-- VIRR's eight words, all 0
abbrev no_request : List Word
no_request =
    word 0x200 0 ∷ word 0x210 0 ∷ word 0x220 0 ∷ word 0x230 0 ∷ word 0x240 0 ∷ word 0x250 0 ∷ word 0x260 0 ∷ word 0x270 0 ∷ []

abbrev pub k5 : Row
k5 = after_k1_write 0x0004_2071 (exit 56 0x300) false 0 false (word 0x300 0x0004_2071 ∷ no_request)

abbrev pub k6 : List Row
k6 = after_k1_write 0x0004_0871 quiet true 0x71 true (word 0x230 0x0002_0000 ∷ []) ∷
    after_k1_write 0x0004_4071 quiet true 0x71 true (word 0x230 0x0002_0000 ∷ []) ∷ []

abbrev pub k7 : List Row
k7 = after_k1_write 0x0004_000f (exit 56 0x300) false 0 false [] ∷ after_k1_write 0x0004_0010 quiet true 0x10 false [] ∷ []

-- PPR virtualization alone: VTPR and SVI, and the VPPR that comes of them
abbrev ppr_row : ℕ → ℕ → ℕ → Row
ppr_row vtprValue svi vpprValue =
    let r = guest_with (controls 0 0) svi in
    record { begin = record { page = vtpr_page vtprValue; state = r }; deed = ppr_alone; answers = []; state = r; page = words (word 0x0a0 vpprValue ∷ []) }

abbrev pub k8 : List Row
k8 = ppr_row 0x6f 0x60 0x6f ∷ ppr_row 0x5f 0x63 0x60 ∷ []

abbrev shadow_only : Controls
shadow_only = controls 0x01 5

abbrev pub k9 : List Row
k9 =
    in_guest shadow_only (vtpr_page 0x50) (ToCr8 4 0) (exit 43 0) false (word 0x080 0x40 ∷ []) ∷
    in_guest shadow_only (vtpr_page 0x50) (ToCr8 5 0) quiet true (word 0x080 0x50 ∷ []) ∷ []

-- the byte read is VTPR's byte 3, which isn't 0
abbrev pub k10 : List Row
k10 =
    in_guest controls_r (set_byte zero_page 0x083 0x5c) (MemoryRead (access 0x083 1 false false)) (numbers 1 0x5c 0) true [] ∷
    in_guest controls_m (set_byte zero_page 0x083 0x5c) (MemoryRead (access 0x083 1 false false)) (exit 44 0x083) false [] ∷ []

abbrev pub k11 : List Row
k11 =
    in_guest controls_r zero_page (MemoryWrite (access 0x082 2 false false) 0xabcd) (exit 56 0x082) false (word 0x080 0xabcd_0000 ∷ []) ∷
    in_guest controls_r zero_page (MemoryWrite (access 0x0a0 4 false false) 1) (exit 44 0x10a0) false (word 0x0a0 0 ∷ []) ∷ []

abbrev pub k12 : Row
k12 = from_fresh (each (Request 0 ∷ Entry controls_v ∷ [])) (quiet ∷ quiet ∷ []) (guest_with controls_v 0) (words (word 0x200 1 ∷ []))

-- the guest leaves with 71H recognised, and in root mode it cannot leave again
abbrev pub leaving : Row
leaving =
    after_k1 (given (write300 0x0004_0071) ∷ leaves ∷ leaves ∷ []) (quiet ∷ quiet ∷ refused 3 0 ∷ [])
    (state_of false 0x71 0x60 false controls_m) (word 0x130 1 ∷ word 0x230 0x0002_0000 ∷ word 0x0a0 0x60 ∷ [])

-- a page that is zero but for E0H and F0H in service, F5H requested and VPPR F0H
abbrev waiting_page : List ℕ
waiting_page = set_byte (set_vector (set_vector (set_vector zero_page visr 0xe0) visr 0xf0) virr 0xf5) vppr 0xf0

-- the EOI of F0H while F5H waits: its answer, mode and recognition
abbrev eoi_at_f0 : Controls → Numbers → Bool → Bool → Row
eoi_at_f0 c a guest recognised =
    one_event waiting_page (state_of true 0xf5 0xf0 false c) write_eoi a (state_of guest 0xf5 0xe0 recognised c)
    (words (word 0x170 1 ∷ word 0x0a0 0xe0 ∷ []))

-- M with the EOI-exit bit of F0H
abbrev controls_e : Controls
controls_e = record { flags = 0x33; threshold = 0; notification = 0; eoi_exit_0 = 0; eoi_exit_1 = 0; eoi_exit_2 = 0; eoi_exit_3 = 0x1_0000_0000_0000 }

-- evaluation recognises F5H; after exit 45 nothing is recognised
abbrev pub eoi_rows : List Row
eoi_rows = eoi_at_f0 controls_m quiet true true ∷ eoi_at_f0 controls_e (exit 45 0xf0) false false ∷ []

-- E2: an entry at VTPR 4F and VPPR 70, from root mode with RVI 52, SVI 31, an interrupt recognised and controls of its own
abbrev entry_page : List ℕ
entry_page = set_byte (vtpr_page 0x4f) vppr 0x70

abbrev controls_before : Controls
controls_before = record { flags = 0x120; threshold = 3; notification = 0x1f2; eoi_exit_0 = 0; eoi_exit_1 = 1; eoi_exit_2 = 0; eoi_exit_3 = 0 }

abbrev before_entry : Record
before_entry = state_of false 0x52 0x31 true controls_before

abbrev at_entry : Controls → Numbers → Record → PageEnd → Row
at_entry c a state page = one_event entry_page before_entry (Entry c) a state page

-- refused by a check: record and page as before
abbrev check_fails : ℕ → Controls → Row
check_fails check c = at_entry c (refused 4 check) before_entry as_before

-- exit 43: the record has the new controls, in root mode with nothing recognised
abbrev exits43 : Controls → Row
exits43 c = at_entry c (exit 43 0) (state_of false 0x52 0x31 false c) as_before

-- entered: the record has the new controls, in guest mode
abbrev enters : Controls → Bool → PageEnd → Row
enters c recognised page = at_entry c quiet (state_of true 0x52 0x31 recognised c) page

-- each with control 1 off, then on; last, with control 1 off and x2APIC mode
abbrev pub thresholds : List Row
thresholds =
    -- the threshold above VTPR's class
    check_fails 6 (controls 0x01 5) ∷ exits43 (controls 0x03 5) ∷
    -- VTPR's class equal to it
    enters (controls 0x01 4) false as_before ∷ enters (controls 0x03 4) false as_before ∷
    -- the threshold above 15
    check_fails 4 (controls 0x01 16) ∷ check_fails 4 (controls 0x03 16) ∷
    -- above VTPR's class with VID on
    enters (controls 0x31 5) true (words (word 0x0a0 0x4f ∷ [])) ∷ enters (controls 0x33 5) true (words (word 0x0a0 0x4f ∷ [])) ∷
    -- above VTPR's class with the shadow off
    enters (controls 0x00 5) false as_before ∷ enters (controls 0x02 5) false as_before ∷
    -- above VTPR's class in x2APIC mode
    check_fails 6 (controls 0x05 5) ∷ []

-- E1: check 5 at the same entry
abbrev pub posting_checks : List Row
posting_checks =
    -- posting without VID; without acknowledge; with a notification vector above 255
    check_fails 5 (notified 0xf2 0x621 0) ∷ check_fails 5 (notified 0xf2 0x231 0) ∷ check_fails 5 (notified 0x100 0x631 0) ∷
    check_fails 5 (notified 0xffff 0x631 0) ∷
    -- with all three; with posting off, whatever the notification vector
    enters (notified 0xff 0x631 0) true (words (word 0x0a0 0x4f ∷ [])) ∷ enters (notified 0x100 0x431 0) true (words (word 0x0a0 0x4f ∷ [])) ∷
    -- after check 4, before check 6
    check_fails 4 (notified 0xf2 0x621 16) ∷ check_fails 5 (notified 0xf2 0x621 5) ∷ []

-- a descriptor with nothing posted, its byte 32, and marks in the bytes above
abbrev pub unposted : ℕ → List ℕ
unposted byte = replicate 32 0 ++ (byte ∷ replicate 31 0xa5)

-- 31H and 71H posted, the outstanding bit set
abbrev pub two_posted : List ℕ
two_posted = set_byte (set_byte (unposted 0xff) 6 0x02) 14 0x02

-- M, processing posted interrupts
abbrev controls_p : Controls
controls_p = notified 0xf2 0x633 0

-- two vectors posted to a running guest: the higher is delivered, the other waits
abbrev pub posted_run : Row
posted_run =
    from_fresh (given (Entry controls_p) ∷ external two_posted 0xf2 ∷ given boundary_open ∷ []) (quiet ∷ quiet ∷ delivered 0x71 ∷ [])
    (state_of true 0x31 0x71 false controls_p) (words (word 0x130 0x0002_0000 ∷ word 0x210 0x0002_0000 ∷ word 0x230 0 ∷ word 0x0a0 0x70 ∷ []))

-- K1 to K12, the guest that leaves, an EOI with a request waiting, both sides of E2, and E1
abbrev pub bench_rows : List Row
bench_rows =
    (k1 ∷ k1_under_m ∷ k2 ∷ k3 ∷ k4 ∷ k5 ∷ []) ++ k6 ++ k7 ++ k8 ++ k9 ++ k10 ++ k11 ++ (k12 ∷ leaving ∷ []) ++ eoi_rows ++ thresholds ++
    posting_checks ++ (posted_run ∷ [])

-- a row of one external interrupt: page, record, descriptor and vector; then answer, record, page and every byte of the descriptor
pub record Interrupt : Type 0 where
  pub begin : Held
  pub descriptor : List ℕ
  pub vector : ℕ
  pub answer : Numbers
  pub state : Record
  pub page : PageEnd
  pub left : List ℕ

abbrev as_row : Interrupt → Row
as_row x =
    record { begin = x.begin; deed = inputs (external x.descriptor x.vector ∷ []); answers = x.answer ∷ []; state = x.state; page = x.page }

abbrev pub interrupts_hold : List Interrupt → Bool
interrupts_hold [] = true
interrupts_hold (x ∷ xs) =
    row_holds (as_row x) && same_bytes (descriptor_after x.begin.page x.begin.state x.descriptor x.vector) x.left &&
    interrupts_hold xs

-- a guest at VPPR 60H, with 60H in service
abbrev interrupted : Bool → ℕ → Bool → Controls → Record
interrupted guest rvi recognised c = state_of guest rvi 0x60 recognised c

abbrev interrupt : Record → List ℕ → ℕ → Numbers → Record → PageEnd → List ℕ → Interrupt
interrupt r d vector a state page left =
    record { begin = record { page = service_page; state = r }; descriptor = d; vector = vector; answer = a; state = state; page = page; left = left }

-- nothing but the answer comes of it
abbrev untouched : Record → List ℕ → ℕ → Numbers → Interrupt
untouched r d vector a = interrupt r d vector a r as_before d

-- exit 1: nothing but mode and recognition changes
abbrev exits1 : Controls → ℕ → Interrupt
exits1 c vector = interrupt (interrupted true 0x71 true c) two_posted vector (exit 1 0) (interrupted false 0x71 false c) as_before two_posted

abbrev pub interrupt_rows : List Interrupt
interrupt_rows =
    -- posting of 31H and 71H
    interrupt (interrupted true 0 false controls_p) two_posted 0xf2 quiet (interrupted true 0x71 true controls_p)
    (words (word 0x210 0x0002_0000 ∷ word 0x230 0x0002_0000 ∷ word 0x0a0 0x60 ∷ word 0x130 1 ∷ [])) (unposted 0xfe) ∷
    -- RVI is not lowered; with VID off it is the same
    interrupt (interrupted true 0x95 false controls_p) two_posted 0xf2 quiet (interrupted true 0x95 true controls_p)
    (words (word 0x210 0x0002_0000 ∷ word 0x230 0x0002_0000 ∷ [])) (unposted 0xfe) ∷
    interrupt (interrupted true 0 false (notified 0xf2 0x620 0)) two_posted 0xf2 quiet (interrupted true 0x71 true (notified 0xf2 0x620 0))
    (words (word 0x210 0x0002_0000 ∷ word 0x230 0x0002_0000 ∷ [])) (unposted 0xfe) ∷
    -- nothing posted with the outstanding bit set: RVI is the same, the bit is cleared, evaluation is done
    interrupt (interrupted true 0x71 false controls_p) (unposted 0xff) 0xf2 quiet (interrupted true 0x71 true controls_p) as_before (unposted 0xfe) ∷
    interrupt (interrupted true 0 true controls_p) (unposted 0x01) 0xf2 quiet (interrupted true 0 false controls_p) as_before (unposted 0x00) ∷
    -- posted with the outstanding bit clear
    interrupt (interrupted true 0 false controls_p) (set_byte (unposted 0x80) 31 0x80) 0xf2 quiet (interrupted true 0xff true controls_p)
    (words (word 0x270 0x8000_0000 ∷ [])) (unposted 0x80) ∷
    -- the wrong vector; one that has the low eight bits of the notification vector alone; posting off
    exits1 controls_p 0xf3 ∷ exits1 (notified 0x1f2 0x633 0) 0xf2 ∷ exits1 (notified 0xf2 0x433 0) 0xf2 ∷
    -- external-interrupt exiting off
    untouched (interrupted true 0 true (notified 0xf2 0x613 0)) two_posted 0xf2 (numbers 2 0 0) ∷
    -- 63 and 65 bytes; root mode with a short descriptor, and with a whole one
    untouched (interrupted true 0 false controls_p) (replicate 63 0xff) 0xf2 (refused 5 0) ∷
    untouched (interrupted true 0 false controls_p) (replicate 65 0xff) 0xf2 (refused 5 0) ∷
    untouched (interrupted false 0 false controls_p) (replicate 63 0xff) 0xf2 (refused 5 0) ∷
    untouched (interrupted false 0 false controls_p) two_posted 0xf2 (refused 3 0) ∷
    -- a vector above 255, in either mode; a flag above bit 10
    untouched (interrupted true 0 false (notified 0x100 0x633 0)) two_posted 0x100 (refused 2 0) ∷
    untouched (interrupted false 0 false (notified 0x100 0x633 0)) two_posted 0x100 (refused 2 0) ∷
    untouched (interrupted true 0 false (notified 0xf2 0xe33 0)) two_posted 0xf2 (refused 2 0) ∷ []

-- How an input that gets no refusal ends: one walk through the definitions, one case for each way to end, with all that is asked of
-- it: condition 1, the moves and the widths are read off the cases. Assumes nothing.
use Rattle.std.specs.Prelude.{Ok, if◌then◌else◌}
use Prim.Native.Nat.{ℕ, ◌+◌, ◌*◌, ◌%◌, ◌≤◌, ◌<◌}
use native.Mathlib.Omega.{arith}
use mathlib.Core.Path.{◌≡◌, refl, sym, ap, subst}
use mathlib.Core.Bool.{Bool, true, false, not, ◌&&◌, ◌||◌, true≢false, false≢true}
use mathlib.Core.Logic.{◌⊎◌, inl, inr}
use mathlib.Core.List.{List, [], ◌∷◌}
use lib.Dec.{eqb, leb, ltb, lit<}
use lib.ListN.{length}
use borrow.Author.Tests.{eqb-true, ltb-true, leb-true, ne_eqb}
use Rattle.processor.specs.Access.{access, between}
use Rattle.processor.specs.Controls.{virtualize_x2apic_mode, virtual_delivery, virtualize_apic_accesses, use_tpr_shadow, external_interrupt_exiting, interrupt_window_exiting, flags_in_bounds, with_guest, with_recognised, with_controls}
use Rattle.processor.specs.Offsets.{vtpr, veoi, vicr_lo, vicr_hi}
use Rattle.processor.specs.declared.access.Access.{Access}
use Rattle.processor.specs.declared.access.Access.TheVariants.{Passthrough, Exit, Redirected}
use Rattle.processor.specs.declared.controls.Controls.{Controls}
use Rattle.processor.specs.declared.controls.Record.{Record}
use Rattle.processor.proofs.Tests.{left, right, none_left, none_right}
use Rattle.events.specs.Answers.{numbers}
use Rattle.events.specs.declared.answer.Numbers.{Numbers}
use Rattle.events.specs.Events.{offset_in_bounds, size_in_bounds, value_in_bounds, event_in_bounds, root_only, allowed}
use Rattle.events.specs.declared.event.Event.{Event}
use Rattle.events.specs.declared.event.Event.TheVariants.{Entry, Request, MemoryRead, MemoryWrite, ToCr8, FromCr8, Rdmsr, Wrmsr, Boundary}
use Rattle.rules.specs.EntryChecks.{exits_at_entry}
use Rattle.priorities.specs.Priorities.{below_threshold, open_boundary}
use Rattle.table.specs.Table.{in_register, open_offset}
use Rattle.accesses.specs.Accesses.{past_register, access_exits, memory_access, read_qualification, write_qualification, self_ipi, write_following}
use Rattle.accesses.specs.declared.memory.Following.TheVariants.{Tpr, Eoi, SelfIpi, IcrHigh, ApicWrite}
use Rattle.instructions.specs.Instructions.{to_cr8, from_cr8, to_cr8_qualification, from_cr8_qualification, rdmsr_redirected, msr_offset, wrmsr_handled, wrmsr_faults, wrmsr_following, wrmsr}
use Rattle.instructions.specs.declared.msr.MsrWrite.TheVariants.{Passthrough as MsrPassthrough, Fault, Tpr as MsrTpr, Eoi as MsrEoi, SelfIpi as MsrSelfIpi, ApicWrite as MsrApicWrite}
use Rattle.page.specs.Page.{byte_at, word_at, long_at}
use Rattle.sizes.specs.Sizes.{read_at, store_at}
use Rattle.descriptor.specs.Descriptor.{posted_vectors}
use Rattle.meaning.specs.Input.{Input, given, external, leaves}
use Rattle.meaning.specs.After.{After, redirected, passthrough, fault, exit, quiet}
use Rattle.meaning.specs.Procedures.{ppr_virtualization, evaluated_quiet, tpr_virtualization, eoi_virtualization, self_ipi_virtualization}
use Rattle.meaning.specs.Entry.{entry, entered, request}
use Rattle.meaning.specs.Memory.{read_by, memory_read, follow_by, written, write_by, memory_write}
use Rattle.meaning.specs.Cr8Msr.{to_cr8_by, mov_to_cr8, from_cr8_by, mov_from_cr8, read_msr, write_msr_by, write_msr}
use Rattle.meaning.specs.Boundary.{delivery, boundary_at, boundary}
use Rattle.meaning.specs.External.{notifies, posting, external_interrupt}
use Rattle.meaning.specs.Leave.{left as left_of}
use Rattle.meaning.specs.Refusals.{refusal_of}
use Rattle.meaning.specs.Step.{event_out, carried_out}
use Rattle.conditions.specs.Moves.{stays, raises, delivers, retires, is_quiet_or45, retires_if, event_move, move_of}
use Rattle.meaning.proofs.Refused.{Passed, passed}
use Rattle.conditions.proofs.Stored.{Stored, none, stored-word, stored-long, stored-three, stored-write, low-stored}

abbrev quiet_numbers : Numbers
quiet_numbers = numbers 6 0 0

-- a record with RVI and SVI as they were, under the controls in force or those of the entry
pub record Near (i : Input) (r s : Record) : Type 0 where
  pub rvi : s.rvi ≡ r.rvi
  pub svi : s.svi ≡ r.svi
  pub controls : (s.controls ≡ r.controls) ⊎ (i ≡ given (Entry s.controls))

pub near_same : (i : Input) (r : Record) → Near i r r
near_same i r = record { rvi = refl; svi = refl; controls = inl refl }

pub data Ends (p : List ℕ) (r : Record) (i : Input) : After → Type 0 where
  -- nothing is changed
  reads : (value : ℕ) → Ends p r i (redirected value p r)
  passes : Ends p r i (passthrough p r)
  faults : Ends p r i (fault p r)
  -- an exit other than 45, with bytes stored before it or with new controls
  exits : (reason qualification : ℕ) {q : List ℕ} (s : Record) → eqb reason 45 ≡ false → Stored p q → Near i r s → Ends p r i (exit reason qualification q s)
  -- quiet, with bytes stored
  stores : {q : List ℕ} → move_of i quiet_numbers ≡ stays → Stored p q → Ends p r i (quiet q r)
  -- PPR virtualization and evaluation in guest mode
  evaluates : {q : List ℕ} (s : Record) → move_of i quiet_numbers ≡ stays → s.guest ≡ true → virtual_delivery s.controls ≡ true → Stored p q → Near i r s → Ends p r i (evaluated_quiet (ppr_virtualization q s) s)
  -- an entry with delivery off
  enters : (c : Controls) → i ≡ given (Entry c) → virtual_delivery c ≡ false → Ends p r i (quiet p (with_recognised (with_guest (with_controls r c) true) false))
  -- EOI virtualization
  retiring : {q : List ℕ} → ((n : Numbers) → is_quiet_or45 n ≡ true → move_of i n ≡ retires) → r.guest ≡ true → Stored p q → Ends p r i (eoi_virtualization q r)
  -- self-IPI virtualization, request
  sending : {q : List ℕ} (v : ℕ) → move_of i quiet_numbers ≡ raises (v ∷ []) → v < 256 → r.guest ≡ true → Stored p q → Ends p r i (self_ipi_virtualization q r v)
  requesting : (v : ℕ) → move_of i quiet_numbers ≡ raises (v ∷ []) → v < 256 → r.guest ≡ false → Ends p r i (request p r v)
  -- posting
  posts : (d : List ℕ) → move_of i quiet_numbers ≡ raises (posted_vectors d) → r.guest ≡ true → Ends p r i (posting p r d)
  -- delivery
  delivering : move_of i (numbers 5 r.rvi 0) ≡ delivers r.rvi → r.guest ≡ true → r.recognised ≡ true → Ends p r i (delivery p r)
  -- the guest leaves
  leaving : i ≡ leaves → Ends p r i (left_of p r)

not-not : (a : Bool) → not a ≡ false → a ≡ true
not-not true e = refl
not-not false e = sym e

not-true : (a : Bool) → not a ≡ true → a ≡ false
not-true true e = sym e
not-true false e = refl

module _ (p : List ℕ) (r : Record) (i : Input) where
  -- an exit that leaves the record's other parts as they were
  plain-exit : (reason qualification : ℕ) {q : List ℕ} → eqb reason 45 ≡ false → Stored p q → Ends p r i (exit reason qualification q r)
  plain-exit reason qualification n k = exits reason qualification r n k (near_same i r)

  -- TPR virtualization
  ends-tpr : {q : List ℕ} → ((n : Numbers) → move_of i n ≡ stays) → r.guest ≡ true → Stored p q → Ends p r i (tpr_virtualization q r)
  unfolding tpr_virtualization
  ends-tpr {q} m t k = by (virtual_delivery r.controls) refl (below_threshold r.controls (byte_at q vtpr))
    where
      by : (d : Bool) → virtual_delivery r.controls ≡ d → (x : Bool) → Ends p r i (if d then evaluated_quiet (ppr_virtualization q r) r else (if x then exit 43 0 q r else quiet q r))
      by true d x = evaluates r (m quiet_numbers) t d k (near_same i r)
      by false d true = plain-exit 43 0 refl k
      by false d false = stores (m quiet_numbers) k

-- ---- entry
module _ (p : List ℕ) (r : Record) (c : Controls) where
  near-entry : Near (given (Entry c)) r (with_guest (with_controls r c) true)
  near-entry = record { rvi = refl; svi = refl; controls = inr refl }

  ends-entry : Ends p r (given (Entry c)) (entry p r c)
  unfolding entry entered move_of event_move
  ends-entry = by (exits_at_entry c (byte_at p vtpr)) (virtual_delivery c) refl
    where
      by : (x d : Bool) → virtual_delivery c ≡ d → Ends p r (given (Entry c)) (if x then exit 43 0 p (with_controls r c) else (if d then evaluated_quiet (ppr_virtualization p (with_guest (with_controls r c) true)) (with_guest (with_controls r c) true) else quiet p (with_recognised (with_guest (with_controls r c) true) false)))
      by true d e = exits 43 0 (with_controls r c) refl none (record { rvi = refl; svi = refl; controls = inr refl })
      by false true e = evaluates (with_guest (with_controls r c) true) refl refl e none near-entry
      by false false e = enters c refl e

-- ---- a write to memory
module _ (p : List ℕ) (r : Record) (offset size : ℕ) (fetch already : Bool) (value : ℕ) (l : length p ≡ 4096) (t : r.guest ≡ true) where
  abbrev write : Input
  write = given (MemoryWrite (access offset size fetch already) value)

  abbrev written-page : List ℕ
  written-page = store_at p offset size value

  -- what follows the store, by offset
  follows : Stored p written-page → size_in_bounds size ≡ true → eqb size 8 ≡ false → (w x y z : Bool) → eqb offset vtpr ≡ w → (virtual_delivery r.controls && eqb offset veoi) ≡ x → (virtual_delivery r.controls && eqb offset vicr_lo && self_ipi (word_at written-page vicr_lo)) ≡ y → in_register offset vicr_hi ≡ z → Ends p r write (follow_by (if w then Tpr else (if x then Eoi else (if y then SelfIpi else (if z then IcrHigh else ApicWrite)))) written-page r offset)
  unfolding follow_by move_of event_move
  follows k s n true x y z ew ex ey ez = ends-tpr p r write (λ m. rw (eqb-true offset vtpr ew)) t (stored-three p (vtpr + 1) refl k)
  follows k s n false true y z ew ex ey ez =
      retiring (λ m q. rw (eqb-true offset veoi (right (virtual_delivery r.controls) (eqb offset veoi) ex)) (ap retires_if q)) t (stored-word p veoi 0 refl k)
  follows k s n false false true z ew ex ey ez = sending (byte_at written-page vicr_lo) (rw at-icr (ap (λ v. raises (v ∷ [])) (sym low))) (subst (λ v. v < 256) (sym (subst (λ o. byte_at (store_at p o size value) vicr_lo ≡ value % 0x100) (sym at-icr) low)) (omega arith)) t k
    where
      at-icr : offset ≡ vicr_lo
      at-icr = eqb-true offset vicr_lo (right (virtual_delivery r.controls) (eqb offset vicr_lo) (left (virtual_delivery r.controls && eqb offset vicr_lo) (self_ipi (word_at written-page vicr_lo)) ey))

      low : byte_at (store_at p vicr_lo size value) vicr_lo ≡ value % 0x100
      low = low-stored p vicr_lo size value (subst (λ m. vicr_lo < m) (sym l) (lit< tt)) s n
  follows k s n false false false true ew ex ey ez =
      stores (simp (ne_eqb offset vicr_lo (above vicr_lo (lit< tt) from), ne_eqb offset veoi (above veoi (lit< tt) from))) (stored-three p vicr_hi refl k)
    where
      from : vicr_hi ≤ offset
      from = leb-true vicr_hi offset (left (leb vicr_hi offset) (ltb offset (vicr_hi + 4)) ez)

      above : (m : ℕ) → m < vicr_hi → vicr_hi ≤ offset → offset ≡ m → ⊥
      above m l h e = omega arith
  follows k s n false false false false ew ex ey ez = plain-exit p r write 56 offset refl k

  ends-write : event_in_bounds (MemoryWrite (access offset size fetch already) value) ≡ true → Ends p r write (memory_write p r offset size fetch already value)
  unfolding memory_write memory_access write_by written write_following event_in_bounds value_in_bounds
  ends-write e = by (not (virtualize_apic_accesses r.controls)) (access_exits r.controls true offset size fetch already) refl
    where
      in_size : size_in_bounds size ≡ true
      in_size = left (size_in_bounds size) _ (right (offset_in_bounds offset) _ (left (offset_in_bounds offset && value_in_bounds size value) (not fetch) e))

      redirected-end : access_exits r.controls true offset size fetch already ≡ false → Ends p r write (written (store_at p offset size value) r offset)
      redirected-end x =
          follows
          (stored-write p offset size value r.controls (not-not (open_offset r.controls true offset) (none_right up5 (not (open_offset r.controls true offset)) x)) (none_right up4 (past_register offset size) (none_left up5 (not (open_offset r.controls true offset)) x)) in_size not8)
          in_size not8 (eqb offset vtpr) (virtual_delivery r.controls && eqb offset veoi) (virtual_delivery r.controls && eqb offset vicr_lo && self_ipi (word_at (store_at p offset size value) vicr_lo)) (in_register offset vicr_hi) refl refl refl refl
        where
          up2 : Bool
          up2 = not (use_tpr_shadow r.controls) || fetch

          up3 : Bool
          up3 = up2 || eqb size 8

          up4 : Bool
          up4 = up3 || already

          up5 : Bool
          up5 = up4 || past_register offset size

          not8 : eqb size 8 ≡ false
          not8 = none_right up2 (eqb size 8) (none_left up3 already (none_left up4 (past_register offset size) (none_left up5 (not (open_offset r.controls true offset)) x)))

      by : (a x : Bool) → access_exits r.controls true offset size fetch already ≡ x → Ends p r write (write_by (if a then Passthrough else (if x then Exit else Redirected)) p r offset size value)
      by true x q = passes
      by false true q = plain-exit p r write 44 (write_qualification offset) refl none
      by false false q = redirected-end q

-- ---- WRMSR
module _ (p : List ℕ) (r : Record) (index value : ℕ) (t : r.guest ≡ true) where
  -- a handled index that is neither 808H nor 80BH is 83FH
  self-ipi-index : eqb index 0x808 ≡ false → eqb index 0x80b ≡ false → wrmsr_handled r.controls index ≡ true → index ≡ 0x83f
  self-ipi-index a c h = eqb-true index 0x83f (last (eqb index 0x808) (eqb index 0x80b) (eqb index 0x83f) (virtual_delivery r.controls) a c (right (virtualize_x2apic_mode r.controls) _ h))
    where
      last : (x y z d : Bool) → x ≡ false → y ≡ false → (x || d && (y || z)) ≡ true → z ≡ true
      last true y z d q s h = absurd (true≢false q)
      last false true z d q s h = absurd (true≢false s)
      last false false z true q s h = h
      last false false z false q s h = absurd (false≢true h)

  msr-follows : (w x y : Bool) → eqb index 0x808 ≡ w → eqb index 0x80b ≡ x → wrmsr_handled r.controls index ≡ true → Ends p r (given (Wrmsr index value)) (write_msr_by (if w then MsrTpr else (if x then MsrEoi else (if y then MsrApicWrite else MsrSelfIpi))) p r index value)
  unfolding write_msr_by move_of event_move
  msr-follows true x y ew ex h = rw (eqb-true index 0x808 ew) (ends-tpr p r (given (Wrmsr 0x808 value)) (λ m. refl) t (stored-long p 0x080 value refl refl none))
  msr-follows false true y ew ex h = rw (eqb-true index 0x80b ex) (retiring (λ m q. ap retires_if q) t (stored-long p 0x0b0 value refl refl none))
  msr-follows false false true ew ex h = rw (self-ipi-index ew ex h) (plain-exit p r (given (Wrmsr 0x83f value)) 56 0x3f0 refl (stored-long p 0x3f0 value refl refl none))
  msr-follows false false false ew ex h = rw (self-ipi-index ew ex h) (sending (value % 0x100) refl (omega arith) t (stored-long p 0x3f0 value refl refl none))

  ends-wrmsr : Ends p r (given (Wrmsr index value)) (write_msr p r index value)
  unfolding write_msr wrmsr wrmsr_following write_msr_by
  ends-wrmsr = by (wrmsr_handled r.controls index) refl (wrmsr_faults index value)
    where
      by : (h : Bool) → wrmsr_handled r.controls index ≡ h → (f : Bool) → Ends p r (given (Wrmsr index value)) (write_msr_by (if not h then MsrPassthrough else (if f then Fault else wrmsr_following index value)) p r index value)
      by false e f = passes
      by true e true = faults
      by true e false = msr-follows (eqb index 0x808) (eqb index 0x80b) (ltb (value % 0x100) 16) refl refl e

-- ---- the other events
module _ (p : List ℕ) (r : Record) where
  ends_read : (x : Access) (offset size : ℕ) (fetch already : Bool) → Ends p r (given (MemoryRead (access offset size fetch already))) (read_by x p r offset size fetch)
  unfolding read_by
  ends_read Passthrough offset size fetch already = passes
  ends_read Exit offset size fetch already = plain-exit p r (given (MemoryRead (access offset size fetch already))) 44 (read_qualification offset fetch) refl none
  ends_read Redirected offset size fetch already = reads (read_at p offset size)

  ends-to-cr8 : (x : Access) (value register : ℕ) → r.guest ≡ true → Ends p r (given (ToCr8 value register)) (to_cr8_by x p r value register)
  unfolding to_cr8_by move_of event_move
  ends-to-cr8 Passthrough value register t = passes
  ends-to-cr8 Exit value register t = plain-exit p r (given (ToCr8 value register)) 28 (to_cr8_qualification register) refl none
  ends-to-cr8 Redirected value register t = ends-tpr p r (given (ToCr8 value register)) (λ n. refl) t (stored-word p vtpr (16 * value) refl none)

  ends-from-cr8 : (x : Access) (register : ℕ) → Ends p r (given (FromCr8 register)) (from_cr8_by x p r register)
  unfolding from_cr8_by
  ends-from-cr8 Passthrough register = passes
  ends-from-cr8 Exit register = plain-exit p r (given (FromCr8 register)) 28 (from_cr8_qualification register) refl none
  ends-from-cr8 Redirected register = reads _

  ends-rdmsr : (index : ℕ) → Ends p r (given (Rdmsr index)) (read_msr p r index)
  unfolding read_msr
  ends-rdmsr index = by (rdmsr_redirected r.controls index)
    where
      by : (x : Bool) → Ends p r (given (Rdmsr index)) (if x then redirected (long_at p (msr_offset index)) p r else passthrough p r)
      by true = reads (long_at p (msr_offset index))
      by false = passes

  ends-boundary : (interrupts sti movSs : Bool) (activity : ℕ) → r.guest ≡ true → Ends p r (given (Boundary (between interrupts sti movSs activity))) (boundary p r interrupts sti movSs activity)
  unfolding boundary boundary_at move_of event_move
  ends-boundary interrupts sti movSs activity t = by (open_boundary interrupts sti movSs activity && interrupt_window_exiting r.controls) (open_boundary interrupts sti movSs activity && r.recognised) refl
    where
      by : (x y : Bool) → (open_boundary interrupts sti movSs activity && r.recognised) ≡ y → Ends p r (given (Boundary (between interrupts sti movSs activity))) (if x then exit 7 0 p r else (if y then delivery p r else quiet p r))
      by true y q = plain-exit p r (given (Boundary (between interrupts sti movSs activity))) 7 0 refl none
      by false true q = delivering refl t (right (open_boundary interrupts sti movSs activity) r.recognised q)
      by false false q = stores refl none

  ends-external : (d : List ℕ) (vector : ℕ) → r.guest ≡ true → Ends p r (external d vector) (external_interrupt p r d vector)
  unfolding external_interrupt move_of
  ends-external d vector t = by (not (external_interrupt_exiting r.controls)) (not (notifies r.controls vector))
    where
      by : (x y : Bool) → Ends p r (external d vector) (if x then passthrough p r else (if y then exit 1 0 p r else posting p r d))
      by true y = passes
      by false true = plain-exit p r (external d vector) 1 0 refl none
      by false false = posts d refl t

  in-guest : (e : Event) → root_only e ≡ false → allowed r e ≡ true → r.guest ≡ true
  unfolding allowed
  in-guest e n a = simp n at a

  ends-event : (e : Event) → length p ≡ 4096 → event_in_bounds e ≡ true → allowed r e ≡ true → Ends p r (given e) (event_out p r e)
  unfolding event_out root_only move_of event_move memory_read mov_to_cr8 mov_from_cr8
  ends-event (Entry c) l i a = ends-entry p r c
  ends-event (Request vector) l i a = requesting vector refl (ltb-true vector 256 (unfold event_in_bounds in i)) (not-true r.guest (unfold allowed in a))
  ends-event (MemoryRead a) l i m = ends_read (memory_access r.controls false a.offset a.size a.fetch a.already) a.offset a.size a.fetch a.already
  ends-event (MemoryWrite a value) l i m = ends-write p r a.offset a.size a.fetch a.already value l (in-guest (MemoryWrite a value) refl m) i
  ends-event (ToCr8 value register) l i a = ends-to-cr8 (to_cr8 r.controls) value register (in-guest (ToCr8 value register) refl a)
  ends-event (FromCr8 register) l i a = ends-from-cr8 (from_cr8 r.controls) register
  ends-event (Rdmsr index) l i a = ends-rdmsr index
  ends-event (Wrmsr index value) l i a = ends-wrmsr p r index value (in-guest (Wrmsr index value) refl a)
  ends-event (Boundary at) l i a = ends-boundary at.interrupts at.sti at.mov_ss at.activity (in-guest (Boundary at) refl a)

  -- every input that passes the refusals' tests
  ends-passed : (i : Input) → Passed p r i → Ends p r i (carried_out p r i)
  unfolding carried_out
  ends-passed (given e) t = ends-event e (eqb-true (length p) 4096 t.page) (right (flags_in_bounds r.controls) (event_in_bounds e) t.fields) t.mode
  ends-passed (external d vector) t = ends-external d vector t.mode
  ends-passed leaves t = leaving refl

  pub ends : (i : Input) → refusal_of p r i ≡ Ok tt → Ends p r i (carried_out p r i)
  ends i e = ends-passed i (passed p r i e)

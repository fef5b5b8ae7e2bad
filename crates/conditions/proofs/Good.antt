-- What each way to end does: the move, and that the record stays settled. Assumes nothing.
use Rattle.std.specs.Prelude.{if◌then◌else◌}
use Prim.Native.Nat.{ℕ, ◌/◌, ◌%◌, ◌≤◌, ◌<◌}
use native.Mathlib.Nat.{le_refl}
use native.Mathlib.Omega.{arith}
use mathlib.Core.Path.{◌≡◌, refl, sym, ◌∙◌, ap, subst}
use mathlib.Core.Bool.{Bool, true, false, not, ◌||◌, true≢false, false≢true}
use mathlib.Core.List.{List, [], ◌∷◌}
use lib.Dec.{eqb, leb, lit≤}
use borrow.Author.Tests.{leb-true, le-ltb}
use Rattle.processor.specs.Logic.{larger, member}
use Rattle.events.specs.declared.answer.Numbers.{Numbers}
use Rattle.events.specs.Answers.{numbers}
use Rattle.processor.specs.Controls.{virtual_delivery, eoi_exit, interrupt_window_exiting, with_guest, with_rvi, with_svi, with_recognised, with_controls}
use Rattle.priorities.specs.Priorities.{class, low_cleared, ppr, evaluated}
use Rattle.processor.specs.declared.controls.Controls.{Controls}
use Rattle.processor.specs.declared.controls.Record.{Record}
use Rattle.events.specs.declared.event.Event.{Event}
use Rattle.events.specs.declared.event.Event.TheVariants.{Entry, Request, MemoryRead, MemoryWrite, ToCr8, FromCr8, Rdmsr, Wrmsr, Boundary}
use Rattle.processor.proofs.Tests.{none_left, never}
use Rattle.processor.specs.Offsets.{vtpr, vppr, veoi, visr, virr, vicr_lo}
use Rattle.page.specs.Page.{byte_at, IsPage}
use Rattle.stores.specs.Stores.{set_word}
use Rattle.registers.specs.Vectors.{is_set, set_vector, highest, put}
use Rattle.register_laws.proofs.Registers.{highest-ext, highest-fewer, highest-byte}
use Rattle.descriptor.specs.Descriptor.{highest_posted, posted_vectors, raised_by, joined}
use Rattle.meaning.specs.Input.{Input, given, external, leaves}
use Rattle.meaning.specs.After.{After, exit, quiet}
use Rattle.meaning.specs.Procedures.{ppr_virtualization, evaluation, evaluated_quiet, retired_page, retired_record, eoi_end, eoi_virtualization, requested_page, requested_record, self_ipi_virtualization}
use Rattle.meaning.specs.Entry.{request}
use Rattle.meaning.specs.Boundary.{delivered_page, delivered_record, delivery}
use Rattle.meaning.specs.External.{posted_record, posting}
use Rattle.meaning.specs.Leave.{left}
use Rattle.conditions.specs.Moves.{Move, stays, raises, delivers, retires, is_quiet, is_delivered, is_quiet_or45, raises_if, retires_if, delivers_if, event_move, move_of, Moved}
use Rattle.meaning.specs.Widths.{ByteRecord}
use Rattle.conditions.specs.Settled.{Settled}
use Rattle.conditions.specs.History.{delivery_on}
use Rattle.conditions.proofs.Kept.{Same, Kept, same_refl, kept, same-vppr, vppr-stored}
use Rattle.conditions.proofs.Endings.{Ends, reads, passes, faults, exits, stores, evaluates, enters, retiring, sending, requesting, posts, delivering, leaving}
use Rattle.conditions.proofs.Posting.{posted-bytes, largest-posted, page-joined, joined-requests, joined-services, joined-vppr}
use Rattle.conditions.proofs.Put.{page-put, bits_put, visr-keeps-requests, virr-keeps-services, put-keeps-vppr}

-- what an input left: a page, the move that its answer names, and a settled record where it was settled
pub record Good (p : List ℕ) (r : Record) (i : Input) (a : After) : Type 0 where
  pub is_page : IsPage a.page
  pub moved : Moved (move_of i a.answer) p r a
  pub named : is_delivered a.answer ≡ true → move_of i a.answer ≡ delivers a.answer.first
  pub settled : r.rvi ≡ highest p virr → Settled p r → delivery_on i ≡ true → Settled a.page a.state

-- ---- an answer that is neither quiet, exit 45 nor delivered goes with no move
no_move : (x y q z : Bool) (vs : List ℕ) → q ≡ false → z ≡ false → (if x then raises_if q vs else (if y then retires_if z else stays)) ≡ stays
no_move x y true z vs a d = absurd (true≢false a)
no_move x y false true vs a d = absurd (true≢false d)
no_move true y false false vs a d = refl
no_move false true false false vs a d = refl
no_move false false false false vs a d = refl

stays-event : (e : Event) (n : Numbers) → is_quiet_or45 n ≡ false → is_delivered n ≡ false → event_move e n ≡ stays
unfolding event_move
stays-event (Entry controls) n a d = refl
stays-event (Request vector) n a d = ap (λ q. raises_if q (vector ∷ [])) (none_left (is_quiet n) _ a)
stays-event (MemoryRead access) n a d = refl
stays-event (MemoryWrite access value) n a d =
    no_move (eqb access.offset vicr_lo) (eqb access.offset veoi) (is_quiet n) (is_quiet_or45 n) (value % 0x100 ∷ []) (none_left (is_quiet n) _ a) a
stays-event (ToCr8 value register) n a d = refl
stays-event (FromCr8 register) n a d = refl
stays-event (Rdmsr index) n a d = refl
stays-event (Wrmsr index value) n a d =
    no_move (eqb index 0x83f) (eqb index 0x80b) (is_quiet n) (is_quiet_or45 n) (value % 0x100 ∷ []) (none_left (is_quiet n) _ a) a
stays-event (Boundary at) n a d = ap (λ q. delivers_if q n.first) d

stays-other : (i : Input) (n : Numbers) → is_quiet_or45 n ≡ false → is_delivered n ≡ false → move_of i n ≡ stays
unfolding move_of
stays-other (given e) n a d = stays-event e n a d
stays-other (external l vector) n a d = ap (λ q. raises_if q (posted_vectors l)) (none_left (is_quiet n) _ a)
stays-other leaves n a d = refl

-- evaluation in guest mode settles
settled-evaluated : (q : List ℕ) (s : Record) → s.guest ≡ true → virtual_delivery s.controls ≡ true → class s.svi ≤ class (byte_at q vppr) → Settled q (evaluation q s)
unfolding evaluation
settled-evaluated q s t d l = record { on = λ x. d; recognised = simp t; priority = λ x. l }

-- root mode with nothing recognised is settled
settled_root : (q : List ℕ) (s : Record) → Settled q (with_recognised (with_guest s false) false)
settled_root q s = record { on = λ t. absurd (false≢true t); recognised = refl; priority = λ t. absurd (false≢true t) }

-- PPR virtualization keeps the bits, and VPPR's class is then at least SVI's
same-ppr : (p q : List ℕ) (s : Record) → Same p q → Same p (ppr_virtualization q s)
unfolding ppr_virtualization
same-ppr p q s k = same-vppr p q _ k

ppr-least : (t s : ℕ) → t < 256 → s < 256 → class s ≤ class (ppr t s % 0x100)
unfolding ppr
ppr-least t s ht hs = by (leb (class s) (class t)) refl
  where
    by : (b : Bool) → leb (class s) (class t) ≡ b → class s ≤ class ((if b then t else low_cleared s) % 0x100)
    by true e = over (leb-true (class s) (class t) e)
      where
        over : s / 16 ≤ t / 16 → s / 16 ≤ t % 0x100 / 16
        over l = omega arith
    by false e = omega arith

ppr-class : (q : List ℕ) (s : Record) → IsPage q → s.svi < 256 → class s.svi ≤ class (byte_at (ppr_virtualization q s) vppr)
unfolding ppr_virtualization
ppr-class q s g h = rw (vppr-stored q (ppr (byte_at q vtpr) s.svi) g) (ppr-least (byte_at q vtpr) s.svi (g.bytes vtpr) h)

put_same : (f f' : ℕ → Bool) (v : ℕ) (on : Bool) (w : ℕ) → f w ≡ f' w → put f v on w ≡ put f' v on w
put_same f f' v on w e = ap (λ x. if eqb v w then on else x) e

-- EOI virtualization's page and record, before and after PPR virtualization
abbrev end_record : List ℕ → Record → Record
end_record q r = with_svi r (highest (retired_page q r) visr)

abbrev end_page : List ℕ → Record → List ℕ
end_page q r = ppr_virtualization (retired_page q r) (end_record q r)

module _ (q : List ℕ) (r : Record) (g : IsPage q) (h : r.svi < 256) where
  retired-page : IsPage (retired_page q r)
  unfolding retired_page
  retired-page = page-put q r.svi false g h visr

  retired-request : (w : ℕ) → w < 256 → is_set (retired_page q r) virr w ≡ is_set q virr w
  unfolding retired_page
  retired-request w l = visr-keeps-requests q r.svi false g h w l

  retired-service : (w : ℕ) → is_set (retired_page q r) visr w ≡ put (is_set q visr) r.svi false w
  unfolding retired_page
  retired-service w = bits_put q r.svi false g h visr (lit≤ tt) w

-- the page after a delivery
abbrev served_page : List ℕ → ℕ → List ℕ
served_page p v = set_word (set_vector p visr v) vppr (low_cleared v)

module _ (p : List ℕ) (v : ℕ) (g : IsPage p) (h : v < 256) where
  served : Same (set_vector p visr v) (served_page p v)
  served = same-vppr (set_vector p visr v) (set_vector p visr v) (low_cleared v) (same_refl (set_vector p visr v) (page-put p v true g h visr))

  delivered-page : IsPage (delivered_page p v)
  unfolding delivered_page
  delivered-page = page-put (served_page p v) v false served.is_page h virr

  delivered-request : (w : ℕ) → w < 256 → is_set (delivered_page p v) virr w ≡ put (is_set p virr) v false w
  unfolding delivered_page
  delivered-request w l =
      bits_put (served_page p v) v false served.is_page h virr (lit≤ tt) w
      ∙ put_same (is_set (served_page p v) virr) (is_set p virr) v false w (served.request w l ∙ visr-keeps-requests p v true g h w l)

  delivered-service : (w : ℕ) → w < 256 → is_set (delivered_page p v) visr w ≡ put (is_set p visr) v true w
  unfolding delivered_page
  delivered-service w l =
      virr-keeps-services (served_page p v) v false served.is_page h w l ∙ served.service w l ∙ bits_put p v true g h visr (lit≤ tt) w

  delivered-vppr : byte_at (delivered_page p v) vppr ≡ low_cleared v % 0x100
  unfolding delivered_page
  delivered-vppr =
      put-keeps-vppr (served_page p v) v false served.is_page h virr (lit≤ tt)
      ∙ vppr-stored (set_vector p visr v) (low_cleared v) (page-put p v true g h visr)

  -- no request is left above the one delivered
  delivered-fewer : highest (delivered_page p v) virr ≤ highest p virr
  delivered-fewer = highest-fewer p (delivered_page p v) virr (λ w l s. only w (eqb v w) (sym (delivered-request w l) ∙ s))
    where
      only : (w : ℕ) (x : Bool) → (if x then false else is_set p virr w) ≡ true → is_set p virr w ≡ true
      only w true y = absurd (false≢true y)
      only w false y = y

-- one vector put on a row of bits: a list of one raised
put-raised : (f : ℕ → Bool) (v w : ℕ) → put f v true w ≡ (member w (v ∷ []) || f w)
put-raised f v w = by (eqb v w)
  where
    by : (b : Bool) → (if b then true else f w) ≡ ((b || false) || f w)
    by true = refl
    by false = refl

module _ (p : List ℕ) (r : Record) (i : Input) (g : IsPage p) (b : ByteRecord r) where
  moved-stays : {m : Move} (a : After) → m ≡ stays → Same p a.page → a.state.rvi ≡ r.rvi → a.state.svi ≡ r.svi → Moved m p r a
  moved-stays a q k x y = rw q (record { vector = tt; request = k.request; service = k.service; rvi = x; svi = y })

  -- nothing is changed, and the answer goes with no move
  pub good-same : (n : Numbers) → is_quiet_or45 n ≡ false → is_delivered n ≡ false → Good p r i (record { answer = n; state = r; page = p })
  good-same n q f = record {
    is_page = g;
    moved = moved-stays (record { answer = n; state = r; page = p }) (stays-other i n q f) (same_refl p g) refl refl;
    named = λ x. absurd (true≢false (sym x ∙ f));
    settled = λ t s d. s;
  }

  -- an exit other than 45
  good-exit : (reason qualification : ℕ) (q : List ℕ) (s : Record) → eqb reason 45 ≡ false → Same p q → s.rvi ≡ r.rvi → s.svi ≡ r.svi → Good p r i (exit reason qualification q s)
  good-exit reason qualification q s n k x y = record {
    is_page = k.is_page;
    moved = moved-stays (exit reason qualification q s) (stays-other i (numbers 4 reason qualification) n refl) k x y;
    named = λ z. absurd (false≢true z);
    settled = λ t s' d. settled_root q s;
  }

  -- quiet, with bytes stored
  good-quiet : (q : List ℕ) → move_of i (numbers 6 0 0) ≡ stays → Kept p q → Good p r i (quiet q r)
  good-quiet q m k = record {
    is_page = k.same.is_page;
    moved = moved-stays (quiet q r) m k.same refl refl;
    named = λ x. absurd (false≢true x);
    settled = λ t s d. record {
      on = s.on;
      recognised = s.recognised ∙ ap (λ x. if r.guest then evaluated r.controls r.rvi x else false) (sym k.vppr);
      priority = λ x. subst (λ y. class r.svi ≤ class y) (sym k.vppr) (s.priority x);
    };
  }

  -- PPR virtualization and evaluation in guest mode, with RVI and SVI as they were
  good-evaluated : (q : List ℕ) (s : Record) → move_of i (numbers 6 0 0) ≡ stays → s.guest ≡ true → virtual_delivery s.controls ≡ true → Same p q → s.rvi ≡ r.rvi → s.svi ≡ r.svi → Good p r i (evaluated_quiet (ppr_virtualization q s) s)
  unfolding evaluated_quiet evaluation
  good-evaluated q s m t d k x y = record {
    is_page = (same-ppr p q s k).is_page;
    moved = moved-stays (evaluated_quiet (ppr_virtualization q s) s) m (same-ppr p q s k) x y;
    named = λ z. absurd (false≢true z);
    settled = λ h s' o. settled-evaluated (ppr_virtualization q s) s t d (ppr-class q s k.is_page (subst (λ v. v < 256) (sym y) b.svi));
  }

  -- an entry with delivery off, which the premise excludes
  good-enters : (c : Controls) → i ≡ given (Entry c) → virtual_delivery c ≡ false → Good p r i (quiet p (with_recognised (with_guest (with_controls r c) true) false))
  unfolding move_of event_move
  good-enters c e d = record {
    is_page = g;
    moved = moved-stays (quiet p (with_recognised (with_guest (with_controls r c) true) false)) (ap (λ j. move_of j (numbers 6 0 0)) e) (same_refl p g) refl refl;
    named = λ x. absurd (false≢true x);
    settled = λ t s o. absurd (true≢false (sym o ∙ ap delivery_on e ∙ d));
  }

  -- EOI virtualization
  good-eoi : (q : List ℕ) → ((n : Numbers) → is_quiet_or45 n ≡ true → move_of i n ≡ retires) → r.guest ≡ true → Kept p q → Good p r i (eoi_virtualization q r)
  unfolding eoi_virtualization eoi_end evaluated_quiet evaluation retired_record
  good-eoi q m t k = by (eoi_exit r.controls r.svi) refl
    where
      page₁ : IsPage (retired_page q r)
      page₁ = retired-page q r k.same.is_page b.svi

      kept₂ : Same (retired_page q r) (end_page q r)
      kept₂ = same-ppr (retired_page q r) (retired_page q r) (end_record q r) (same_refl (retired_page q r) page₁)

      moved₂ : (n : Numbers) (s : Record) → move_of i n ≡ retires → s.rvi ≡ r.rvi → s.svi ≡ highest (retired_page q r) visr → Moved (move_of i n) p r (record { answer = n; state = s; page = end_page q r })
      moved₂ n s c x y = rw c (record {
        vector = tt;
        request = λ w h. kept₂.request w h ∙ retired-request q r k.same.is_page b.svi w h ∙ k.same.request w h;
        service = λ w h. kept₂.service w h ∙ retired-service q r k.same.is_page b.svi w ∙ put_same (is_set q visr) (is_set p visr) r.svi false w (k.same.service w h);
        rvi = x;
        svi = y ∙ sym (highest-ext (end_page q r) (retired_page q r) visr kept₂.service);
      })

      by : (x : Bool) → eoi_exit r.controls r.svi ≡ x → Good p r i (eoi_virtualization q r)
      by true x = simp x (record {
        is_page = kept₂.is_page;
        moved = moved₂ (numbers 4 45 r.svi) _ (m (numbers 4 45 r.svi) refl) refl refl;
        named = λ y. absurd (false≢true y);
        settled = λ h s d. settled_root (end_page q r) (end_record q r);
      })
      by false x = simp x (record {
        is_page = kept₂.is_page;
        moved = moved₂ (numbers 6 0 0) _ (m (numbers 6 0 0) refl) refl refl;
        named = λ y. absurd (false≢true y);
        settled = λ h s d. settled-evaluated (end_page q r) (end_record q r) t (s.on t) (ppr-class (retired_page q r) (end_record q r) page₁ (highest-byte (retired_page q r) visr));
      })

  -- what a raised vector does to the bits
  moved-raises : {m : Move} (q : List ℕ) (v : ℕ) (a : After) → m ≡ raises (v ∷ []) → v < 256 → Same p q → a.page ≡ set_vector q virr v → a.state.rvi ≡ larger r.rvi v → a.state.svi ≡ r.svi → Moved m p r a
  moved-raises q v a c h k x y z = rw c (record {
    vector = (h, tt);
    request = λ w l. ap (λ u. is_set u virr w) x ∙ bits_put q v true k.is_page h virr (lit≤ tt) w ∙ put_same (is_set q virr) (is_set p virr) v true w (k.request w l) ∙ put-raised (is_set p virr) v w;
    service = λ w l. ap (λ u. is_set u visr w) x ∙ virr-keeps-services q v true k.is_page h w l ∙ k.service w l;
    rvi = y;
    svi = z;
  })

  -- self-IPI virtualization
  good-self-ipi : (q : List ℕ) (v : ℕ) → move_of i (numbers 6 0 0) ≡ raises (v ∷ []) → v < 256 → r.guest ≡ true → Kept p q → Good p r i (self_ipi_virtualization q r v)
  unfolding self_ipi_virtualization evaluated_quiet evaluation requested_page requested_record
  good-self-ipi q v m h t k = record {
    is_page = page-put q v true k.same.is_page h virr;
    moved = moved-raises q v (self_ipi_virtualization q r v) m h k.same refl refl refl;
    named = λ x. absurd (false≢true x);
    settled = λ x s d. settled-evaluated (set_vector q virr v) (with_rvi r (larger r.rvi v)) t (s.on t)
        (subst (λ y. class r.svi ≤ class y) (sym (put-keeps-vppr q v true k.same.is_page h virr (lit≤ tt) ∙ k.vppr)) (s.priority t));
  }

  -- a request
  good-request : (v : ℕ) → move_of i (numbers 6 0 0) ≡ raises (v ∷ []) → v < 256 → r.guest ≡ false → Good p r i (request p r v)
  unfolding request requested_page requested_record
  good-request v m h t = record {
    is_page = page-put p v true g h virr;
    moved = moved-raises p v (request p r v) m h (same_refl p g) refl refl refl;
    named = λ x. absurd (false≢true x);
    settled = λ x s d. record {
      on = s.on;
      recognised = s.recognised ∙ simp t;
      priority = λ y. absurd (true≢false (sym y ∙ t));
    };
  }

  -- a posting
  good-posting : (d : List ℕ) → move_of i (numbers 6 0 0) ≡ raises (posted_vectors d) → r.guest ≡ true → Good p r i (posting p r d)
  unfolding posting posted_record evaluated_quiet evaluation
  good-posting d m t = record {
    is_page = page-joined p d g;
    moved = rw m (record {
      vector = posted-bytes d;
      request = joined-requests p d g;
      service = joined-services p d g;
      rvi = sym (largest-posted d r.rvi);
      svi = refl;
    });
    named = λ x. absurd (false≢true x);
    settled = λ x s o. settled-evaluated (joined p d) (with_rvi r (raised_by r.rvi (highest_posted d))) t (s.on t)
        (subst (λ y. class r.svi ≤ class y) (sym (joined-vppr p d g)) (s.priority t));
  }

  -- the guest leaves
  good_left : i ≡ leaves → Good p r i (left p r)
  unfolding left move_of
  good_left e = record {
    is_page = g;
    moved = moved-stays (left p r) (ap (λ j. move_of j (numbers 6 0 0)) e) (same_refl p g) refl refl;
    named = λ x. absurd (false≢true x);
    settled = λ x s d. settled_root p r;
  }

  -- a delivery
  good-delivery : move_of i (numbers 5 r.rvi 0) ≡ delivers r.rvi → r.guest ≡ true → r.recognised ≡ true → Good p r i (delivery p r)
  unfolding delivery delivered_record
  good-delivery m t y = record {
    is_page = delivered-page p r.rvi g b.rvi;
    moved = rw m (record {
      vector = record { is_rvi = refl; guest = t; recognised = y };
      request = delivered-request p r.rvi g b.rvi;
      service = delivered-service p r.rvi g b.rvi;
      rvi = refl;
      svi = refl;
    });
    named = λ x. m;
    settled = λ x s d. record {
      on = s.on;
      recognised = simp t (sym (unrecognised (subst (λ y. highest (delivered_page p r.rvi) virr ≤ y) (sym x) (delivered-fewer p r.rvi g b.rvi))));
      priority = λ y. rw (delivered-vppr p r.rvi g b.rvi) (not-above r.rvi r.rvi b.rvi (le_refl r.rvi));
    };
  }
    where
      not-above : (n u : ℕ) → u < 256 → n ≤ u → class n ≤ class (low_cleared u % 0x100)
      not-above n u h l = omega arith

      unrecognised : highest (delivered_page p r.rvi) virr ≤ r.rvi → evaluated r.controls (highest (delivered_page p r.rvi) virr) (byte_at (delivered_page p r.rvi) vppr) ≡ false
      unrecognised l =
          simp (delivered-vppr p r.rvi g b.rvi, le-ltb (class (low_cleared r.rvi % 0x100)) (class (highest (delivered_page p r.rvi) virr)) (not-above (highest (delivered_page p r.rvi) virr) r.rvi b.rvi l))
          (never (not (interrupt_window_exiting r.controls)))

  -- every way to end
  pub good : {a : After} → Ends p r i a → Good p r i a
  good (reads value) = good-same (numbers 1 value 0) refl refl
  good passes = good-same (numbers 2 0 0) refl refl
  good faults = good-same (numbers 3 0 0) refl refl
  good (exits reason qualification s n k m) = good-exit reason qualification _ s n (kept g k).same m.rvi m.svi
  good (stores m k) = good-quiet _ m (kept g k)
  good (evaluates s m t d k n) = good-evaluated _ s m t d (kept g k).same n.rvi n.svi
  good (enters c e d) = good-enters c e d
  good (retiring m t k) = good-eoi _ m t (kept g k)
  good (sending v m h t k) = good-self-ipi _ v m h t (kept g k)
  good (requesting v m h t) = good-request v m h t
  good (posts d m t) = good-posting d m t
  good (delivering m t y) = good-delivery m t y
  good (leaving e) = good_left e

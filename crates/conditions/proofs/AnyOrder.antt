-- Posting is the same as requesting the posted vectors one at a time, in any order: a page is fixed by its request bits and by its bytes
-- beside them, and RVI by which vectors are raised. Assumes nothing.
use Rattle.std.specs.Prelude.{if◌then◌else◌}
use Prim.Native.Nat.{ℕ, zero, suc, ◌+◌, ◌-◌, ◌*◌, ◌/◌, ◌%◌, ◌^◌, ◌≤◌, ◌<◌}
use native.Mathlib.Omega.{arith}
use mathlib.Core.Path.{◌≡◌, refl, sym, ◌∙◌, ap}
use mathlib.Core.Bool.{Bool, true, false, ◌||◌}
use mathlib.Core.List.{List, [], ◌∷◌}
use lib.Dec.{eqb, ltb, eqb→eq, lit≤}
use lib.Seq.{ext_get_or, get_or-set_other}
use borrow.Author.Tests.{eqb-true, eqb-false, eq-eqb, ltb-true, ltb-false}
use Rattle.processor.specs.Logic.{bit, member}
use Rattle.processor.specs.Controls.{with_rvi}
use Rattle.processor.specs.Offsets.{virr}
use Rattle.processor.specs.declared.controls.Record.{Record}
use Rattle.processor.proofs.Tests.{below}
use Rattle.page.specs.Page.{byte_at, IsPage}
use Rattle.registers.specs.Vectors.{vector_byte, put_vector, set_vector, is_set}
use Rattle.registers.proofs.Top.{top, top-ext, top_unique}
use Rattle.descriptor.specs.Descriptor.{posted, posted_vectors, place_of, joined}
use Rattle.descriptor.proofs.Joined.{joined-other}
use Rattle.descriptor.proofs.Places.{places-member}
use Rattle.meaning.specs.Procedures.{evaluated_quiet, requested_page, requested_record}
use Rattle.meaning.specs.External.{posted_record, posting}
use Rattle.conditions.specs.Moves.{largest, Bytes}
use Rattle.conditions.specs.Requests.{requested_pages, requested_records, Exactly}
use Rattle.conditions.proofs.Put.{page-put, bits_put}
use Rattle.conditions.proofs.Raised.{top-raises}
use Rattle.conditions.proofs.Posting.{posted-bytes, largest-posted, page-joined, joined-requests}

-- ---- a byte is fixed by its eight bits
abbrev one : Bool → ℕ
one true = 1
one false = 0

abbrev of_bits : (ℕ → Bool) → ℕ → ℕ
of_bits f zero = 0
of_bits f (suc k) = one (f k) * 2 ^ k + of_bits f k

byte-bits : (b : ℕ) → b < 256 → b ≡ of_bits (bit b) 8
byte-bits b h = eqb→eq b (of_bits (bit b) 8) (below 256 (λ b. eqb b (of_bits (bit b) 8)) tt b h)

bits-ext : (f g : ℕ → Bool) (n : ℕ) → ((k : ℕ) → k < n → f k ≡ g k) → of_bits f n ≡ of_bits g n
bits-ext f g zero h = refl
bits-ext f g (suc k) h = simp (h k (omega arith), bits-ext f g k (λ j l. h j (omega arith)))

byte-ext : (a b : ℕ) → a < 256 → b < 256 → ((k : ℕ) → k < 8 → bit a k ≡ bit b k) → a ≡ b
byte-ext a b ha hb h = byte-bits a ha ∙ bits-ext (bit a) (bit b) 8 h ∙ sym (byte-bits b hb)

-- ---- a page with request bits of its own, and every other byte as on p
pub record Requested (f : ℕ → Bool) (p q : List ℕ) : Type 0 where
  pub is_page : IsPage q
  pub request : (w : ℕ) → w < 256 → is_set q virr w ≡ (f w || is_set p virr w)
  pub beside : (i : ℕ) → ((w : ℕ) → w < 256 → i ≡ virr + vector_byte w → ⊥) → byte_at q i ≡ byte_at p i

module _ (f : ℕ → Bool) (p q q' : List ℕ) (r : Requested f p q) (r' : Requested f p q') where
  -- the byte with vectors 8k to 8k + 7
  same-eight : (k : ℕ) → k < 32 → byte_at q (place_of k) ≡ byte_at q' (place_of k)
  unfolding is_set
  same-eight k l = byte-ext (byte_at q (place_of k)) (byte_at q' (place_of k)) (r.is_page.bytes (place_of k)) (r'.is_page.bytes (place_of k)) each
    where
      vector : (j : ℕ) → j < 8 → 8 * k + j < 256
      vector j h = omega arith

      place : (j : ℕ) → j < 8 → virr + vector_byte (8 * k + j) ≡ place_of k
      place j h = omega arith

      column : (j : ℕ) → j < 8 → (8 * k + j) % 8 ≡ j
      column j h = omega arith

      each : (j : ℕ) → j < 8 → bit (byte_at q (place_of k)) j ≡ bit (byte_at q' (place_of k)) j
      each j h = simp (place j h, column j h) at (r.request (8 * k + j) (vector j h) ∙ sym (r'.request (8 * k + j) (vector j h)))

  -- a byte has vectors, or stands beside them
  same_byte : (i : ℕ) → byte_at q i ≡ byte_at q' i
  same_byte i = by (ltb eight 32) refl (eqb i (place_of eight)) refl
    where
      eight : ℕ
      eight = (i - virr) / 16 * 4 + (i - virr) % 16

      beside : ((w : ℕ) → w < 256 → i ≡ virr + vector_byte w → ⊥) → byte_at q i ≡ byte_at q' i
      beside n = r.beside i n ∙ sym (r'.beside i n)

      of-vector : (w : ℕ) → w < 256 → i ≡ virr + vector_byte w → eight ≡ w / 32 * 4 + w % 32 / 8
      of-vector w h e = omega arith

      few : (w : ℕ) → w < 256 → w / 32 * 4 + w % 32 / 8 < 32
      few w h = omega arith

      back : (w : ℕ) → place_of (w / 32 * 4 + w % 32 / 8) ≡ virr + vector_byte w
      back w = omega arith

      by : (x : Bool) → ltb eight 32 ≡ x → (y : Bool) → eqb i (place_of eight) ≡ y → byte_at q i ≡ byte_at q' i
      by true e true s = rw (eqb-true i (place_of eight) s) (same-eight eight (ltb-true eight 32 e))
      by true e false s = beside (λ w h a. eqb-false i (place_of eight) s (a ∙ sym (ap place_of (of-vector w h a) ∙ back w)))
      by false e y s = beside (λ w h a. over (ltb-false eight 32 e) (of-vector w h a) (few w h))
        where
          over : {m : ℕ} → 32 ≤ eight → eight ≡ m → m < 32 → ⊥
          over a b c = omega arith

  pub same-page : q ≡ q'
  same-page = ext_get_or 0 q q' (r.is_page.size ∙ sym r'.is_page.size) (λ i l. same_byte i)

-- ---- posting, and requests one at a time
module _ (p : List ℕ) (g : IsPage p) where
  posting-requested : (d : List ℕ) → Requested (λ w. member w (posted_vectors d)) p (joined p d)
  posting-requested d = record {
    is_page = page-joined p d g;
    request = joined-requests p d g;
    beside = λ i n. joined-other p d 32 i (λ k l e. n (8 * k) (omega arith) e);
  }

-- one vector set changes no byte beside the vectors
set-beside : (p : List ℕ) (v i : ℕ) → (i ≡ virr + vector_byte v → ⊥) → byte_at (set_vector p virr v) i ≡ byte_at p i
unfolding put_vector
set-beside p v i n = get_or-set_other p (virr + vector_byte v) i _ 0 n

requests-requested : (vs : List ℕ) (p : List ℕ) → IsPage p → Bytes vs → Requested (λ w. member w vs) p (requested_pages p vs)
unfolding requested_page
requests-requested [] p g b = record { is_page = g; request = λ w h. refl; beside = λ i n. refl }
requests-requested (v ∷ vs) p g b = after (requests-requested vs (set_vector p virr v) (page-put p v true g b.0 virr) b.1)
  where
    one-first : (e m x : Bool) → (m || (if e then true else x)) ≡ ((e || m) || x)
    one-first true true x = refl
    one-first true false x = refl
    one-first false m x = refl

    after : Requested (λ w. member w vs) (set_vector p virr v) (requested_pages (set_vector p virr v) vs) → Requested (λ w. member w (v ∷ vs)) p (requested_pages (set_vector p virr v) vs)
    after r = record {
      is_page = r.is_page;
      request = λ w h. r.request w h ∙ ap (λ x. member w vs || x) (bits_put p v true g b.0 virr (lit≤ tt) w) ∙ one-first (eqb v w) (member w vs) (is_set p virr w);
      beside = λ i n. r.beside i n ∙ set-beside p v i (n v b.0);
    }

-- the same bits under another name
renamed : (f f' : ℕ → Bool) (p q : List ℕ) → ((w : ℕ) → w < 256 → f w ≡ f' w) → Requested f p q → Requested f' p q
renamed f f' p q e r = record { is_page = r.is_page; request = λ w h. r.request w h ∙ ap (λ x. x || is_set p virr w) (e w h); beside = r.beside }

-- requests of the same vectors, in any order, leave one page
pub pages-any-order : (us vs p : List ℕ) → IsPage p → Bytes us → Bytes vs → Exactly (λ w. member w vs) us → requested_pages p us ≡ requested_pages p vs
pages-any-order us vs p g b b' e =
    same-page (λ w. member w vs) p (requested_pages p us) (requested_pages p vs)
    (renamed (λ w. member w us) (λ w. member w vs) p (requested_pages p us) e (requests-requested us p g b)) (requests-requested vs p g b')

-- ---- RVI
top-own : (m : ℕ) → m < 256 → top (eqb m) 256 ≡ m
top-own m h = top_unique (eqb m) 256 m h (eq-eqb m m refl) (λ w l s. up (eqb-true m w s))
  where
    up : {w : ℕ} → m ≡ w → w ≤ m
    up e = omega arith

-- the largest of RVI and the members of a list, whatever their order
largest-top : (m : ℕ) (vs : List ℕ) → m < 256 → Bytes vs → largest m vs ≡ top (λ w. member w vs || eqb m w) 256
largest-top m vs h b = sym (top-raises (eqb m) vs b ∙ ap (λ t. largest t vs) (top-own m h))

pub largest-any-order : (us vs : List ℕ) (m : ℕ) → m < 256 → Bytes us → Bytes vs → Exactly (λ w. member w vs) us → largest m us ≡ largest m vs
largest-any-order us vs m h b b' e =
    largest-top m us h b
    ∙ top-ext (λ w. member w us || eqb m w) (λ w. member w vs || eqb m w) 256 (λ w l. ap (λ x. x || eqb m w) (e w l))
    ∙ sym (largest-top m vs h b')

requested-rvi : (r : Record) (vs : List ℕ) → requested_records r vs ≡ with_rvi r (largest r.rvi vs)
unfolding requested_record
requested-rvi r [] = refl
requested-rvi r (v ∷ vs) = requested-rvi (requested_record r v) vs

-- ---- the law
pub posting-any-order : (p : List ℕ) (r : Record) (d vs : List ℕ) → IsPage p → r.rvi < 256 → Bytes vs → Exactly (posted d) vs → posting p r d ≡ evaluated_quiet (requested_pages p vs) (requested_records r vs)
unfolding posting posted_record
posting-any-order p r d vs g h b e = simp (page, state)
  where
    exactly : Exactly (λ w. member w (posted_vectors d)) vs
    exactly w l = e w l ∙ sym (places-member (posted d) 256 w l)

    page : joined p d ≡ requested_pages p vs
    page =
        same-page (λ w. member w (posted_vectors d)) p (joined p d) (requested_pages p vs) (posting-requested p g d)
        (renamed (λ w. member w vs) (λ w. member w (posted_vectors d)) p (requested_pages p vs) exactly (requests-requested vs p g b))

    state : posted_record r d ≡ requested_records r vs
    state =
        ap (λ v. with_rvi r v) (sym (largest-posted d r.rvi) ∙ sym (largest-any-order vs (posted_vectors d) r.rvi h b (posted-bytes d) exactly))
        ∙ sym (requested-rvi r vs)

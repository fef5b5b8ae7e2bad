-- A posting: what it raises, what it keeps of the page, and what it leaves of the descriptor. Assumes nothing.
use Rattle.std.specs.Prelude.{Some, if◌then◌else◌}
use Prim.Native.Nat.{ℕ, zero, suc, ◌+◌, ◌-◌, ◌/◌, ◌%◌, ◌≤◌, ◌<◌}
use native.Mathlib.Nat.{le_refl}
use native.Mathlib.Omega.{arith}
use mathlib.Core.Path.{◌≡◌, refl, sym, ◌∙◌, ap}
use mathlib.Core.Bool.{Bool, true, false, ◌||◌}
use mathlib.Core.List.{List, ◌∷◌}
use lib.Dec.{ltb, lit≤}
use lib.ListN.{length, length-set}
use lib.Seq.{get_or-set_same, get_or-set_other, set_out}
use borrow.Author.Tests.{eqb-true, le-ltb, ltb-true, ltb-false}
use Rattle.processor.specs.Logic.{bit, larger, member}
use Rattle.processor.specs.Offsets.{vppr, visr, virr}
use Rattle.page.specs.Page.{byte_at, IsPage}
use Rattle.registers.specs.Vectors.{vector_byte, put_bit, is_set, highest_of}
use Rattle.register_laws.proofs.Registers.{vector-within}
use Rattle.descriptor.specs.Descriptor.{posted, places_below, posted_vectors, highest_posted, raised_by, place_of, joined, outstanding_byte, cleared_below, cleared}
use Rattle.descriptor.proofs.Joined.{joined_length, joined_bytes, joined-other, joined-set}
use Rattle.descriptor.proofs.Places.{places-member}
use Rattle.conditions.specs.Moves.{largest, Bytes}

-- ---- what it raises
-- each posted vector is a byte
places-bytes : (f : ℕ → Bool) (n : ℕ) → n ≤ 256 → Bytes (places_below f n)
unfolding places_below
places-bytes f zero l = tt
places-bytes f (suc v) l = by (f v) (places-bytes f v (omega arith))
  where
    by : (b : Bool) → Bytes (places_below f v) → Bytes (if b then (v ∷ places_below f v) else places_below f v)
    by true h = (l, h)
    by false h = h

pub posted-bytes : (d : List ℕ) → Bytes (posted_vectors d)
posted-bytes d = places-bytes (posted d) 256 (le_refl 256)

larger-stays : (m v : ℕ) → v ≤ m → larger m v ≡ m
unfolding larger
larger-stays m v l = simp (le-ltb m v l)

-- numbers that are not above m leave it the largest
none-larger : (f : ℕ → Bool) (n m : ℕ) → n ≤ suc m → largest m (places_below f n) ≡ m
unfolding places_below
none-larger f zero m l = refl
none-larger f (suc v) m l = by (f v) (none-larger f v m (omega arith))
  where
    by : (b : Bool) → largest m (places_below f v) ≡ m → largest m (if b then (v ∷ places_below f v) else places_below f v) ≡ m
    by true h = ap (λ t. largest t (places_below f v)) (larger-stays m v (omega arith)) ∙ h
    by false h = h

up-to-larger : (m v : ℕ) → v ≤ suc (larger m v)
unfolding larger
up-to-larger m v = by (ltb m v) refl
  where
    by : (b : Bool) → ltb m v ≡ b → v ≤ suc (if b then v else m)
    by true q = omega arith
    by false q = over (ltb-false m v q)
      where
        over : v ≤ m → v ≤ suc m
        over l = omega arith

-- the largest of RVI and every posted vector is the larger of RVI and the highest
largest-places : (f : ℕ → Bool) (n m : ℕ) → largest m (places_below f n) ≡ raised_by m (highest_of f n)
unfolding places_below highest_of raised_by
largest-places f zero m = refl
largest-places f (suc v) m = by (f v) (largest-places f v m)
  where
    by : (b : Bool) → largest m (places_below f v) ≡ raised_by m (highest_of f v) → largest m (if b then (v ∷ places_below f v) else places_below f v) ≡ raised_by m (if b then Some v else highest_of f v)
    by true h = none-larger f v (larger m v) (up-to-larger m v)
    by false h = h

pub largest-posted : (d : List ℕ) (rvi : ℕ) → largest rvi (posted_vectors d) ≡ raised_by rvi (highest_posted d)
largest-posted d rvi = largest-places (posted d) 256 rvi

-- ---- what it does to the page
module _ (p d : List ℕ) (g : IsPage p) where
  pub page-joined : IsPage (joined p d)
  page-joined = record { size = joined_length p d 32 ∙ g.size; bytes = joined_bytes p d 32 g.bytes }

  room : length p ≡ 4096 → virr + 0x80 ≤ length p
  room e = omega arith

  -- posted vectors count as requests
  pub joined-requests : (w : ℕ) → w < 256 → is_set (joined p d) virr w ≡ (member w (posted_vectors d) || is_set p virr w)
  joined-requests w h = joined-set p d (room g.size) w h ∙ ap (λ x. x || is_set p virr w) (sym (places-member (posted d) 256 w h))

  below-virr : (i : ℕ) → i < virr → byte_at (joined p d) i ≡ byte_at p i
  below-virr i h = joined-other p d 32 i (λ k l e. lower k e)
    where
      lower : (k : ℕ) → i ≡ place_of k → ⊥
      lower k e = omega arith

  pub joined-services : (w : ℕ) → w < 256 → is_set (joined p d) visr w ≡ is_set p visr w
  unfolding is_set
  joined-services w h = ap (λ b. bit b (w % 8)) (below-virr (visr + vector_byte w) (under (vector-within w h)))
    where
      under : vector_byte w < 0x80 → visr + vector_byte w < virr
      under l = omega arith

  pub joined-vppr : byte_at (joined p d) vppr ≡ byte_at p vppr
  joined-vppr = below-virr vppr (lit≤ tt)

-- ---- what it leaves of the descriptor
cleared-length : (d : List ℕ) (n : ℕ) → length (cleared_below d n) ≡ length d
unfolding cleared_below
cleared-length d zero = refl
cleared-length d (suc k) = length-set (cleared_below d k) k 0 ∙ cleared-length d k

cleared-other : (d : List ℕ) (n i : ℕ) → n ≤ i → byte_at (cleared_below d n) i ≡ byte_at d i
unfolding cleared_below
cleared-other d zero i l = refl
cleared-other d (suc k) i l = get_or-set_other (cleared_below d k) k i 0 0 other ∙ cleared-other d k i (omega arith)
  where
    other : i ≡ k → ⊥
    other e = omega arith

module _ (d : List ℕ) where
  pub same_size : length (cleared d) ≡ length d
  unfolding cleared
  same_size = length-set (cleared_below d 32) outstanding_byte _ ∙ cleared-length d 32

  pub same_rest : (i : ℕ) → outstanding_byte < i → byte_at (cleared d) i ≡ byte_at d i
  unfolding cleared
  same_rest i l = get_or-set_other (cleared_below d 32) outstanding_byte i _ 0 other ∙ cleared-other d 32 i (omega arith)
    where
      other : i ≡ outstanding_byte → ⊥
      other e = omega arith

  half : (b : ℕ) → put_bit b 0 false / 2 ≡ b / 2
  half b = by (bit b 0) refl
    where
      by : (x : Bool) → bit b 0 ≡ x → put_bit b 0 false / 2 ≡ b / 2
      by true e = simp e (odd (eqb-true (b / 1 % 2) 1 e))
        where
          odd : b / 1 % 2 ≡ 1 → (b - 1) / 2 ≡ b / 2
          odd q = omega arith
      by false e = simp e

  pub same_above : byte_at (cleared d) outstanding_byte / 2 ≡ byte_at d outstanding_byte / 2
  unfolding cleared
  same_above = by (ltb outstanding_byte (length (cleared_below d 32))) refl
    where
      by : (x : Bool) → ltb outstanding_byte (length (cleared_below d 32)) ≡ x → byte_at (cleared d) outstanding_byte / 2 ≡ byte_at d outstanding_byte / 2
      by true e = ap (λ b. b / 2) (get_or-set_same (cleared_below d 32) outstanding_byte _ 0 (ltb-true outstanding_byte (length (cleared_below d 32)) e)) ∙ half (byte_at d outstanding_byte)
      by false e =
          ap (λ (l : List ℕ). byte_at l outstanding_byte / 2) (set_out (cleared_below d 32) outstanding_byte _ (ltb-false outstanding_byte (length (cleared_below d 32)) e))
          ∙ ap (λ b. b / 2) (cleared-other d 32 outstanding_byte (le_refl 32))

-- Where a replay goes on, where it is over, and what is then left to print. Assumes nothing.
use native.Mathlib.Omega.{arith}
use Prim.Native.Nat.{ℕ, zero, suc, ◌+◌, ◌≤◌, ◌<◌}
use mathlib.Core.Path.{◌≡◌, refl, ap, ◌∙◌}
use mathlib.Core.Bool.{true, false}
use mathlib.Core.List.{List}
use lib.Dec.{eqb, leb}
use lib.ListN.{length, take, drop, length-take, length-drop}
use lib.Seq.{get_or-take, get_or-drop}
use borrow.Author.Tests.{eqb-false}
use Rattle.trace.specs.Format.{cut_short, length_at, kind_of, length_of_kind, record_readable, body_readable, body_at, next_place}
use Rattle.page.specs.Page.{byte_at}
use Rattle.trace.proofs.Has.{not-cut}
use Rattle.text.proofs.Lengths.{done-short, bad-short}
use Rattle.recorded.specs.Session.{Session}
use Rattle.recorded.specs.Replay.{bodies, text_from}
use Rattle.recorded.proofs.Steps.{at-limit, at-end, at-bad, counts_end, counts-bad}
use Rattle.playback.specs.declared.turns.Turn.{Turn}
use Rattle.playback.specs.Turns.{goes_on, last_of}

-- what each test of three says where the replay goes on
pub record On (t : List ℕ) (u : Turn) : Type 0 where
  pub some : eqb u.left 0 ≡ false
  pub more : leb (length t) u.place ≡ false
  pub readable : record_readable t u.place ≡ true

pub goes-on : (t : List ℕ) (u : Turn) → goes_on t u ≡ true → On t u
unfolding goes_on
goes-on t u e = record { some = grind (arith, e); more = grind (arith, e); readable = grind (arith, e) }

-- it does not go on where the next record can't be read
pub stops : (t : List ℕ) (u : Turn) → record_readable t u.place ≡ false → goes_on t u ≡ false
unfolding goes_on
stops t u e = grind (arith, e)

pub left-some : (t : List ℕ) (u : Turn) → goes_on t u ≡ true → 1 ≤ u.left
left-some t u e = let h = eqb-false u.left 0 (goes-on t u e).some in omega arith

-- a record that can be read stands whole in the trace
whole : (t : List ℕ) (place : ℕ) → record_readable t place ≡ true → cut_short t place ≡ false
unfolding record_readable
whole t place e = grind (arith, e)

pub record Next (t : List ℕ) (place : ℕ) : Type 0 where
  pub past : place + 2 ≤ next_place t place
  pub inside : next_place t place ≤ length t

pub next-inside : (t : List ℕ) (place : ℕ) → record_readable t place ≡ true → Next t place
unfolding next_place
next-inside t place e =
    let cut = whole t place e in
    record { past = simp cut (omega arith); inside = simp cut (omega (arith, not-cut t place cut)) }

-- the next record begins where this one's body ends
pub next-by-body : (t : List ℕ) (place : ℕ) → record_readable t place ≡ true → next_place t place ≡ place + 2 + length (body_at t place)
unfolding next_place body_at
next-by-body t place e =
    let cut = whole t place e in
    simp (cut, length-take, length-drop) (omega (arith, not-cut t place cut))

-- its length is its kind's
body-length : (t : List ℕ) (place : ℕ) → record_readable t place ≡ true → length (body_at t place) ≡ length_at t place
unfolding next_place
body-length t place e = omega (arith, simp (whole t place e) at (next-by-body t place e))

kind-length : (t : List ℕ) (place : ℕ) → record_readable t place ≡ true → length (body_at t place) ≡ length_of_kind (kind_of (body_at t place))
unfolding record_readable body_readable
kind-length t place e = grind (arith, e)

-- and its kind stands after its length
kind-stands : (t : List ℕ) (place : ℕ) → record_readable t place ≡ true → kind_of (body_at t place) ≡ byte_at t (place + 2)
unfolding body_at length_of_kind
kind-stands t place e = by (length_at t place) refl
  where
    body : body_at t place ≡ take (length_at t place) (drop (place + 2) t)
    body = simp (whole t place e)

    by : (n : ℕ) → length_at t place ≡ n → kind_of (body_at t place) ≡ byte_at t (place + 2)
    by zero q = absurd (omega (arith, ap length (body ∙ ap (λ (m : ℕ). take m (drop (place + 2) t)) q), kind-length t place e, ap (λ (b : List ℕ). length_of_kind (kind_of b)) (body ∙ ap (λ (m : ℕ). take m (drop (place + 2) t)) q)))
    by (suc n) q =
        let some : 0 < length_at t place = omega arith in
        let same : place + 2 + 0 ≡ place + 2 = omega arith in
        ap kind_of body ∙ (get_or-take (length_at t place) (drop (place + 2) t) 0 0 some ∙ (get_or-drop (place + 2) t 0 0 ∙ ap (λ (m : ℕ). byte_at t m) same))

pub unlike-kind : (t : List ℕ) (place : ℕ) → eqb (length_at t place) (length_of_kind (byte_at t (place + 2))) ≡ false → record_readable t place ≡ false
unlike-kind t place n = grind (arith, n, body-length t place, kind-length t place, kind-stands t place)

-- nothing is left but the last line
pub last-left : (t : List ℕ) (u : Turn) (s : Session) → goes_on t u ≡ false → text_from u.left t u.place u.count s ≡ last_of t u.left u.place u.count
unfolding goes_on last_of
last-left t u s e = by u.left refl
  where
    by : (l : ℕ) → u.left ≡ l → text_from u.left t u.place u.count s ≡ last_of t u.left u.place u.count
    by zero p = grind (arith, p, at-limit t u.place u.count s)
    by (suc k) p = grind (arith, e, p, at-end k t u.place u.count s, at-bad k t u.place u.count s)

pub none_left : (t : List ℕ) (u : Turn) → goes_on t u ≡ false → length (bodies u.left t u.place) ≡ 0
unfolding goes_on bodies
none_left t u e = by u.left refl
  where
    by : (l : ℕ) → u.left ≡ l → length (bodies u.left t u.place) ≡ 0
    by zero p = simp p
    by (suc k) p = grind (arith, e, p, counts_end k t u.place, counts-bad k t u.place)

-- the last line is short
pub last-short : (t : List ℕ) (u : Turn) → u.count ≤ 61440 → length (last_of t u.left u.place u.count) ≤ 11
unfolding last_of
last-short t u h = grind (arith, done-short u.count, bad-short (u.count + 1))

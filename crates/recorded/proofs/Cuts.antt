-- Of a trace cut anywhere the lines before the cut are the same. Assumes nothing.
use native.Mathlib.Omega.{arith}
use Prim.Native.Nat.{ℕ, zero, suc, ◌+◌, ◌≤◌, ◌<◌}
use mathlib.Core.Path.{◌≡◌, refl, sym, ap, ◌∙◌}
use mathlib.Core.Bool.{Bool, true, false, not}
use mathlib.Core.List.{List, [], ◌∷◌, ◌++◌, append_assoc}
use lib.Dec.{leb}
use lib.ListN.{length, take, drop, length-take, length-drop}
use lib.Seq.{get_or-take, get_or-drop, ext_get_or}
use borrow.Author.Tests.{leb-true, leb-false, le-leb, lt-leb, not-true}
use Rattle.processor.proofs.Tests.{left, right}
use Rattle.page.specs.Page.{byte_at}
use Rattle.trace.specs.Fields.{two_at}
use Rattle.trace.specs.Format.{version_fits, size_fits, length_at, cut_short, body_at, next_place, body_readable, record_readable}
use Rattle.trace.proofs.Has.{not-cut}
use Rattle.events.specs.declared.answer.Numbers.{Numbers}
use Rattle.recorded.specs.Session.{Session, begin, answer_to, session_after, answers_to, session_end}
use Rattle.recorded.specs.Replay.{bodies, lines, is_trace, replayed}
use Rattle.recorded.specs.Theorems.{within, CutAt}

-- A record that ends behind byte n is left out, and every one after it.
within_none : (n place : ℕ) (b : List ℕ) (bs : List (List ℕ)) → n < place + 2 + length b → within n place (b ∷ bs) ≡ []
within_none n place b bs h = rw lt-leb

-- One that ends at or before byte n is taken, and those after it as far as they end there.
within_more : (n place : ℕ) (b : List ℕ) (bs : List (List ℕ)) → place + 2 + length b ≤ n → within n place (b ∷ bs) ≡ b ∷ within n (place + 2 + length b) bs
within_more n place b bs h = rw le-leb

-- A record stands whole in the trace where the trace has all its bytes.
whole : (t : List ℕ) (place : ℕ) → place + (2 + length_at t place) ≤ length t → cut_short t place ≡ false
unfolding cut_short
whole t place h = ap not (le-leb (place + (2 + length_at t place)) (length t) h)

-- Its body is then as long as its length says,
body-length : (t : List ℕ) (place : ℕ) → cut_short t place ≡ false → length (body_at t place) ≡ length_at t place
unfolding body_at
body-length t place w = simp (w, length-take, length-drop) (omega (arith, not-cut t place w))

-- and the next record begins where it ends.
next-place : (t : List ℕ) (place : ℕ) → cut_short t place ≡ false → next_place t place ≡ place + 2 + length (body_at t place)
unfolding next_place
next-place t place w = simp (w, body-length t place w)

-- A record that can be read stands whole.
readable-whole : (t : List ℕ) (place : ℕ) → record_readable t place ≡ true → cut_short t place ≡ false
unfolding record_readable
readable-whole t place r = not-true (cut_short t place) (left (not (cut_short t place)) (body_readable (body_at t place)) r)

-- Two bytes before the cut are the same number,
two-same : (n : ℕ) (t : List ℕ) (i : ℕ) → i + 2 ≤ length (take n t) → two_at (take n t) i ≡ two_at t i
unfolding two_at
two-same n t i h =
    let before : i + 2 ≤ n = omega (arith, length-take n t) in
    let there : i + 2 ≤ length t = omega (arith, length-take n t) in
    simp (le-leb (i + 2) (length (take n t)) h, le-leb (i + 2) (length t) there, get_or-take n t i 0 (omega arith), get_or-take n t (i + 1) 0 (omega arith))

-- and any bytes before it are the same part of the trace.
part_same : (n : ℕ) (t : List ℕ) (i m : ℕ) → i + m ≤ n → take m (drop i (take n t)) ≡ take m (drop i t)
part_same n t i m h = ext_get_or 0 (take m (drop i (take n t))) (take m (drop i t)) (simp (length-take, length-drop) (omega arith)) each
  where
    each : (j : ℕ) → j < length (take m (drop i (take n t))) → byte_at (take m (drop i (take n t))) j ≡ byte_at (take m (drop i t)) j
    each j l =
        let short : j < m = omega (arith, length-take m (drop i (take n t))) in
        simp (get_or-take m (drop i (take n t)) j 0 short, get_or-take m (drop i t) j 0 short, get_or-drop, get_or-take n t (i + j) 0 (omega arith))

-- A record of the whole trace that ends at or before the cut stands whole in the cut trace.
stays-whole : (n : ℕ) (t : List ℕ) (place : ℕ) → cut_short t place ≡ false → place + (2 + length_at t place) ≤ n → cut_short (take n t) place ≡ false
stays-whole n t place w h =
    let all : place + (2 + length_at t place) ≤ length (take n t) = omega (arith, not-cut t place w, length-take n t) in
    let two : place + 2 ≤ length (take n t) = omega arith in
    whole (take n t) place (omega (arith, two-same n t place two))

-- Of a record that stands whole in the cut trace:
module _ (n : ℕ) (t : List ℕ) (place : ℕ) (w : cut_short (take n t) place ≡ false) where
  -- its length is the same in the whole trace,
  length-same : length_at (take n t) place ≡ length_at t place
  length-same = two-same n t place (omega (arith, not-cut (take n t) place w))

  -- it stands whole there too,
  whole-too : cut_short t place ≡ false
  whole-too = whole t place (omega (arith, not-cut (take n t) place w, length-same, length-take n t))

  -- it ends at or before the cut,
  before-cut : place + 2 + length (body_at t place) ≤ n
  before-cut = omega (arith, not-cut (take n t) place w, length-same, length-take n t, body-length t place whole-too)

  -- its body is the same,
  body_same : body_at (take n t) place ≡ body_at t place
  unfolding body_at
  body_same = simp (w, whole-too, length-same) (part_same n t (place + 2) (length_at t place) (omega (arith, before-cut, body-length t place whole-too)))

  -- the next record begins at the same place,
  next-same : next_place (take n t) place ≡ next_place t place
  unfolding next_place
  next-same = simp (w, whole-too, length-same)

  -- it can be read in both traces or in neither,
  readable-same : record_readable (take n t) place ≡ record_readable t place
  unfolding record_readable
  readable-same = simp (w, whole-too, body_same)

  -- the cut trace is not at its end before it,
  not-ended : leb (length (take n t)) place ≡ false
  not-ended = lt-leb (length (take n t)) place (omega (arith, not-cut (take n t) place w))

  -- and nor is the whole one.
  not-ended-too : leb (length t) place ≡ false
  not-ended-too = lt-leb (length t) place (omega (arith, not-cut t place whole-too))

  -- So what holds of the records after it holds from it on.
  cut-after : (k : ℕ) → bodies k (take n t) (next_place t place) ≡ within n (next_place t place) (bodies k t (next_place t place)) → bodies (suc k) (take n t) place ≡ within n place (bodies (suc k) t place)
  unfolding bodies
  cut-after k ih = by (record_readable t place) refl
    where
      by : (x : Bool) → record_readable t place ≡ x → bodies (suc k) (take n t) place ≡ within n place (bodies (suc k) t place)
      by false r = simp (not-ended, not-ended-too, readable-same, r)
      by true r =
          let others = bodies k t (next_place t place) in
          simp (not-ended, not-ended-too, readable-same, r, body_same, next-same, ih)
          (ap (λ (at : ℕ). body_at t place ∷ within n at others) (next-place t place whole-too) ∙ sym (within_more n place (body_at t place) others before-cut))

-- Of a trace nothing is processed from a record on that is cut short.
cut-none : (k : ℕ) (t : List ℕ) (place : ℕ) → cut_short t place ≡ true → bodies k t place ≡ []
unfolding bodies record_readable
cut-none zero t place c = refl
cut-none (suc k) t place c = by (leb (length t) place) refl
  where
    by : (x : Bool) → leb (length t) place ≡ x → bodies (suc k) t place ≡ []
    by true l = simp l
    by false l = simp (l, c)

-- and from a record on that is cut short in the cut trace none ends at or before the cut.
behind-none : (n k : ℕ) (t : List ℕ) (place : ℕ) → cut_short (take n t) place ≡ true → within n place (bodies k t place) ≡ []
unfolding bodies
behind-none n zero t place c = refl
behind-none n (suc k) t place c = by (leb (length t) place) (record_readable t place) refl refl
  where
    ends : (x : Bool) → leb (place + (2 + length_at t place)) n ≡ x → record_readable t place ≡ true → within n place (body_at t place ∷ bodies k t (next_place t place)) ≡ []
    ends true q r = let still = stays-whole n t place (readable-whole t place r) (leb-true (place + (2 + length_at t place)) n q) in cc
    ends false q r = within_none n place (body_at t place) (bodies k t (next_place t place)) (omega (arith, body-length t place (readable-whole t place r), leb-false (place + (2 + length_at t place)) n q))

    by : (x y : Bool) → leb (length t) place ≡ x → record_readable t place ≡ y → within n place (bodies (suc k) t place) ≡ []
    by true y l r = simp l
    by false false l r = simp (l, r)
    by false true l r = simp (l, r) (ends (leb (place + (2 + length_at t place)) n) refl r)

-- The records processed of a cut trace are those of the whole trace that end at or before the cut,
cut-records : (n k : ℕ) (t : List ℕ) (place : ℕ) → bodies k (take n t) place ≡ within n place (bodies k t place)
unfolding bodies
cut-records n zero t place = refl
cut-records n (suc k) t place = by (cut_short (take n t) place) refl (cut-records n k t (next_place t place))
  where
    by : (x : Bool) → cut_short (take n t) place ≡ x → bodies k (take n t) (next_place t place) ≡ within n (next_place t place) (bodies k t (next_place t place)) → bodies (suc k) (take n t) place ≡ within n place (bodies (suc k) t place)
    by true c ih = cut-none (suc k) (take n t) place c ∙ sym (behind-none n (suc k) t place c)
    by false c ih = cut-after n t place c k ih

-- and they are the first of them.
within_first : (n place : ℕ) (bs : List (List ℕ)) → bs ≡ within n place bs ++ drop (length (within n place bs)) bs
within_first n place [] = refl
within_first n place (b ∷ bs) = by (leb (place + 2 + length b) n) refl (within_first n (place + 2 + length b) bs)
  where
    by : (x : Bool) → leb (place + 2 + length b) n ≡ x → bs ≡ within n (place + 2 + length b) bs ++ drop (length (within n (place + 2 + length b) bs)) bs → (b ∷ bs) ≡ within n place (b ∷ bs) ++ drop (length (within n place (b ∷ bs))) (b ∷ bs)
    by true e ih = simp e (ap (λ (r : List (List ℕ)). b ∷ r) ih)
    by false e ih = simp e

-- What is behind a record does not change its answer.
answers-append : (s : Session) (bs cs : List (List ℕ)) → answers_to s (bs ++ cs) ≡ answers_to s bs ++ answers_to (session_end s bs) cs
answers-append s [] cs = refl
answers-append s (b ∷ bs) cs = ap (λ (r : List Numbers). answer_to s b ∷ r) (answers-append (session_after s b) bs cs)

-- What is behind an answer does not change its line.
lines-append : (n : ℕ) (xs ys : List Numbers) → lines n (xs ++ ys) ≡ lines n xs ++ lines (n + length xs) ys
lines-append n [] ys = let same : n ≡ n + 0 = omega arith in ap (λ (m : ℕ). lines m ys) same
lines-append n (x ∷ xs) ys = let same : n + 1 + length xs ≡ n + suc (length xs) = omega arith in simp (lines-append (n + 1) xs ys, append_assoc, same)

-- the lines of the records behind the first ones, with their numbers
abbrev lines_behind : Session → ℕ → List (List ℕ) → List (List ℕ) → List ℕ
lines_behind s n first bs = lines (n + length (answers_to s first)) (answers_to (session_end s first) (drop (length first) bs))

-- The lines of the records that end at or before byte n come first, and then those of the others.
lines-first : (s : Session) (m n place : ℕ) (bs : List (List ℕ)) → lines m (answers_to s bs) ≡ lines m (answers_to s (within n place bs)) ++ lines_behind s m (within n place bs) bs
lines-first s m n place bs =
    let first = within n place bs in
    let others = drop (length first) bs in
    ap (λ (r : List (List ℕ)). lines m (answers_to s r)) (within_first n place bs)
    ∙ ap (lines m) (answers-append s first others)
    ∙ lines-append m (answers_to s first) (answers_to (session_end s first) others)

-- A cut trace is a trace, unless it is empty: the version byte is kept, and no byte is added.
cut-trace : (n : ℕ) (t : List ℕ) → 0 < n → is_trace t ≡ true → is_trace (take n t) ≡ true
unfolding is_trace
cut-trace n t h e =
    let fits : length t ≤ 61440 = leb-true (length t) 61440 (right (version_fits t) (size_fits t) e) in
    simp (get_or-take n t 0 0 h, left (version_fits t) (size_fits t) e, le-leb (length (take n t)) 61440 (omega (arith, length-take n t)))

-- No record ends at byte 0, before the version byte.
within-zero : (bs : List (List ℕ)) → within 0 1 bs ≡ []
within-zero [] = refl
within-zero (b ∷ bs) = within_none 0 1 b bs (omega arith)

-- The records processed from the version byte on are those that end at or before the cut, also where nothing is left.
replayed-cut : (n : ℕ) (t : List ℕ) (limit : ℕ) → is_trace t ≡ true → replayed (take n t) limit ≡ within n 1 (replayed t limit)
unfolding replayed is_trace
replayed-cut zero t limit e = sym (within-zero (replayed t limit))
replayed-cut (suc n) t limit e = simp (e, cut-trace (suc n) t (omega arith) e) (cut-records (suc n) limit t 1)

-- Of a trace cut anywhere the records that end at or before the cut are processed, and their lines are the whole trace's first.
pub cut-anywhere : (n : ℕ) (t : List ℕ) (limit : ℕ) → is_trace t ≡ true → CutAt n t limit
cut-anywhere n t limit e =
    let others = lines_behind begin 0 (within n 1 (replayed t limit)) (replayed t limit) in
    record {
      records = replayed-cut n t limit e;
      more = others;
      same = lines-first begin 0 n 1 (replayed t limit) ∙ ap (λ (bs : List (List ℕ)). lines 0 (answers_to begin bs) ++ others) (sym (replayed-cut n t limit e));
    }

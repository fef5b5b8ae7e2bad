-- A replay under way: it begins, goes on by a record, and is over. Assumes nothing.
use native.Mathlib.Omega.{arith}
use native.Mathlib.Numerals.{add-one}
use Prim.Native.Nat.{ℕ, suc, ◌+◌}
use mathlib.Core.Path.{◌≡◌, sym, ap, ◌∙◌}
use mathlib.Core.Bool.{true}
use mathlib.Core.List.{List, ◌++◌}
use lib.ListN.{length, length-append}
use Rattle.trace.specs.Format.{body_at}
use Rattle.text.specs.Lines.{line}
use Rattle.text.specs.Written.{written}
use Rattle.text.proofs.Writing.{written-append}
use Rattle.recorded.specs.Session.{Session, begin, answer_to}
use Rattle.recorded.specs.Replay.{bodies, text_from}
use Rattle.recorded.proofs.Steps.{at-record, counts}
use Rattle.session.specs.Told.{session_of}
use Rattle.playback.specs.declared.turns.Turn.{Turn}
use Rattle.playback.specs.Turns.{goes_on, Starts, Turned, text_left, Going}
use Rattle.playback.proofs.On.{On, goes-on, next-inside}

-- a page beside what is held before the first record
abbrev pub fresh_on : List ℕ → Session
fresh_on p = record { held = record { page = p; state = begin.held.state }; controls = begin.controls }

pub begins : (t : List ℕ) (limit : ℕ) (p o : List ℕ) (u : Turn) → Starts limit u → Going t limit (text_from limit t 1 0 (fresh_on p)) (length (bodies limit t 1)) o p o u
begins t limit p o u s = record {
  buffer = simp (s.left, s.place, s.count, s.at, s.state.state, s.state.controls);
  end = simp (s.left, s.place, s.count, s.at, s.state.state, s.state.controls) (omega arith);
  counted = simp (s.left, s.place, s.count) (omega arith);
  limited = omega (arith, s.left, s.count);
  early = omega (arith, s.place, s.count);
  inside = omega (arith, s.place);
  short = omega (arith, s.at);
}

-- what is left to print is the next record's line and what is left after it
module _ (t p o : List ℕ) (u r : Turn) (p' o' : List ℕ) (on : On t u) (m : Turned t p o u r p' o') where
  abbrev the_line : List ℕ
  the_line = line (u.count + 1) (answer_to (session_of p u.state) (body_at t u.place))

  one_more : u.left ≡ suc r.left
  one_more = sym m.left ∙ add-one r.left

  left-splits : text_left t p u ≡ the_line ++ text_left t p' r
  left-splits =
      ap (λ (k : ℕ). text_from k t u.place u.count (session_of p u.state)) one_more
      ∙ (at-record r.left t u.place u.count (session_of p u.state) on.more on.readable
      ∙ sym (simp (m.place, m.count, m.session)))

  bodies-split : length (bodies u.left t u.place) ≡ suc (length (bodies r.left t r.place))
  bodies-split = simp (one_more, m.place) (counts r.left t u.place on.more on.readable)

pub goes : {t : List ℕ} {limit : ℕ} {text : List ℕ} {records : ℕ} {o₀ p o : List ℕ} {u r : Turn} {p' o' : List ℕ} → Going t limit text records o₀ p o u → goes_on t u ≡ true → Turned t p o u r p' o' → Going t limit text records o₀ p' o' r
goes {t} {limit} {text} {records} {o₀} {p} {o} {u} {r} {p'} {o'} g e m =
    let on = goes-on t u e in
    let next = next-inside t u.place on.readable in
    let split = left-splits t p o u r p' o' on m in
    let l = the_line t p o u r p' o' on m in
    record {
      buffer =
          ap (λ (b : List ℕ). written b r.at (text_left t p' r)) m.text.buffer
          ∙ (ap (λ (n : ℕ). written (written o u.at l) n (text_left t p' r)) m.text.place
          ∙ (sym (written-append o u.at l (text_left t p' r))
          ∙ (ap (λ (b : List ℕ). written o u.at b) (sym split)
          ∙ g.buffer)));
      end = omega (arith, m.text.place, g.end, ap length split, length-append l (text_left t p' r));
      counted = omega (arith, m.count, g.counted, bodies-split t p o u r p' o' on m);
      limited = omega (arith, m.count, m.left, g.limited);
      early = omega (arith, m.count, m.place, g.early, next.past);
      inside = omega (arith, m.place, next.inside);
      short = omega (arith, m.count, m.short, g.short);
    }

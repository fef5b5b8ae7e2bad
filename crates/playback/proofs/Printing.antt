-- What is printed of a trace and of what is no trace, and what a replay then answers. Assumes nothing.
use native.Mathlib.Omega.{arith}
use Prim.Native.Nat.{ℕ, ◌≤◌}
use mathlib.Core.Path.{◌≡◌, refl, sym, ap, ◌∙◌}
use mathlib.Core.Bool.{Bool, true, false}
use mathlib.Core.List.{List}
use Rattle.std.specs.Prelude.{Option, Some, None, if◌then◌else◌}
use lib.ListN.{length}
use borrow.Author.Tests.{leb-true, le-leb}
use Rattle.text.specs.Lines.{bad_line}
use Rattle.text.specs.Written.{written, Writes}
use Rattle.text.proofs.Lengths.{bad-short}
use Rattle.text.proofs.Writing.{written_start}
use Rattle.recorded.specs.Replay.{is_trace, replay_text, replayed}
use Rattle.playback.specs.declared.Text.{Text}
use Rattle.playback.specs.declared.turns.Turn.{Turn}
use Rattle.playback.specs.Turns.{last_of, text_left, Lasts, Closes}
use Rattle.playback.specs.Replays.{Prints, text_fits, buffer_after, Replays}
use Rattle.playback.proofs.On.{last-left, none_left, last-short}

pub no-trace : (t : List ℕ) (limit : ℕ) (o : List ℕ) (end : ℕ) (o' : List ℕ) → is_trace t ≡ false → Writes o 0 (bad_line 0) end o' → Prints t limit o (record { end = end; count = 0 }) o'
unfolding replay_text replayed
no-trace t limit o end o' e w = record {
  text = simp e w;
  count = simp e;
  room = omega (arith, w.place, bad-short 0 (omega arith));
}

pub whole-trace : (t : List ℕ) (limit : ℕ) (o : List ℕ) (u : Turn) (o₁ : List ℕ) (r : Text) (o₂ : List ℕ) → is_trace t ≡ true → Lasts t limit o u o₁ → Closes t o₁ u r o₂ → Prints t limit o r o₂
unfolding is_trace replay_text replayed
whole-trace t limit o u o₁ r o₂ e l w =
    let small : length t ≤ 61440 = grind (arith, e, leb-true (length t) 61440) in
    let g = l.ended.going in
    let last : text_left t l.page u ≡ last_of t u.left u.place u.count = last-left t u _ l.ended.over in
    record {
      text = simp e record {
        place = omega (arith, w.text.place, g.end, ap length last);
        buffer = w.text.buffer ∙ (ap (λ (l : List ℕ). written o₁ u.at l) (sym last) ∙ g.buffer);
      };
      count = simp e (omega (arith, w.count, g.counted, none_left t u l.ended.over));
      room = omega (arith, w.text.place, g.short, g.limited, last-short t u (omega (arith, small, g.early, g.inside)));
    }

-- a text that fits stands at the buffer's start
pub replay-fits : (t : List ℕ) (limit : ℕ) (o : List ℕ) (r : Text) (o' : List ℕ) → Prints t limit o r o' → length (replay_text t limit) ≤ length o → Replays t limit o (Some r) o'
unfolding text_fits buffer_after
replay-fits t limit o r o' p h =
    let fit = le-leb (length (replay_text t limit)) (length o) h in
    let end : r.end ≡ length (replay_text t limit) = omega (arith, p.text.place) in
    record {
      told = simp fit (λ k. Some (record { end = end k; count = p.count k }));
      buffer = simp fit (p.text.buffer ∙ written_start o (replay_text t limit) h);
      enough = λ q. refl;
    }

-- a text that is told fits, and is told by its end
pub replay-told : {t : List ℕ} {limit : ℕ} {o : List ℕ} {r : Text} {o' : List ℕ} → Replays t limit o (Some r) o' → (text_fits t limit o ≡ true) × (r.end ≡ length (replay_text t limit))
replay-told {t} {limit} {o} {r} {o'} w = by (text_fits t limit o) w.told
  where
    by : (x : Bool) → ◌≡◌ {A = Option Text} (Some r) (if x then Some (record { end = length (replay_text t limit); count = length (replayed t limit) }) else None) → (x ≡ true) × (r.end ≡ length (replay_text t limit))
    by true e = (refl, cc)
    by false e = cc

-- The program's text has room in a buffer with room for every trace, and an array longer than the longest trace holds enough of every
-- input. Assumes nothing.
use native.Mathlib.Omega.{arith}
use Prim.Native.Nat.{ℕ, ◌≤◌, ◌<◌}
use mathlib.Core.Path.{◌≡◌, refl, sym, ap, ◌∙◌}
use mathlib.Core.Bool.{Bool, true, false}
use mathlib.Core.List.{List}
use Rattle.std.specs.Prelude.{Some}
use lib.Dec.{leb}
use lib.ListN.{length, take, length-take, length-append}
use lib.Seq.{take_all}
use borrow.Author.Tests.{leb-true, leb-false, lt-leb}
use Rattle.text.specs.Lines.{bad_line}
use Rattle.recorded.specs.Replay.{is_trace, replay_text}
use Rattle.recorded.specs.ProgramText.{program_limit, program_text}
use Rattle.playback.specs.declared.Text.{Text}
use Rattle.playback.specs.Replays.{text_fits, buffer_after, Replays}
use Rattle.playback.proofs.Printing.{replay-told}
use Rattle.program.specs.Program.{Prints, PrintsHeld}

pub fits : {t o : List ℕ} {r : Text} {o' : List ℕ} → Replays t program_limit o (Some r) o' → Prints t o r.end o'
unfolding text_fits buffer_after program_text
fits {t} {o} {r} {o'} w =
    let told = replay-told w in
    record { room = leb-true _ _ told.0; written = told.1; text = simp told.0 at w.buffer }

-- above 61,440 bytes there is only "bad 0"
no-trace : (t : List ℕ) → 61440 < length t → is_trace t ≡ false
unfolding is_trace
no-trace t h = grind (arith, lt-leb (length t) 61440 h)

too_long : (t : List ℕ) → 61440 < length t → program_text t ≡ bad_line 0
unfolding program_text replay_text
too_long t h = simp (no-trace t h)

enough : (n : ℕ) (t : List ℕ) → 61440 < n → program_text (take n t) ≡ program_text t
enough n t h = by (leb (length t) n) refl
  where
    by : (x : Bool) → leb (length t) n ≡ x → program_text (take n t) ≡ program_text t
    by true e = ap program_text (take_all n t (leb-true _ _ e))
    by false e = let longer = leb-false (length t) n e in cc (too_long (take n t) (simp length-take (omega arith)), too_long t (omega arith))

-- the text of what an array holds is that of the whole input
pub held : {b : List ℕ} {n : ℕ} {o : List ℕ} {r : ℕ} {o' : List ℕ} → 61440 < length b → Prints (take n b) o r o' → PrintsHeld b n o r o'
held {b} h p = record {
  every = λ t e.
      let same = ap program_text e ∙ enough (length b) t h in
      record { room = rw same at p.room; written = rw same at p.written; text = rw same at p.text };
}

-- what the array holds is one of those inputs
pub itself : {b : List ℕ} {n : ℕ} {o : List ℕ} {r : ℕ} {o' : List ℕ} → PrintsHeld b n o r o' → Prints (take n b) o r o'
itself {b} {n} p = p.every (take n b) (sym (take_all (length b) (take n b) (simp length-take (omega arith))))

-- the text lies in the buffer
pub within : {b : List ℕ} {n : ℕ} {o : List ℕ} {r : ℕ} {o' : List ℕ} → PrintsHeld b n o r o' → r ≤ length o'
within p = omega (arith, (itself p).written, simp length-append at (ap length (itself p).text))

-- The bytes of one read more stand behind those before them. Assumes nothing.
use Rattle.std.proofs.Common.{◌≡◌, ◌+◌, ◌≤◌, ℕ, List, ◌++◌, length, take, rules, sym, ap, subst, ◌∙◌}
use Rattle.std.proofs.Math.Seq.{take-append-add}
use Rattle.std.proofs.lemmas.List.{take-append-le, length-take-le}
use Rattle.std.proofs.KnownBytes.{Consumes-trans}
use Rattle.std.specs.Io.KnownBytes.{Consumes}
use Rattle.replay.proofs.read_full.Goals as goal

-- the front of a list up to the place of a part, and a front of the part, is a front of the list with the part in its place
front : (at n : ℕ) (before part behind : List ℕ) → at ≤ length before → n ≤ length part → take at before ++ take n part ≡ take (at + n) (take at before ++ (part ++ behind))
front at n before part behind h l =
    ap (λ m. take at before ++ m) (sym (take-append-le n part behind l))
    ∙ sym (take-append-add (take at before) (part ++ behind) n)
    ∙ ap (λ k. take (k + n) (take at before ++ (part ++ behind))) (length-take-le at before h)

pub loop-done-preserved : goal.loop-done-preserved
loop-done-preserved g c = (
  search rules,
  search rules,
  subst (Consumes _ _) (front _ _ _ _ _ c.loop-done.invariant.1 c.in_ok-more.ensures.bound.0)
      (Consumes-trans _ _ _ _ _ c.loop-done.invariant.2 c.in_ok-more.ensures.bytes.0),
)

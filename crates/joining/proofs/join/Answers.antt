-- One word more has joined: its four bytes are those of the definition.
use Rattle.std.proofs.Common.{◌≡◌, ◌<◌, ◌*◌, ℕ, subst}
use Rattle.page.specs.Page.{byte_at}
use Rattle.descriptor.specs.Descriptor.{joined_below}
use Rattle.descriptor.proofs.Joined.{next_word}
use Rattle.joining.proofs.join.Goals as goal

pub loop-word-preserved : goal.loop-word-preserved
loop-word-preserved c =
    let now : c.loop-word.page ≡ joined_below c.args.page.now c.args.descriptor.now (4 * c.loop-word.word) = c.loop-word.invariant.0 in (
      simp (c.set_word.ensures, c.word_at-in-loop-word.ensures, c.word_at.ensures, now)
          (next_word _ _ c.loop-word.word (subst (λ q. (i : ℕ) → byte_at q i < 256) now c.loop-word.invariant.1) (λ i. (c.type_inv.descriptor i).fits)),
      λ i. (c.type_inv.page i).fits,
    )

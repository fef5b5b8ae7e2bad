-- What a word's search finds is the highest; where it finds none, nothing is set in that word.
use Rattle.std.proofs.Common.{◌≡◌, ◌∙◌, ◌*◌, ◌-◌, ap, arith}
use Rattle.page.specs.Page.{word_at}
use Rattle.registers.specs.Vectors.{highest_bit}
use Rattle.registers.proofs.Highest.{row-bit, word-found, word_next, words-over}
use Rattle.registers.proofs.vectors.place_in.Given.{Over}
use Rattle.registers.proofs.vectors.place_in.Goals as goal
use Rattle.registers.proofs.vectors.place_in.Goals.{After-highest_bit}

-- the word that is asked
asked : (g : Over) (c : After-highest_bit g) → highest_bit c.word_at.result 32 ≡ highest_bit (word_at c.args.words.now (g.row.STEP * (c.loop-word.word - 1))) 32
asked g c = ap (λ w. highest_bit w 32) (c.word_at.ensures ∙ ap (λ step. word_at c.args.words.now (step * (c.loop-word.word - 1))) c.from.ensures)

pub returns-in-Some : goal.returns-in-Some
returns-in-Some g c =
    rw c.from-in-Some.ensures
    (word-found _ _ c.loop-word.word (row-bit c.args.words.now g.row.STEP c.loop-word.word)
    c.loop-word-test.true (omega (arith, c.loop-word.auto.word)) c.loop-word.invariant
    c.in-Some.place (c.in-Some.ensures.counted ∙ asked g (goal.at.returns-in-Some g c).After-highest_bit) c.in-Some.ensures.some)

pub loop-word-preserved : goal.loop-word-preserved
loop-word-preserved g c =
    word_next _ _ c.loop-word.word (row-bit c.args.words.now g.row.STEP c.loop-word.word)
    c.loop-word-test.true (omega (arith, c.loop-word.auto.word)) c.loop-word.invariant
    0 (c.in_default.ensures.counted ∙ asked g (goal.at.loop-word-preserved g c).After-highest_bit) (omega arith)

pub returns : goal.returns
returns g c = words-over _ c.loop-word.word c.loop-word-test.false c.loop-word.invariant

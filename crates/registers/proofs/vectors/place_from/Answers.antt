-- The part from the base on has the page's register.
use Rattle.std.proofs.Common.{◌∙◌, ap}
use Rattle.registers.specs.Vectors.{highest_set}
use Rattle.registers.proofs.Part.{words-part}
use Rattle.registers.proofs.vectors.place_from.Goals as goal

pub returns-then-at-page : goal.returns-then-at-page
returns-then-at-page c = record {
  within = c.place_in.ensures.within;
  found = c.place_in.ensures.found ∙ words-part c.args.page.now c.from-at.result (λ i. (c.type_inv.page i).fits) ∙ ap (highest_set c.args.page.now) c.from-at.ensures;
}

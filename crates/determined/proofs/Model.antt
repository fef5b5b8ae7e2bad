-- The claims of the model's functions allow one outcome: the numbers tell the answer (`determined` of meaning), all else is an equation.
-- Assumes nothing.
use mathlib.Core.Path.{sym, ◌∙◌, ap}
use mathlib.Core.List.{[]}
use Rattle.processor.specs.Offsets.{visr}
use Rattle.registers.specs.Vectors.{highest}
use Rattle.meaning.proofs.Determined.{determined}
use Rattle.determined.specs.Model.{ModelDetermined}
use Rattle.determined.proofs.Laws.{only}

pub model-determined : ModelDetermined
model-determined = record {
  leaves = λ a x y c d. λ k. record {
    result = (determined a x.result y.result x.page y.page c d).0 k;
    page = (determined a x.result y.result x.page y.page c d).1 k;
  };
  leaves_read = λ a p r s c d. (determined a r s p p c d).0;
  leaves_every = λ a r s c d. (determined (a []) r s [] [] (c []) (d [])).0;
  leaves_lent = λ a e x y c d. λ k. record {
    result = (determined a x.result y.result x.page y.page c.outcome d.outcome).0 k;
    page = (determined a x.result y.result x.page y.page c.outcome d.outcome).1 k;
    descriptor = (c.descriptor ∙ sym d.descriptor) k;
  };
  retired = λ p old. only _ (λ x c k. record { result = (c.1 ∙ ap (λ q. highest q visr) c.0) k; page = c.0 k });
}

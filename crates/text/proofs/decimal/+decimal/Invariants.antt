-- The rest has fewer digits, so the number falls.
use Rattle.text.proofs.decimal.+decimal.Given as goal

abbrev pub decreases-decimal : goal.decreases-decimal
decreases-decimal l = l.n

-- Document 01, "How tightly each answer is bound": two outcomes allowed by one claim are equal. An outcome is what the function brings
-- back, and every lent byte afterwards; the claim is taken at fixed values on entry.
use Rattle.std.specs.Prelude.{◌≡◌}

abbrev pub Determines : {X : Type 0} → (X → Type 0) → Type 0
Determines {X = X} claim = (x y : X) → claim x → claim y → x ≡ y

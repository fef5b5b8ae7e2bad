-- An entry's checks count only where nothing else refuses it. Assumes nothing.
use Rattle.std.specs.Prelude.{ℕ, Bool, true, false, ◌&&◌, Option, None, if◌then◌else◌}
use mathlib.Core.Path.{◌≡◌, refl}
use Rattle.meaning.specs.Refusals.{first_refusal}

pub checked_last : (page fields mode : Bool) (check : Option ℕ) → first_refusal page true fields mode (if page && fields && mode then check else None) ≡ first_refusal page true fields mode check
checked_last false fields mode check = refl
checked_last true false mode check = refl
checked_last true true false check = refl
checked_last true true true check = refl

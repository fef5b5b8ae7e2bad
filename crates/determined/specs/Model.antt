-- The claims of the model's functions, and of those that they are made of, allow one outcome.
use Rattle.std.specs.Prelude.{ℕ, ◌≡◌, List}
use Rattle.processor.specs.Offsets.{visr}
use Rattle.events.specs.declared.answer.Outcome.{Outcome}
use Rattle.registers.specs.Vectors.{clear_vector, highest}
use Rattle.meaning.specs.After.{After, Leaves}
use Rattle.meaning.specs.External.{LeavesLent}
use Rattle.determined.specs.Determines.{Determines}

pub record ModelDetermined : Type 0 where
  -- answer, record and page
  pub leaves : (a : After) → Determines (λ (x : record { result : Outcome; page : List ℕ }). Leaves a x.result x.page)
  -- answer and record, where the page is lent as `&` and stays
  pub leaves_read : (a : After) (p : List ℕ) → Determines (λ r. Leaves a r p)
  -- answer and record, of a function that takes no page: its claim is of every page
  pub leaves_every : (a : List ℕ → After) → Determines (λ r. (p : List ℕ) → Leaves (a p) r p)
  -- answer, record, page and descriptor
  pub leaves_lent : (a : After) (d : List ℕ) → Determines (λ (x : record { result : Outcome; page : List ℕ; descriptor : List ℕ }). LeavesLent a d x.result x.page x.descriptor)
  -- the page after a retirement, and SVI
  pub retired : (p : List ℕ) (old : ℕ) → Determines (λ (x : record { result : ℕ; page : List ℕ }). (x.page ≡ clear_vector p visr old) × (x.result ≡ highest x.page visr))

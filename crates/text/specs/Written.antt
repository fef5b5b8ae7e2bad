-- A text written into a lent buffer from a place on, as far as the buffer goes.
use Rattle.std.specs.Prelude.{ℕ, ◌+◌, ◌≡◌, List, [], ◌∷◌, set, length}

abbrev pub written : List ℕ → ℕ → List ℕ → List ℕ
written o at [] = o
written o at (b ∷ bs) = written (set o at b) (at + 1) bs

-- what a function leaves that writes a text: the place after it, and the buffer
pub record Writes (o : List ℕ) (at : ℕ) (text : List ℕ) (next : ℕ) (o' : List ℕ) : Type 0 where
  pub place : next ≡ at + length text
  pub buffer : o' ≡ written o at text

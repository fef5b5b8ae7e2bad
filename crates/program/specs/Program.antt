-- Document 02, E5: what the program leaves of its two arrays, the one that it reads into and the one for its text.
use Rattle.std.specs.Prelude.{ℕ, ◌≤◌, ◌≡◌, List, ◌++◌, length, take, drop}
use Rattle.recorded.specs.ProgramText.{program_text}

-- The text has room and stands at the start, what is behind it stays, and the answer is its length.
pub record Prints (t o : List ℕ) (r : ℕ) (o' : List ℕ) : Type 0 where
  pub room : length (program_text t) ≤ length o
  pub written : r ≡ length (program_text t)
  pub text : o' ≡ program_text t ++ drop (length (program_text t)) o

-- The first n bytes of an array are those of an input, as far as the array goes.
abbrev pub Holds : List ℕ → ℕ → List ℕ → Type 0
Holds b n t = take n b ≡ take (length b) t

-- It is the text of every input that the array holds so.
pub record PrintsHeld (b : List ℕ) (n : ℕ) (o : List ℕ) (r : ℕ) (o' : List ℕ) : Type 0 where
  pub every : (t : List ℕ) → Holds b n t → Prints t o r o'

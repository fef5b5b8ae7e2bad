-- Document 02, E4, as rows of one table: what the search finds on a page.
use Rattle.std.specs.Prelude.{ℕ, Bool, true, ◌&&◌, List, [], ◌∷◌, ◌++◌, Option, None, Some, eqb, replicate}
use Rattle.std.specs.Option.{option_eq}
use Rattle.processor.specs.Offsets.{virr, visr}
use Rattle.registers.specs.Vectors.{set_vector, highest_set}

abbrev zero_page : List ℕ
zero_page = replicate 4096 0

-- a row of the search: a page, a register's base, and what is found there
pub record Search : Type 0 where
  pub page : List ℕ
  pub base : ℕ
  pub found : Option ℕ

abbrev pub searches_hold : List Search → Bool
searches_hold [] = true
searches_hold (s ∷ rows) = option_eq eqb (highest_set s.page s.base) s.found && searches_hold rows

abbrev searched : List ℕ → ℕ → Option ℕ → Search
searched p base found = record { page = p; base = base; found = found }

-- one bit of VIRR alone: that vector there, and none in VISR; and the same with the registers changed about
abbrev bit_alone : ℕ → List Search
bit_alone v =
    searched (set_vector zero_page virr v) virr (Some v) ∷ searched (set_vector zero_page virr v) visr None ∷
    searched (set_vector zero_page visr v) visr (Some v) ∷ searched (set_vector zero_page visr v) virr None ∷ []

-- an empty register is none; bit 0 alone is vector 0; bit 255 alone; every bit
abbrev pub search_rows : List Search
search_rows =
    (searched zero_page virr None ∷ searched zero_page visr None ∷ []) ++ bit_alone 0 ++ bit_alone 255 ++
    (searched (replicate 4096 0xff) virr (Some 255) ∷ searched (replicate 4096 0xff) visr (Some 255) ∷ [])

-- What gg_highest and gg_fresh reply, as rows.
use Rattle.std.specs.Prelude.{ℕ, Bool, ◌&&◌, List, [], ◌∷◌, eqb, replicate}
use Rattle.processor.specs.Rows.{same_bytes, word, with_words}
use Rattle.meaning.specs.Run.{zero_page}
use Rattle.events.specs.declared.answer.Numbers.{Numbers}
use Rattle.calls.specs.Calls.{gg_highest, gg_fresh}

-- the numbers are these three
abbrev tells : Numbers → ℕ → ℕ → ℕ → Bool
tells n answer first second = eqb n.answer answer && eqb n.first first && eqb n.second second

-- 71 requested, 60 in service; vector 0 alone requested
abbrev two_page : List ℕ
two_page = with_words zero_page (word 0x230 0x0002_0000 ∷ word 0x130 0x0000_0001 ∷ [])

abbrev bit_zero : List ℕ
bit_zero = with_words zero_page (word 0x200 0x0000_0001 ∷ [])

-- 0 refused (1 a page of another length, 2 another base, in this order); 1 a vector; 2 none
abbrev pub highest_calls : List Bool
highest_calls =
    tells (gg_highest two_page 0x200) 1 0x71 0 ∷ tells (gg_highest two_page 0x100) 1 0x60 0 ∷ tells (gg_highest zero_page 0x200) 2 0 0 ∷
    tells (gg_highest zero_page 0x100) 2 0 0 ∷ tells (gg_highest bit_zero 0x200) 1 0 0 ∷ tells (gg_highest bit_zero 0x100) 2 0 0 ∷
    tells (gg_highest (replicate 4095 0xff) 0x200) 0 1 0 ∷ tells (gg_highest (replicate 4097 0xff) 0x100) 0 1 0 ∷
    tells (gg_highest [] 0x300) 0 1 0 ∷ tells (gg_highest two_page 0x000) 0 2 0 ∷ tells (gg_highest two_page 0x180) 0 2 0 ∷
    tells (gg_highest two_page 0x300) 0 2 0 ∷ tells (gg_highest two_page 0x201) 0 2 0 ∷ []

abbrev freshens : List ℕ → ℕ → List ℕ → Bool
freshens b answer left = eqb (gg_fresh b).answer answer && same_bytes (gg_fresh b).record_bytes left

-- 48 bytes all become 0, quiet; bytes of another length are refused and stay
abbrev pub fresh_calls : List Bool
fresh_calls =
    freshens (replicate 48 0xa5) 6 (replicate 48 0) ∷ freshens (replicate 47 0xa5) 0 (replicate 47 0xa5) ∷
    freshens (replicate 49 0xa5) 0 (replicate 49 0xa5) ∷ freshens [] 0 [] ∷ []

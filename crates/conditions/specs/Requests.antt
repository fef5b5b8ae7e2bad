-- Requests one at a time, and which vectors a list has.
use Rattle.std.specs.Prelude.{ℕ, ◌<◌, ◌≡◌, Bool, List, [], ◌∷◌}
use Rattle.processor.specs.Logic.{member}
use Rattle.processor.specs.declared.controls.Record.{Record}
use Rattle.meaning.specs.Procedures.{requested_page, requested_record}

-- the page and the record after a request of each vector of the list, in its order
abbrev pub requested_pages : List ℕ → List ℕ → List ℕ
requested_pages p [] = p
requested_pages p (v ∷ vs) = requested_pages (requested_page p v) vs

abbrev pub requested_records : Record → List ℕ → Record
requested_records r [] = r
requested_records r (v ∷ vs) = requested_records (requested_record r v) vs

-- the list has exactly the vectors of a row of bits, in any order, any of them more than once
abbrev pub Exactly : (ℕ → Bool) → List ℕ → Type 0
Exactly f vs = (w : ℕ) → w < 256 → member w vs ≡ f w

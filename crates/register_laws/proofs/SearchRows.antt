-- Every row of the search over a page's words, of a register's highest vector and of a word's highest bit holds of the definitions: a claim
-- for each list, computed. Assumes nothing.
use lib.Dec.{T}
use Rattle.processor.specs.Rows.{all_hold}
use Rattle.registers.specs.Vectors.{is_set, highest_of, highest, highest_bit}
use Rattle.register_laws.specs.Searches.{searches_hold}
use Rattle.register_laws.specs.SearchRows.{word_search_rows, highest_rows, word_rows}

pub every-word-search-holds : T (searches_hold word_search_rows)
unfolding is_set highest_of
every-word-search-holds = tt

pub every-highest-holds : T (all_hold highest_rows)
unfolding is_set highest_of highest
every-highest-holds = tt

pub every-word-holds : T (all_hold word_rows)
unfolding highest_bit
every-word-holds = tt

-- Every row of the record's bytes after a call holds of the definitions, computed. Assumes nothing.
use lib.Dec.{T}
use Rattle.processor.specs.Rows.{all_hold}
use Rattle.stores.specs.Stores.{set_half, set_word, set_long}
use Rattle.keeping.specs.KeptBytes.{controls_bytes, truth_byte, record_bytes, kept, kept_status}
use Rattle.chain.specs.KeptRows.{kept_rows}

pub kept-rows-hold : T (all_hold kept_rows)
unfolding set_half set_word set_long controls_bytes truth_byte record_bytes kept kept_status
kept-rows-hold = tt

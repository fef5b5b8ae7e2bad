-- Every row of one definition by itself holds: one claim over all, computed. Assumes nothing.
use lib.Dec.{T}
use Rattle.processor.specs.Logic.{larger}
use Rattle.processor.specs.Controls.{eoi_exit_word}
use Rattle.processor.specs.Rows.{all_hold}
use Rattle.events.specs.Events.{value_in_bounds, event_in_bounds, root_only, allowed}
use Rattle.page.specs.Page.{half_at, word_at, long_at, word_within, long_within}
use Rattle.stores.specs.Stores.{set_half, set_word, set_long}
use Rattle.sizes.specs.Sizes.{read_at, store_at}
use Rattle.priorities.specs.Priorities.{ppr}
use Rattle.table.specs.Table.{open_offset}
use Rattle.rows.specs.Map.{row_at}
use Rattle.registers.specs.Vectors.{highest_of}
use Rattle.descriptor.specs.Descriptor.{posted, places_below, raised_by, joined_below, cleared_below, cleared}
use Rattle.rows.specs.DefinitionRows.{definition_rows}

pub every-definition-holds : T (all_hold definition_rows)
unfolding larger eoi_exit_word value_in_bounds event_in_bounds root_only allowed half_at word_at long_at word_within long_within set_half set_word set_long read_at store_at ppr open_offset row_at highest_of posted places_below raised_by joined_below cleared_below cleared
every-definition-holds = tt

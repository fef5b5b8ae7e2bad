-- All rows of one definition by itself, section by section of document 01. Those of memory accesses, CR8 and MSR, and the entry checks
-- stand beside their definitions.
use Rattle.std.specs.Prelude.{Bool, List, ◌++◌}
use Rattle.rows.specs.ControlRows.{control_rows}
use Rattle.rows.specs.BoundsRows.{bounds_rows}
use Rattle.rows.specs.ByteRows.{byte_rows}
use Rattle.rows.specs.SizeRows.{size_rows}
use Rattle.rows.specs.PriorityRows.{priority_rows}
use Rattle.rows.specs.OpenRows.{open_rows, map_rows}
use Rattle.rows.specs.DescriptorRows.{descriptor_rows}
use Rattle.rows.specs.BoundaryRows.{matter_rows}

abbrev pub definition_rows : List Bool
definition_rows =
    control_rows ++ bounds_rows ++ byte_rows ++ size_rows ++ priority_rows ++ open_rows ++ map_rows ++ descriptor_rows ++ matter_rows

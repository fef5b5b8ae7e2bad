-- All rows of one input, section by section of document 01.
use Rattle.std.specs.Prelude.{List, ◌++◌}
use Rattle.rows.specs.RowBench.{Row}
use Rattle.rows.specs.RefusedRows.{refusal_rows}
use Rattle.rows.specs.EnteredRows.{entry_rows}
use Rattle.rows.specs.ReadRows.{access_rows}
use Rattle.rows.specs.WriteRows.{write_rows}
use Rattle.rows.specs.Cr8MsrRows.{instruction_rows}
use Rattle.rows.specs.ProcedureRows.{procedure_rows}
use Rattle.rows.specs.BoundaryRows.{boundary_rows}

abbrev pub rule_rows : List Row
rule_rows = refusal_rows ++ entry_rows ++ access_rows ++ write_rows ++ instruction_rows ++ procedure_rows ++ boundary_rows

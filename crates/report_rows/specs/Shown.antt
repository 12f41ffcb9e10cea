-- The cells of rows, apart from where they lie in memory.
use Rattle.std.specs.Prelude.{List, map}
use Rattle.semantics.specs.Aggregates.{CellValue}
use Rattle.report_rows.specs.declared.row.ReportRow.{ReportRow}
use Rattle.group_tables.specs.Cells.{summary_of}

-- ---- rows

-- The cells of a row, apart from where they lie in memory.
abbrev pub cells_of : ReportRow → List CellValue
cells_of row = map summary_of row.cells.items

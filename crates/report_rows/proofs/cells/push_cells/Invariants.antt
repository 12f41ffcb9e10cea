use Rattle.std.proofs.Common.{◌≡◌, ◌++◌, drop, map}
use Rattle.values.specs.Datum.{data_of}
use Rattle.group_tables.specs.Cells.{summary_of}
use Rattle.semantics.specs.Rows.{cell_value}
use Rattle.report_rows.proofs.cells.push_cells.Given as goal

-- the values so far, and then those of the cells that are left
abbrev pub invariant-loop-cell : goal.invariant-loop-cell
invariant-loop-cell l = data_of l.values.items ++ map cell_value (map summary_of (drop l.cell-index l.cells)) ≡ data_of l.fn.values.items ++ map cell_value (map summary_of l.cells)

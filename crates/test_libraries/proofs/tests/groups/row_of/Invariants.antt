use Rattle.values.specs.Datum.{data_of}
use Rattle.group_tables.specs.Rows.{IsNarrowRow}
use Rattle.test_libraries.proofs.tests.groups.row_of.Given as goal

abbrev pub invariant-loop-field : goal.invariant-loop-field
invariant-loop-field l = IsNarrowRow (data_of l.row.items)

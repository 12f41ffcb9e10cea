use Rattle.std.proofs.Common.{◌≡◌, map, take}
use Rattle.values.specs.Datum.{data_of}
use Rattle.group_tables.specs.Cells.{summary_of}
use Rattle.report_rows.specs.Sources.{shown_at}
use Rattle.report_rows.proofs.arrange.row_for.Given as goal

abbrev pub invariant-loop-source : goal.invariant-loop-source
invariant-loop-source l = map summary_of l.cells.items ≡ map (shown_at (data_of l.group.key.items) (map summary_of l.group.cells.items)) (take l.source-index l.set_sources)

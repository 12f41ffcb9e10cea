use Rattle.std.proofs.Common.{◌≡◌, [], map, take}
use Rattle.csv.specs.Records.{fields_of, partial_of}
use Rattle.group_tables.specs.Cells.{summary_of}
use Rattle.semantics.specs.Texts.{cell_field}
use Rattle.report.proofs.fields.write_cells.Given as goal

abbrev pub invariant-loop-cell : goal.invariant-loop-cell
invariant-loop-cell l = record {
  texts : fields_of l.fields ≡ map cell_field (map summary_of (take l.cell-index l.cells));
  whole : partial_of l.fields ≡ [];
}

use Rattle.std.proofs.Common.{◌≡◌, [], map, take}
use Rattle.csv.specs.Records.{fields_of, partial_of}
use Rattle.values.specs.Datum.{data_of}
use Rattle.group_tables.specs.Cells.{summary_of}
use Rattle.report_rows.specs.Sources.{shown_at}
use Rattle.semantics.specs.Texts.{cell_field}
use Rattle.report.proofs.fields.write_group.Given as goal

abbrev pub invariant-loop-source : goal.invariant-loop-source
invariant-loop-source l = record {
  texts : fields_of l.fields ≡ map cell_field (map (shown_at (data_of l.group.key.items) (map summary_of l.group.cells.items)) (take l.source-index l.sources));
  whole : partial_of l.fields ≡ [];
}

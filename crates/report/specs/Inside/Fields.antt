-- The fields of the row of a group.
use Rattle.std.specs.Prelude.{ℕ, List, map}
use Rattle.values.specs.Datum.{data_of}
use Rattle.group_tables.specs.Cells.{summary_of}
use Rattle.group_tables.specs.declared.group.Group.{Group}
use Rattle.report_rows.specs.Sources.{shown_at}
use Rattle.report_rows.specs.declared.source.ValueSource.{ValueSource}
use Rattle.semantics.specs.Texts.{cell_field}

-- What a group has at each of these sources, as fields.
abbrev pub group_fields : List ValueSource → Group → List (List ℕ)
group_fields sources group = map cell_field (map (shown_at (data_of group.key.items) (map summary_of group.cells.items)) sources)

-- The bytes of rows.
use Rattle.std.specs.Prelude.{ℕ, List, map}
use Rattle.std.specs.List.{flat_map}
use Rattle.csv.specs.Writing.{row_text, default_writer}
use Rattle.semantics.specs.Aggregates.{CellValue}
use Rattle.semantics.specs.Texts.{cell_field}

-- ---- the report

-- The bytes of rows: each as CSV, with commas, line feeds, and quotes where they are needed.
abbrev pub rows_bytes : List (List CellValue) → List ℕ
rows_bytes rows = flat_map (row_text default_writer) (map (map cell_field) rows)

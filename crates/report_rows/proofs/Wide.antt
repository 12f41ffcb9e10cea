-- Rows have one cell for each item.
use Rattle.std.proofs.Common.{◌≡◌, ◌∙◌, ◌++◌, List, [], ◌∷◌, length, map, sym, ap, All}
use Rattle.std.specs.List.{AllByRecursion}
use Rattle.std.proofs.lemmas.List.{length-map}
use Rattle.std.proofs.lemmas.List.Elements.{All-from_recursion}
use Rattle.semantics.specs.Columns.{Field}
use Rattle.semantics.specs.Syntax.{SelectItem, Query}
use Rattle.semantics.specs.Aggregates.{CellValue}
use Rattle.group_tables.specs.Cells.{summary_of}
use Rattle.semantics.specs.ResultRows.{ResultRow, set_of}
use Rattle.report_rows.specs.Shown.{cells_of}
use Rattle.semantics.specs.Rows.{expression_value, row_values}
use Rattle.report_rows.specs.declared.row.ReportRow.{ReportRow}

-- where the cells of rows, and then others, are those that groups show, each of the rows has one
-- for each item
wide : (fields : List Field) (t : Query) (rows : List ReportRow) (others : List (List CellValue)) (found : List ResultRow) → map cells_of rows ++ others ≡ map (row_values fields t) found → AllByRecursion (λ row. length row.cells.items ≡ length t.items) rows
wide fields t [] others found e = tt
wide fields t (row ∷ rows) others [] e = absurd cc
wide fields t (row ∷ rows) others (x ∷ found) e =
    let here : cells_of row ≡ row_values fields t x = cc in
    let rest : map cells_of rows ++ others ≡ map (row_values fields t) found = cc in (
      sym (length-map row.cells.items summary_of) ∙ ap length here ∙ length-map t.items (λ (item : SelectItem). expression_value fields t (set_of fields t x) x.1.key x.1.cells item.expression),
      wide fields t rows others found rest,
    )

pub all-wide : (fields : List Field) (t : Query) (rows : List ReportRow) (others : List (List CellValue)) (found : List ResultRow) → map cells_of rows ++ others ≡ map (row_values fields t) found → All (λ row. length row.cells.items ≡ length t.items) rows
all-wide fields t rows others found e = All-from_recursion (λ (row : ReportRow). length row.cells.items ≡ length t.items) rows (wide fields t rows others found e)

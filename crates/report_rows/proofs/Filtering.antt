-- The rows of which HAVING is True fit the query as all rows do.
use Rattle.std.proofs.Common.{◌≡◌, ◌≢◌, ◌<◌, List, length}
use Rattle.std.specs.List.{AllZip}
use Rattle.std.proofs.lemmas.List.Elements.{All-filter}
use Rattle.std.proofs.lemmas.List.Kept.{AllPairs-filter}
use Rattle.semantics.specs.Columns.{Field}
use Rattle.semantics.specs.Syntax.{Query}
use Rattle.semantics.specs.Names.{kind_at}
use Rattle.semantics.specs.SetFunctions.{functions_of}
use Rattle.semantics.specs.Sets.{sets_of}
use Rattle.group_tables.specs.Bags.{SameBag}
use Rattle.group_tables.proofs.Bags.{bag-filter}
use Rattle.group_tables.specs.Fitting.{AreFitting, HasType, IsHeld}
use Rattle.semantics.specs.ResultRows.{set_of, ResultRow}
use Rattle.semantics.specs.Rows.{is_having_true, rows_having_true}

pub fit-having_true : (fields : List Field) (t : Query) (found : List ResultRow) → AreFitting fields t found → AreFitting fields t (rows_having_true fields t found)
fit-having_true fields t found fit =
    let p = is_having_true fields t in
    record {
      indexes = All-filter p (λ (row : ResultRow). row.0 < length (sets_of fields t)) found fit.indexes;
      keys = All-filter p (λ (row : ResultRow). length row.1.key ≡ length (set_of fields t row)) found fit.keys;
      key_types = All-filter p (λ (row : ResultRow). AllZip (λ place d. IsHeld (kind_at fields place) d) (set_of fields t row) row.1.key) found fit.key_types;
      cells = All-filter p (λ (row : ResultRow). length row.1.cells ≡ length (functions_of fields t)) found fit.cells;
      cell_types = All-filter p (λ (row : ResultRow). AllZip (λ f cell. HasType fields f.function cell) (functions_of fields t) row.1.cells) found fit.cell_types;
      distinct = AllPairs-filter (λ (x y : ResultRow). x.0 ≡ y.0 → x.1.key ≢ y.1.key) p found fit.distinct;
    }

-- rows that are the same bag are so where those are left of which HAVING is True
pub bag-having_true : (fields : List Field) (t : Query) (xs ys : List ResultRow) → SameBag xs ys → SameBag (rows_having_true fields t xs) (rows_having_true fields t ys)
bag-having_true fields t xs ys same = bag-filter (is_having_true fields t) xs ys same

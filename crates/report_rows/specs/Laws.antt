-- What the order of the rows comes to.
use Rattle.std.specs.Prelude.{◌≡◌, List}
use Rattle.semantics.specs.Columns.{Field}
use Rattle.semantics.specs.Syntax.{Query}
use Rattle.group_tables.specs.Bags.{SameBag}
use Rattle.semantics.specs.ResultRows.{ResultRow}
use Rattle.semantics.specs.Rows.{rows_having_true}
use Rattle.semantics.specs.Order.{row_order, sorted_rows}
use Rattle.group_tables.specs.Ascending.{Ascends}

-- The rows in their order are the one list that has each row for which HAVING is True as often and
-- ascends
pub record IsTheOrder (fields : List Field) (t : Query) (found : List ResultRow) : Type 0 where
  pub same : SameBag (rows_having_true fields t found) (sorted_rows fields t found)
  pub ascends : Ascends (row_order fields t) (sorted_rows fields t found)
  pub only : (others : List ResultRow) → SameBag (rows_having_true fields t found) others → Ascends (row_order fields t) others → others ≡ sorted_rows fields t found

-- The rows in their order do not depend on the order in which they are found.
abbrev pub IsBlind : List Field → Query → List ResultRow → Type 0
IsBlind fields t found = (others : List ResultRow) → SameBag found others → sorted_rows fields t others ≡ sorted_rows fields t found

-- Groups that fit a query.
use Rattle.std.specs.Prelude.{◌≡◌, ◌≢◌, ◌<◌, ℕ, pos, List, length, Option, Some, None, All, AllPairs, ⊤}
use Rattle.std.specs.List.{AllZip}
use Rattle.semantics.specs.declared.kind.Kind.{Kind}
use Rattle.semantics.specs.Values.{Datum, whole, null}
use Rattle.semantics.specs.Records.{Holds}
use Rattle.semantics.specs.Columns.{Field}
use Rattle.semantics.specs.Syntax.{Query}
use Rattle.semantics.specs.declared.function.ColumnFunction.{ColumnFunction}
use Rattle.semantics.specs.declared.function.ColumnFunction.TheVariants as function
use Rattle.semantics.specs.Names.{kind_at}
use Rattle.semantics.specs.SetFunctions.{functions_of}
use Rattle.semantics.specs.Sets.{sets_of}
use Rattle.semantics.specs.Aggregates.{CellValue, plain, ratio}
use Rattle.semantics.specs.ResultRows.{ResultRow, set_of}

-- ---- types

-- There is a column of a type, and it holds the value: NULL, or a value of the type.
abbrev pub IsHeld : Option Kind → Datum → Type 0
IsHeld None d = ⊥
IsHeld (Some k) d = Holds k d

-- a whole number from 0 on
abbrev pub IsCount : CellValue → Type 0
IsCount (plain (whole (pos n))) = ⊤
IsCount cell = ⊥

-- a whole number, or NULL
abbrev pub IsSum : CellValue → Type 0
IsSum (plain (whole n)) = ⊤
IsSum (plain null) = ⊤
IsSum cell = ⊥

-- a value that the column at a place holds
abbrev pub IsOfColumn : List Field → ℕ → CellValue → Type 0
IsOfColumn fields place (plain d) = IsHeld (kind_at fields place) d
IsOfColumn fields place (ratio sum count) = ⊥

-- a sum and how many numbers were added, which are some, or NULL
abbrev pub IsAverage : CellValue → Type 0
IsAverage (plain null) = ⊤
IsAverage (ratio sum count) = 0 < count
IsAverage cell = ⊥

-- a cell has the type of its set function
abbrev pub HasType : List Field → ColumnFunction → CellValue → Type 0
HasType fields function.CountRows cell = IsCount cell
HasType fields (function.Count place) cell = IsCount cell
HasType fields (function.CountDistinct place) cell = IsCount cell
HasType fields (function.Sum place) cell = IsSum cell
HasType fields (function.Min place) cell = IsOfColumn fields place cell
HasType fields (function.Max place) cell = IsOfColumn fields place cell
HasType fields (function.Avg place) cell = IsAverage cell

-- ---- groups

-- Groups fit a query where the index of each is that of a grouping set, its key has a value for
-- each column of the set, and the column holds it, it has a cell for each set function, of the
-- function's type, and no index and key stand twice together.
pub record AreFitting (fields : List Field) (t : Query) (found : List ResultRow) : Type 0 where
  pub indexes : All (λ row. row.0 < length (sets_of fields t)) found
  pub keys : All (λ row. length row.1.key ≡ length (set_of fields t row)) found
  pub key_types : All (λ row. AllZip (λ place d. IsHeld (kind_at fields place) d) (set_of fields t row) row.1.key) found
  pub cells : All (λ row. length row.1.cells ≡ length (functions_of fields t)) found
  pub cell_types : All (λ row. AllZip (λ f cell. HasType fields f.function cell) (functions_of fields t) row.1.cells) found
  pub distinct : AllPairs (λ x y. x.0 ≡ y.0 → x.1.key ≢ y.1.key) found

-- Tables of which each group is of the types of columns and set functions, whatever its records
-- are.
use Rattle.std.specs.Prelude.{⊤, ◌≢◌, ◌<◌, ℕ, List, length, Option, Some, None, IfSome, All, AllPairs, map}
use Rattle.std.specs.List.{AllByRecursion, AllZip}
use Rattle.std.specs.FinMap as fin
use Rattle.semantics.specs.Columns.{Field}
use Rattle.semantics.specs.Records.{Fits}
use Rattle.semantics.specs.Names.{kind_at}
use Rattle.semantics.specs.Groups.{Record, Key}
use Rattle.semantics.specs.ResultRows.{GroupSummary}
use Rattle.semantics.specs.declared.function.ColumnFunction.{ColumnFunction}
use Rattle.semantics.specs.declared.function.ColumnFunction.TheVariants as function
use Rattle.query_resolve.specs.declared.function.FilteredFunction.{FilteredFunction}
use Rattle.group_tables.specs.Fitting.{HasType, IsHeld}
use Rattle.group_tables.specs.GroupSummaries.{group_summary_in}
use Rattle.group_tables.specs.declared.group.Group.{Group}
use Rattle.group_tables.specs.Accumulator.{AccumulatorState, nothing, counted, summed, averaged, collected, lowest, highest}
use Rattle.group_tables.specs.Table.{Contents}

-- ---- columns

-- Each place is that of a column.
abbrev pub AreColumns : List Field → List ℕ → Type 0
AreColumns fields set = AllByRecursion (λ place. place < length fields) set

-- The column of a MIN or a MAX is there, since their value is of its type; of the others none is
-- asked
abbrev pub HasColumn : List Field → ColumnFunction → Type 0
HasColumn fields function.CountRows = ⊤
HasColumn fields (function.Count place) = ⊤
HasColumn fields (function.CountDistinct place) = ⊤
HasColumn fields (function.Sum place) = ⊤
HasColumn fields (function.Min place) = place < length fields
HasColumn fields (function.Max place) = place < length fields
HasColumn fields (function.Avg place) = ⊤

-- So is that of each MIN and MAX of a list.
abbrev pub HaveColumns : List Field → List FilteredFunction → Type 0
HaveColumns fields functions = AllByRecursion (λ f. HasColumn fields f.function) functions

-- Each record fits the columns.
abbrev pub AllFit : List Field → List Record → Type 0
AllFit fields rows = AllByRecursion (Fits fields) rows

-- ---- what is kept

-- It is what is kept for a set function without FILTER, and a least or greatest value is one that
-- the column holds
abbrev pub IsStateOver : List Field → ColumnFunction → AccumulatorState → Type 0
IsStateOver fields function.CountRows nothing = ⊤
IsStateOver fields (function.Count place) (counted n) = ⊤
IsStateOver fields (function.CountDistinct place) (collected s) = ⊤
IsStateOver fields (function.Sum place) (summed s n) = ⊤
IsStateOver fields (function.Min place) (lowest d) = IsHeld (kind_at fields place) d
IsStateOver fields (function.Max place) (highest d) = IsHeld (kind_at fields place) d
IsStateOver fields (function.Avg place) (averaged s n) = ⊤
IsStateOver fields f k = ⊥

-- The same for one with FILTER: for COUNT(*) a count is kept.
abbrev pub IsStateCounted : List Field → ColumnFunction → AccumulatorState → Type 0
IsStateCounted fields function.CountRows (counted n) = ⊤
IsStateCounted fields function.CountRows k = ⊥
IsStateCounted fields f k = IsStateOver fields f k

-- For one with the FILTER of this index, or with none.
abbrev pub IsStateBy : List Field → Option ℕ → ColumnFunction → AccumulatorState → Type 0
IsStateBy fields None f k = IsStateOver fields f k
IsStateBy fields (Some index) f k = IsStateCounted fields f k

-- It is what is kept for a set function, of the type that its column has.
abbrev pub IsStateOf : List Field → FilteredFunction → AccumulatorState → Type 0
IsStateOf fields f k = IsStateBy fields f.filter f.function k

-- So is what is kept for each set function.
abbrev pub AreStatesOf : List Field → List FilteredFunction → List AccumulatorState → Type 0
AreStatesOf fields functions states = AllZip (IsStateOf fields) functions states

-- a key has for each column of the set a value that the column holds
abbrev pub IsKeyOf : List Field → List ℕ → Key → Type 0
IsKeyOf fields set key = AllZip (λ place d. IsHeld (kind_at fields place) d) set key

-- ---- tables and groups

-- Each group of a table has a key of the columns of the set, and what is kept of it is of the types
-- of the set functions.
pub record IsTypedTable (fields : List Field) (set : List ℕ) (functions : List FilteredFunction) (table : Contents) : Type 0 where
  pub keys : (k : Key) → IfSome (fin.get table k) (λ _. IsKeyOf fields set k)
  pub parts : (k : Key) → IfSome (fin.get table k) (λ group. AreStatesOf fields functions group.parts)

-- Groups have keys of the columns of the set, no two of them the same, and a cell of its type for
-- each set function.
pub record AreOfTypes (fields : List Field) (set : List ℕ) (functions : List FilteredFunction) (groups : List GroupSummary) : Type 0 where
  pub keys : All (λ g. IsKeyOf fields set g.key) groups
  pub cells : All (λ g. AllZip (λ f cell. HasType fields f.function cell) functions g.cells) groups
  pub distinct : AllPairs (λ x y. x.key ≢ y.key) groups

-- a table that is made of one under a finer set is of the types of columns and set functions where
-- that one is
abbrev pub KeepsTypes : List ℕ → List FilteredFunction → Contents → List ℕ → Contents → Type 0
KeepsTypes finer functions table set rolled =
    (fields : List Field) → HaveColumns fields functions
    → IsTypedTable fields finer functions table → IsTypedTable fields set functions rolled

-- The groups that a table gives are of the types of columns and set functions where the table is.
abbrev pub HaveTypesOfTable : Contents → List Group → Type 0
HaveTypesOfTable table groups =
    (fields : List Field) (set : List ℕ) (functions : List FilteredFunction)
    → IsTypedTable fields set functions table → AreOfTypes fields set functions (map group_summary_in groups)

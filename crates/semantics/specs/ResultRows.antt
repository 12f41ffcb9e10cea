-- The result rows of a query before HAVING: a row for each group of each grouping set, with the
-- values of the set functions over the members of the group (ISO/IEC 9075-2, <group by clause>).
-- The order of the records changes none of them (`records_law` of tables), and each record that
-- WHERE keeps counts once in each grouping set (`members_law`).
use Rattle.std.specs.Prelude.{ℕ, List, length, map, [], slice_index_or, option_map}
use Rattle.semantics.specs.Aggregates.{AggregateFunction, CellValue, agg}
use Rattle.semantics.specs.Columns.{Field}
use Rattle.semantics.specs.Conditions.{passes, kept_records}
use Rattle.semantics.specs.Groups.{Record, Key, SetGroup, groups}
use Rattle.semantics.specs.Names.{PlannedFunction}
use Rattle.semantics.specs.SetFunctions.{functions_of}
use Rattle.semantics.specs.Sets.{sets_of}
use Rattle.semantics.specs.Syntax.{Query}

-- What a row has of its group: the key, the number of members, and the value of each set function
-- over them.
pub record GroupSummary : Type 0 where
  pub key : Key
  pub lines : ℕ
  pub cells : List CellValue

-- The summary of a group with this key and these members.
abbrev pub group_summary : List AggregateFunction → Key → List Record → GroupSummary
group_summary functions key rows =
    record { key = key; lines = length rows; cells = map (λ f. agg f rows) functions }

-- A row: the index of a grouping set in the list of sets, and what it has of one of the groups of
-- that set.
abbrev pub ResultRow : Type 0
ResultRow = ℕ × GroupSummary

-- The columns of the grouping set of a row, by their places.
abbrev pub set_of : List Field → Query → ResultRow → List ℕ
set_of fields t row = slice_index_or (sets_of fields t) row.0 []

-- A set function of a query: its FILTER keeps the records of which its predicate is True.
abbrev pub aggregate_function : List Field → PlannedFunction → AggregateFunction
aggregate_function fields f =
    record { function = f.function; filter = option_map (passes fields) f.filter }

-- The different set functions of a query, in the order in which they first stand.
abbrev pub aggregate_functions : List Field → Query → List AggregateFunction
aggregate_functions fields q = map (aggregate_function fields) (functions_of fields q)

-- The row of a group.
abbrev pub row_of_group : List AggregateFunction → SetGroup → ResultRow
row_of_group functions group = (group.index, group_summary functions group.key group.members)

-- The rows of all groups of a list of records.
abbrev pub rows_of_groups : List (List ℕ) → List AggregateFunction → List Record → List ResultRow
rows_of_groups sets functions rows = map (row_of_group functions) (groups sets rows)

-- The rows of a query over a list of records, of which its WHERE keeps some.
abbrev pub rows_before_having : List Field → Query → List Record → List ResultRow
rows_before_having fields q rows =
    rows_of_groups (sets_of fields q) (aggregate_functions fields q) (kept_records fields q rows)

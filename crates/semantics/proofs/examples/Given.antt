-- What the examples are about: some columns and lines, and how their queries are put together.
use Prim.Native.String.{String}
use Rattle.std.specs.Prelude.{ℕ, Bool, false, List, [], ◌∷◌, Some, None, codes}
use Rattle.semantics.specs.Columns.{Field}
use Rattle.semantics.specs.Syntax.{Expression, GroupingElement, Operand, Predicate, Query, SelectItem, SortKey, name, function, over_all, over_filtered, expression}
use Rattle.semantics.specs.declared.aggregate.Aggregate.{Aggregate}
use Rattle.semantics.specs.declared.aggregate.Aggregate.TheVariants as aggregate
use Rattle.semantics.specs.declared.kind.Kind.{Kind}
use Rattle.semantics.specs.declared.kind.Kind.TheVariants as kind

-- ---- columns and lines

-- A column of this name and type.
abbrev pub column_of_type : String → Kind → Field
column_of_type n k = record { name = codes n; kind = k }

-- d:text,r:text,q:int
abbrev pub columns : List Field
columns = column_of_type "d" kind.Text ∷ column_of_type "r" kind.Text ∷ column_of_type "q" kind.Int ∷ []

-- Three lines for them, of which the second has no r and the third no q.
abbrev pub three_lines : List ℕ
three_lines = codes "{\"d\":\"x\",\"r\":\"n\",\"q\":5}\n{\"d\":\"x\",\"r\":null,\"q\":2}\n{\"d\":\"y\",\"r\":\"n\"}\n"

-- a:bool,q:int
abbrev pub truth_columns : List Field
truth_columns = column_of_type "a" kind.Bool ∷ column_of_type "q" kind.Int ∷ []

-- Four lines for them: a is true, false, NULL and true, and q is 1, 2, 3 and NULL.
abbrev pub truth_lines : List ℕ
truth_lines = codes "{\"a\":true,\"q\":1}\n{\"a\":false,\"q\":2}\n{\"q\":3}\n{\"a\":true}\n"

-- ---- queries

-- SELECT these items FROM lines GROUP BY these elements, with no other clause.
abbrev pub select : List SelectItem → List GroupingElement → Query
select items groups = record {
  items = items;
  where_condition = None;
  distinct_sets = false;
  groups = groups;
  having_condition = None;
  keys = [];
}

-- An item without an alias.
abbrev pub item : Expression → SelectItem
item e = record { expression = e; alias = None }

-- An item with an alias.
abbrev pub item_as : Expression → String → SelectItem
item_as e n = record { expression = e; alias = Some (codes n) }

-- A set function over all records of a group.
abbrev pub over : Aggregate → Expression
over a = function (over_all a)

-- A set function over those that its FILTER keeps.
abbrev pub over_those : Aggregate → Predicate → Expression
over_those a p = function (over_filtered a p)

-- COUNT(*)
abbrev pub count_rows : Aggregate
count_rows = aggregate.CountRows

-- The column of this name, as an operand.
abbrev pub value : String → Operand
value n = expression (name (codes n))

-- A key of ORDER BY: whether it is DESC, and whether NULL is first.
abbrev pub sorted_by_key : Expression → (descending nulls_first : Bool) → SortKey
sorted_by_key e d n = record { expression = e; descending = d; nulls_first = n }

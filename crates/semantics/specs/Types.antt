-- The types of expressions (ISO/IEC 9075-2, <value expression>).
use Rattle.std.specs.List.{find}
use Rattle.std.specs.Option.{option_map_or}
use Rattle.std.specs.Prelude.{Bool, true, false, Option, Some, None, List}
use Rattle.std.specs.Str.{bytes_eq}
use Rattle.semantics.specs.Columns.{Field}
use Rattle.semantics.specs.Names.{aggregate_of, column_kind}
use Rattle.semantics.specs.Syntax.{Expression, Operand, SelectItem, name, grouping, function, expression, literal}
use Rattle.semantics.specs.declared.aggregate.Aggregate.{Aggregate}
use Rattle.semantics.specs.declared.kind.Kind.{Kind}
use Rattle.semantics.specs.declared.literal.Literal.{Literal}
use Rattle.semantics.specs.declared.kind.Kind.TheVariants as kind
use Rattle.semantics.specs.declared.aggregate.Aggregate.TheVariants as aggregate
use Rattle.semantics.specs.declared.literal.Literal.TheVariants as constant

-- ---- functions

-- Whether a set function is AVG.
abbrev pub is_average : Aggregate → Bool
is_average aggregate.CountRows = false
is_average (aggregate.Count x) = false
is_average (aggregate.CountDistinct x) = false
is_average (aggregate.Sum x) = false
is_average (aggregate.Min x) = false
is_average (aggregate.Max x) = false
is_average (aggregate.Avg x) = true

-- ---- expressions

-- The type of a set function: a whole number, or for MIN and MAX the type of the argument. AVG has
-- none.
abbrev pub aggregate_kind : List Field → Aggregate → Option Kind
aggregate_kind fields aggregate.CountRows = Some kind.Int
aggregate_kind fields (aggregate.Count x) = Some kind.Int
aggregate_kind fields (aggregate.CountDistinct x) = Some kind.Int
aggregate_kind fields (aggregate.Sum x) = Some kind.Int
aggregate_kind fields (aggregate.Min x) = column_kind fields x
aggregate_kind fields (aggregate.Max x) = column_kind fields x
aggregate_kind fields (aggregate.Avg x) = None

-- The type of an expression: a column has its own, GROUPING is a whole number.
abbrev pub expression_kind : List Field → Expression → Option Kind
expression_kind fields (name n) = column_kind fields n
expression_kind fields (grouping ns) = Some kind.Int
expression_kind fields (function f) = aggregate_kind fields (aggregate_of f)

-- The type of a literal.
abbrev pub literal_kind : Literal → Kind
literal_kind (constant.Integer i) = kind.Int
literal_kind (constant.Text s) = kind.Text
literal_kind (constant.Truth b) = kind.Bool

-- ---- operands

-- The type of an operand.
abbrev pub operand_kind : List Field → Operand → Option Kind
operand_kind fields (expression e) = expression_kind fields e
operand_kind fields (literal a) = Some (literal_kind a)

-- ---- the query

-- A key of ORDER BY that is the alias of an item stands for that item, the first one with this
-- alias.
abbrev pub key_expression : List SelectItem → Expression → Expression
key_expression items (name n) =
    option_map_or (λ i. i.expression)
    (find (λ i. option_map_or (bytes_eq n) i.alias false) items) (name n)
key_expression items (grouping ns) = grouping ns
key_expression items (function f) = function f

-- The canonical text of a query, with one line for each production of its grammar (ISO/IEC 9075-2,
-- <query specification>). It is a text of that query (`reads_again` of query).
use Rattle.std.specs.Fmt.{signed_decimal}
use Rattle.std.specs.List.{flat_map}
use Rattle.std.specs.Option.{option_map_or}
use Rattle.std.specs.Prelude.{ℕ, Bool, true, false, Option, List, [], ◌∷◌, ◌++◌, map, codes, nat_lt, unwrap_or, slice_get, if◌then◌else◌}
use Rattle.semantics.specs.Columns.{Field, names_of}
use Rattle.semantics.specs.Syntax.{Expression, SetFunction, Operand, Predicate, Predicates, GroupingElement, GroupingElements, SelectItem, SortKey, Query, name, grouping, function, over_all, over_filtered, expression, literal, or_of, and_of, not_of, truth_test, compare, between, member, null_test, column, no_parts, part, set, rollup, cube, sets, no_groups, group, element_forms}
use Rattle.semantics.specs.Words.{name_text, quoted_text}
use Rattle.semantics.specs.declared.aggregate.Aggregate.{Aggregate}
use Rattle.semantics.specs.declared.comparison.Op.{Op}
use Rattle.semantics.specs.declared.literal.Literal.{Literal}
use Rattle.semantics.specs.declared.truth.Truth.{Truth}
use Rattle.semantics.specs.declared.aggregate.Aggregate.TheVariants as aggregate
use Rattle.semantics.specs.declared.comparison.Op.TheVariants as op
use Rattle.semantics.specs.declared.truth.Truth.TheVariants as truth
use Rattle.semantics.specs.declared.literal.Literal.TheVariants as constant

-- ---- lists and brackets

-- Texts in a row, with a separator between each and the next.
abbrev pub separated_texts : List ℕ → List (List ℕ) → List ℕ
separated_texts separator [] = []
separated_texts separator (first ∷ others) = first ++ flat_map (λ text. separator ++ text) others

-- Texts with a comma and a space between them.
abbrev pub comma_list : List (List ℕ) → List ℕ
comma_list texts = separated_texts (codes ", ") texts

-- A text in brackets.
abbrev pub in_brackets : List ℕ → List ℕ
in_brackets text = codes "(" ++ text ++ codes ")"

-- Names with commas.
abbrev pub names_text : List (List ℕ) → List ℕ
names_text names = comma_list (map name_text names)

-- ---- leaves

-- A set function with its argument.
abbrev pub aggregate_text : Aggregate → List ℕ
aggregate_text aggregate.CountRows = codes "COUNT(*)"
aggregate_text (aggregate.Count x) = codes "COUNT(" ++ name_text x ++ codes ")"
aggregate_text (aggregate.CountDistinct x) = codes "COUNT(DISTINCT " ++ name_text x ++ codes ")"
aggregate_text (aggregate.Sum x) = codes "SUM(" ++ name_text x ++ codes ")"
aggregate_text (aggregate.Min x) = codes "MIN(" ++ name_text x ++ codes ")"
aggregate_text (aggregate.Max x) = codes "MAX(" ++ name_text x ++ codes ")"
aggregate_text (aggregate.Avg x) = codes "AVG(" ++ name_text x ++ codes ")"

-- A whole number is plain decimal, a text stands between apostrophes, a truth value is a keyword.
abbrev pub literal_text : Literal → List ℕ
literal_text (constant.Integer i) = signed_decimal i
literal_text (constant.Text text) = quoted_text 39 text
literal_text (constant.Truth b) = if b then codes "TRUE" else codes "FALSE"

-- The sign of an operator.
abbrev pub op_text : Op → List ℕ
op_text op.Eq = codes "="
op_text op.Ne = codes "<>"
op_text op.Lt = codes "<"
op_text op.Le = codes "<="
op_text op.Gt = codes ">"
op_text op.Ge = codes ">="

-- The keyword of a truth value.
abbrev pub truth_text : Truth → List ℕ
truth_text truth.True = codes "TRUE"
truth_text truth.False = codes "FALSE"
truth_text truth.Unknown = codes "UNKNOWN"

-- NOT, if it is written.
abbrev pub not_text : Bool → List ℕ
not_text n = if n then codes "NOT " else []

-- ---- expressions and predicates

-- How tightly a predicate holds together: OR least, then AND, NOT and a truth test, and an atom
-- most.
abbrev pub precedence : Predicate → ℕ
precedence (or_of ps) = 0
precedence (and_of ps) = 1
precedence (not_of p) = 2
precedence (truth_test p n t) = 3
precedence (compare a c b) = 4
precedence (between a n b c) = 4
precedence (member a n ls) = 4
precedence (null_test a n) = 4
precedence (column n) = 4

-- A part of a predicate stands in brackets exactly if it holds together less tightly than its
-- place asks.
abbrev pub bracketed_below : ℕ → ℕ → List ℕ → List ℕ
bracketed_below least has text = if nat_lt has least then in_brackets text else text

abbrev mutual
  -- A name, a GROUPING or a set function.
  pub expression_text : Expression → List ℕ
  expression_text (name n) = name_text n
  expression_text (grouping ns) = codes "GROUPING(" ++ names_text ns ++ codes ")"
  expression_text (function f) = function_text f

  -- A set function, with its FILTER if it has one.
  pub function_text : SetFunction → List ℕ
  function_text (over_all f) = aggregate_text f
  function_text (over_filtered f p) =
      aggregate_text f ++ codes " FILTER (WHERE " ++ predicate_text p ++ codes ")"

  -- An expression or a literal.
  pub operand_text : Operand → List ℕ
  operand_text (expression e) = expression_text e
  operand_text (literal a) = literal_text a

  -- The places of parts ask: under OR for an AND or tighter, under AND for a NOT or tighter, under
  -- NOT for a truth test or an atom, in a truth test for an atom.
  pub predicate_text : Predicate → List ℕ
  predicate_text (or_of ps) = separated_texts (codes " OR ") (part_texts 1 ps)
  predicate_text (and_of ps) = separated_texts (codes " AND ") (part_texts 2 ps)
  predicate_text (not_of p) = codes "NOT " ++ bracketed_below 3 (precedence p) (predicate_text p)
  predicate_text (truth_test p n t) =
      bracketed_below 4 (precedence p) (predicate_text p) ++ codes " IS " ++ not_text n
      ++ truth_text t
  predicate_text (compare a c b) =
      operand_text a ++ codes " " ++ op_text c ++ codes " " ++ operand_text b
  predicate_text (between a n b c) =
      operand_text a ++ codes " " ++ not_text n ++ codes "BETWEEN " ++ operand_text b
      ++ codes " AND " ++ operand_text c
  predicate_text (member a n ls) =
      operand_text a ++ codes " " ++ not_text n ++ codes "IN "
      ++ in_brackets (comma_list (map literal_text ls))
  predicate_text (null_test a n) = operand_text a ++ codes " IS " ++ not_text n ++ codes "NULL"
  predicate_text (column n) = name_text n

  -- The parts of an OR or an AND, in places that ask for this precedence.
  pub part_texts : ℕ → Predicates → List (List ℕ)
  part_texts least no_parts = []
  part_texts least (part p ps) =
      bracketed_below least (precedence p) (predicate_text p) ∷ part_texts least ps

-- ---- groups

-- A set or a unit of one name is that name; every other one stands in brackets.
abbrev pub unit_text : List (List ℕ) → List ℕ
unit_text (x ∷ []) = name_text x
unit_text names = in_brackets (names_text names)

abbrev mutual
  -- An element of GROUP BY.
  pub group_text : GroupingElement → List ℕ
  group_text (set ns) = unit_text ns
  group_text (rollup us) = codes "ROLLUP " ++ in_brackets (comma_list (map unit_text us))
  group_text (cube us) = codes "CUBE " ++ in_brackets (comma_list (map unit_text us))
  group_text (sets gs) = codes "GROUPING SETS " ++ in_brackets (comma_list (group_texts gs))

  -- The elements of GROUPING SETS, in order.
  pub group_texts : GroupingElements → List (List ℕ)
  group_texts no_groups = []
  group_texts (group g gs) = group_text g ∷ group_texts gs

-- ---- the query

-- An item: its expression, and its alias after AS, if it has one.
abbrev pub item_text : SelectItem → List ℕ
item_text i =
    expression_text i.expression ++ option_map_or (λ n. codes " AS " ++ name_text n) i.alias []

-- Where NULL stands is written only if it is not the default: last under ASC, first under DESC.
abbrev pub nulls_text : Bool → Bool → List ℕ
nulls_text true false = codes " NULLS LAST"
nulls_text false true = codes " NULLS FIRST"
nulls_text descending nulls_first = []

-- DESC, if it is written.
abbrev pub direction_text : Bool → List ℕ
direction_text descending = if descending then codes " DESC" else []

-- A key: its expression, its direction, and where NULL stands.
abbrev pub key_text : SortKey → List ℕ
key_text k =
    expression_text k.expression ++ direction_text k.descending
    ++ nulls_text k.descending k.nulls_first

-- A clause of one predicate, if there is one.
abbrev pub predicate_clause : List ℕ → Option Predicate → List ℕ
predicate_clause keywords written = option_map_or (λ p. keywords ++ predicate_text p) written []

-- A clause of a list, if the list has an element.
abbrev pub list_clause : List ℕ → List (List ℕ) → List ℕ
list_clause keywords [] = []
list_clause keywords (first ∷ others) = keywords ++ comma_list (first ∷ others)

-- The keywords of GROUP BY, and DISTINCT if it is written.
abbrev pub group_by_text : Bool → List ℕ
group_by_text distinct = if distinct then codes " GROUP BY DISTINCT " else codes " GROUP BY "

-- The canonical text of a query.
abbrev pub canonical_text : Query → List ℕ
canonical_text t =
    codes "SELECT " ++ comma_list (map item_text t.items) ++ codes " FROM lines"
    ++ predicate_clause (codes " WHERE ") t.where_condition
    ++ list_clause (group_by_text t.distinct_sets) (group_texts (element_forms t.groups))
    ++ predicate_clause (codes " HAVING ") t.having_condition
    ++ list_clause (codes " ORDER BY ") (map key_text t.keys)

-- ---- headers and sets

-- The header of an item: its alias, or the canonical text of its expression if it has none.
abbrev pub header_text : SelectItem → List ℕ
header_text i = unwrap_or i.alias (expression_text i.expression)

-- The name of the column at a place, empty if there is none.
abbrev pub name_at : List Field → ℕ → List ℕ
name_at fields place = unwrap_or (slice_get (names_of fields) place) []

-- A grouping set of columns, given by their places.
abbrev pub set_text : List Field → List ℕ → List ℕ
set_text fields places = in_brackets (names_text (map (name_at fields) places))

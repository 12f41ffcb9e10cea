-- What is wrong with a query under a schema: its faults, in the order in which they are reported
-- (ISO/IEC 9075-2, <query specification>). A query is planned if it has none; of several the first
-- is reported. It has none exactly if each of its clauses is typed (`typed_law` of
-- query_typecheck).
use Rattle.std.specs.List.{enumerate_from, flat_map, list_any}
use Rattle.std.specs.Option.{option_map_or}
use Rattle.std.specs.Prelude.{ℕ, nat_le, Bool, true, false, not, ◌&&◌, Option, Some, None, List, [], ◌∷◌, ◌++◌, map, length, take, is_some, if◌then◌else◌}
use Rattle.std.specs.Str.{bytes_eq}
use Rattle.semantics.specs.Canonical.{header_text}
use Rattle.semantics.specs.Columns.{Field}
use Rattle.semantics.specs.Names.{column_kind, place_of, aggregate_of, filter_of}
use Rattle.semantics.specs.SetFunctions.{functions_of}
use Rattle.semantics.specs.Sets.{expansion, grouping_names}
use Rattle.semantics.specs.Syntax.{Expression, SetFunction, Operand, Predicate, Query, name, grouping, function, expression, literal, operands_of_atoms}
use Rattle.semantics.specs.Types.{is_average, key_expression, operand_kind}
use Rattle.semantics.specs.declared.aggregate.Aggregate.{Aggregate}
use Rattle.semantics.specs.declared.kind.Kind.{Kind}
use Rattle.semantics.specs.declared.query_fault.QueryFault.{QueryFault}
use Rattle.semantics.specs.declared.query_fault.QueryFault.TheVariants.{UnknownColumn, TypesDisagree, NotGrouped, OverLimit, FunctionNotAllowed, RepeatedHeader}
use Rattle.semantics.specs.declared.kind.Kind.TheVariants as kind
use Rattle.semantics.specs.declared.aggregate.Aggregate.TheVariants as aggregate
use Rattle.semantics.specs.Limits.{most_grouping_sets, most_set_functions}

-- This fault, unless the test holds.
abbrev pub unless : Bool → QueryFault → List QueryFault
unless test fault = if test then [] else fault ∷ []

-- ---- names

-- No column has this name.
abbrev pub column_faults : List Field → List ℕ → List QueryFault
column_faults fields n = unless (is_some (place_of fields n)) (UnknownColumn n)

-- No column has this name, or it is none of the names in GROUP BY, which are given.
abbrev pub grouped_faults : List Field → List (List ℕ) → List ℕ → List QueryFault
grouped_faults fields groups n =
    column_faults fields n ++ unless (list_any (bytes_eq n) groups) (NotGrouped n)

-- ---- types

-- Whether two types are the same.
abbrev pub same_kind : Kind → Kind → Bool
same_kind kind.Int kind.Int = true
same_kind kind.Text kind.Text = true
same_kind kind.Bool kind.Bool = true
same_kind k l = false

-- The types of two operands are not the same. They count as different if one has no type, as AVG
-- and a name that is no column.
abbrev pub agreement_faults : Option Kind → Option Kind → List QueryFault
agreement_faults (Some k) (Some l) = unless (same_kind k l) TypesDisagree
agreement_faults k l = TypesDisagree ∷ []

-- The column that a set function is taken of, with the types that it takes. COUNT(*) has none.
abbrev pub argument_of : Aggregate → List (List ℕ × List Kind)
argument_of aggregate.CountRows = []
argument_of (aggregate.Count x) = (x, kind.Int ∷ kind.Text ∷ kind.Bool ∷ []) ∷ []
argument_of (aggregate.CountDistinct x) = (x, kind.Int ∷ kind.Text ∷ kind.Bool ∷ []) ∷ []
argument_of (aggregate.Sum x) = (x, kind.Int ∷ []) ∷ []
argument_of (aggregate.Min x) = (x, kind.Int ∷ kind.Text ∷ []) ∷ []
argument_of (aggregate.Max x) = (x, kind.Int ∷ kind.Text ∷ []) ∷ []
argument_of (aggregate.Avg x) = (x, kind.Int ∷ []) ∷ []

-- No column has this name, or its type is none of these.
abbrev pub typed_column_faults : List Field → List ℕ × List Kind → List QueryFault
typed_column_faults fields (n, kinds) =
    column_faults fields n
    ++ unless (option_map_or (λ k. list_any (same_kind k) kinds) (column_kind fields n) false)
    TypesDisagree

-- The faults of the argument of a set function.
abbrev pub argument_faults : List Field → Aggregate → List QueryFault
argument_faults fields a = flat_map (typed_column_faults fields) (argument_of a)

-- ---- predicates

-- The faults of an operand, given those of each expression. A literal has none.
abbrev pub operand_faults : (Expression → List QueryFault) → Operand → List QueryFault
operand_faults of_expression (expression e) = of_expression e
operand_faults of_expression (literal a) = []

-- The faults of an atom with these operands: their own, and then that they are not of one type.
abbrev pub atom_faults : (Expression → List QueryFault) → List Field
    → List Operand → List QueryFault
atom_faults of_expression fields [] = []
atom_faults of_expression fields (x ∷ xs) =
    flat_map (operand_faults of_expression) (x ∷ xs)
    ++ flat_map (λ y. agreement_faults (operand_kind fields x) (operand_kind fields y)) xs

-- The faults of a predicate, given those of each expression.
abbrev pub predicate_faults : (Expression → List QueryFault) → List Field
    → Predicate → List QueryFault
predicate_faults of_expression fields p =
    flat_map (atom_faults of_expression fields) (operands_of_atoms p)

-- The faults of the predicate of a clause or a FILTER, if it is written.
abbrev pub clause_faults : (Expression → List QueryFault) → List Field
    → Option Predicate → List QueryFault
clause_faults of_expression fields None = []
clause_faults of_expression fields (Some p) = predicate_faults of_expression fields p

-- ---- expressions

-- The faults of an expression over one record, as in WHERE and in a FILTER: names are columns, and
-- neither GROUPING nor a set function may stand.
abbrev pub record_faults : List Field → Expression → List QueryFault
record_faults fields (name n) = column_faults fields n
record_faults fields (grouping ns) = FunctionNotAllowed ∷ []
record_faults fields (function f) = FunctionNotAllowed ∷ []

-- The faults of a set function: those of its argument, and then those of its FILTER; or that it is
-- AVG, if the test says that AVG may not stand.
abbrev pub function_faults : Bool → List Field → SetFunction → List QueryFault
function_faults may_average fields f =
    if is_average (aggregate_of f) && not may_average then FunctionNotAllowed ∷ []
    else argument_faults fields (aggregate_of f)
    ++ clause_faults (record_faults fields) fields (filter_of f)

-- The faults of an expression over a group, as in SELECT, HAVING and ORDER BY: names outside of set
-- functions are among those in GROUP BY, which are given. The test says whether AVG may stand.
abbrev pub group_faults : Bool → List Field → List (List ℕ) → Expression → List QueryFault
group_faults may_average fields groups (name n) = grouped_faults fields groups n
group_faults may_average fields groups (grouping ns) = flat_map (grouped_faults fields groups) ns
group_faults may_average fields groups (function f) = function_faults may_average fields f

-- ---- the query

-- Each header that an earlier item has.
abbrev pub header_faults : List (List ℕ) → List QueryFault
header_faults headers =
    flat_map (λ p. unless (not (list_any (bytes_eq p.1) (take p.0 headers))) (RepeatedHeader p.1))
    (enumerate_from 0 headers)

-- What is wrong with a query under a schema, in the order in which it is reported: in WHERE; in
-- GROUP BY, where names are columns; that it stands for more than 256 sets; in the items of
-- SELECT, where alone AVG may stand; in their headers; in HAVING; in ORDER BY, where a key that is
-- an alias stands for its item; and that there are more than 64 different set functions.
unfoldable pub query_faults : List Field → Query → List QueryFault
query_faults fields q =
    let groups = grouping_names q in
    clause_faults (record_faults fields) fields q.where_condition
    ++ flat_map (column_faults fields) groups
    ++ unless (nat_le (length (expansion q.groups)) most_grouping_sets) OverLimit
    ++ flat_map (λ i. group_faults true fields groups i.expression) q.items
    ++ header_faults (map header_text q.items)
    ++ clause_faults (group_faults false fields groups) fields q.having_condition
    ++ flat_map (λ k. group_faults false fields groups (key_expression q.items k.expression)) q.keys
    ++ unless (nat_le (length (functions_of fields q)) most_set_functions) OverLimit

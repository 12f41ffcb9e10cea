-- The faults of a query, where they stand in it, its set functions and its filters, computed on
-- examples.
use Rattle.std.proofs.Common.{◌≡◌, zero, suc, true, false, ℕ, List, [], ◌∷◌, Some, None, Contains, pos, refl, ap, inl, inr, arith, codes}
use Rattle.std.specs.Prelude.{slice_get}
use Rattle.std.specs.Str.{bytes_eq}
use Rattle.semantics.specs.declared.comparison.Op.TheVariants.{Eq}
use Rattle.semantics.specs.declared.kind.Kind.TheVariants as kind
use Rattle.semantics.specs.Columns.{Field}
use Rattle.semantics.specs.declared.aggregate.Aggregate.TheVariants as aggregate
use Rattle.semantics.specs.declared.literal.Literal.TheVariants as constant
use Rattle.semantics.specs.Syntax.{Expression, SelectItem, Predicate, Query, name, grouping, function, over_all, over_filtered, expression, literal, compare, column, set}
use Rattle.semantics.specs.declared.query_fault.QueryFault.TheVariants as faults
use Rattle.query_typecheck.specs.declared.scope.Clause.TheVariants as clause
use Rattle.semantics.specs.declared.function.ColumnFunction.TheVariants as at
use Rattle.semantics.specs.Faults.{query_faults}
use Rattle.query_typecheck.specs.FirstFaults.{query_fault, tests_of}
use Rattle.query_resolve.specs.Functions.{filters_of, indexed_functions}
use Rattle.query_typecheck.specs.Standing.{IsViolation}
use Rattle.query_typecheck.specs.Typing.{takes}

-- a text, a whole number and a truth value
abbrev fields : List Field
fields = record { name = codes "c"; kind = kind.Text } ∷ record { name = codes "q"; kind = kind.Int } ∷ record { name = codes "b"; kind = kind.Bool } ∷ []

abbrev c : Expression
c = name (codes "c")

abbrev q : Expression
q = name (codes "q")

abbrev average : Expression
average = function (over_all (aggregate.Avg (codes "q")))

abbrev item : Expression → SelectItem
item e = record { expression = e; alias = None }

-- SELECT .. FROM lines GROUP BY c
abbrev selected : List SelectItem → Query
selected items = record { items = items; where_condition = None; distinct_sets = false; groups = set (codes "c" ∷ []) ∷ []; having_condition = None; keys = [] }

-- x = 1, where x is a name
abbrev is_one : List ℕ → Predicate
is_one x = compare (expression (name x)) Eq (literal (constant.Integer (pos 1)))

-- SELECT c FROM lines WHERE x = 1
abbrev where_one : List ℕ → Query
where_one x = record { items = item c ∷ []; where_condition = Some (is_one x); distinct_sets = false; groups = []; having_condition = None; keys = [] }

-- SELECT c, AVG(q) AS m FROM lines GROUP BY c ORDER BY m
abbrev by_average : Query
by_average = record {
  items = item c ∷ record { expression = average; alias = Some (codes "m") } ∷ [];
  where_condition = None;
  distinct_sets = false;
  groups = set (codes "c" ∷ []) ∷ [];
  having_condition = None;
  keys = record { expression = name (codes "m"); descending = false; nulls_first = false } ∷ [];
}

-- ---- what is wrong with it

-- SELECT c .. GROUP BY c: nothing
nothing_wrong : query_faults fields (selected (item c ∷ [])) ≡ []
unfolding query_faults
nothing_wrong = refl

-- SELECT c .. WHERE q = 1, without GROUP BY: c is not grouped
without_group : query_faults fields (where_one (codes "q")) ≡ faults.NotGrouped (codes "c") ∷ []
unfolding query_faults
without_group = refl

-- SELECT c .. WHERE d = 1: d is no column, and so has no type; and c is not grouped
three_wrong : query_faults fields (where_one (codes "d")) ≡ faults.UnknownColumn (codes "d") ∷ faults.TypesDisagree ∷ faults.NotGrouped (codes "c") ∷ []
unfolding query_faults
three_wrong = refl

-- the first is told
first_told : slice_get (query_faults fields (where_one (codes "d"))) 0 ≡ Some (faults.UnknownColumn (codes "d"))
unfolding query_faults
first_told = refl

-- SELECT GROUPING(q, d) .. GROUP BY c: q is not grouped, and d is no column, and so is not grouped
-- either
two_names : query_faults fields (selected (item (grouping (codes "q" ∷ codes "d" ∷ [])) ∷ [])) ≡ faults.NotGrouped (codes "q") ∷ faults.UnknownColumn (codes "d") ∷ faults.NotGrouped (codes "d") ∷ []
unfolding query_faults
two_names = refl

-- SELECT AVG(q) AS m .. GROUP BY c ORDER BY m: AVG may stand in SELECT alone
average_as_key : query_faults fields (record (selected (record { expression = average; alias = Some (codes "m") } ∷ [])) { keys = record { expression = name (codes "m"); descending = false; nulls_first = false } ∷ [] }) ≡ faults.FunctionNotAllowed ∷ []
unfolding query_faults
average_as_key = refl

-- SELECT COUNT(*), MIN(b), COUNT(*): MIN takes no truth value, and a header stands twice
repeated_header : query_faults fields (selected (item (function (over_all aggregate.CountRows)) ∷ item (function (over_all (aggregate.Min (codes "b")))) ∷ item (function (over_all aggregate.CountRows)) ∷ [])) ≡ faults.TypesDisagree ∷ faults.RepeatedHeader (codes "COUNT(*)") ∷ []
unfolding query_faults
repeated_header = refl

-- SELECT COUNT(*) FILTER (WHERE q = 1) .. GROUP BY c: within FILTER q need not be grouped
filter_faultless : query_faults fields (selected (item (function (over_filtered aggregate.CountRows (is_one (codes "q")))) ∷ [])) ≡ []
unfolding query_faults
filter_faultless = refl

-- SELECT COUNT(*) FILTER (WHERE c): c is a text, no truth value
filter_of_text : query_faults fields (selected (item (function (over_filtered aggregate.CountRows (column (codes "c")))) ∷ [])) ≡ faults.TypesDisagree ∷ []
unfolding query_faults
filter_of_text = refl

-- ---- where the faults stand

-- WHERE d = 1 names no column: d
unknown_stands : IsViolation fields (where_one (codes "d")) (faults.UnknownColumn (codes "d"))
unknown_stands = (inr (clause.Where, name (codes "d"), (is_one (codes "d"), inl (0, omega arith, refl), (0, omega arith, refl)), (0, omega arith, refl)), λ is. let clash : ⊥ = cc in clash)

-- it never names a column of the schema
column_is_known : IsViolation fields (where_one (codes "d")) (faults.UnknownColumn (codes "q")) → ⊥
column_is_known h = h.1 refl

-- WHERE c = 1 compares a text and a whole number
types_disagree : IsViolation fields (where_one (codes "c")) faults.TypesDisagree
types_disagree = inl (
  clause.Where,
  is_one (codes "c"),
  inl (0, omega arith, refl),
  (expression c, literal (constant.Integer (pos 1)), (0, omega arith, refl), (1, omega arith, refl), (kind.Text, kind.Int, refl, refl, λ e. let clash : ⊥ = cc in clash)),
)

-- MIN takes whole numbers and texts, and no truth value
not_taken : Contains (takes (aggregate.Min (codes "b"))) kind.Bool → ⊥
not_taken (zero, below, e) = absurd cc
not_taken (suc zero, below, e) = absurd cc
not_taken (suc (suc k), below, e) = absurd (omega arith)

-- MIN(b) is taken of a truth value
least_truth : IsViolation fields (selected (item (function (over_all (aggregate.Min (codes "b")))) ∷ [])) faults.TypesDisagree
least_truth = inr (clause.Select, over_all (aggregate.Min (codes "b")), (0, omega arith, refl), (codes "b", kind.Bool, (0, omega arith, refl), refl, not_taken))

-- q is none of the names in GROUP BY c
none_of_group : Contains (codes "c" ∷ []) (codes "q") → ⊥
none_of_group (zero, below, e) = let wrong : true ≡ false = ap (bytes_eq (codes "c")) e in let clash : ⊥ = cc in clash
none_of_group (suc k, below, e) = absurd (omega arith)

-- SELECT c, q .. GROUP BY c: q is not grouped
not_grouped : IsViolation fields (selected (item c ∷ item q ∷ [])) (faults.NotGrouped (codes "q"))
not_grouped = (clause.Select, q, (1, omega arith, refl), λ e. (let clash : ⊥ = cc in clash), (0, omega arith, refl), refl, none_of_group)

-- a column that GROUP BY names is grouped
grouped : IsViolation fields (selected (item c ∷ item q ∷ [])) (faults.NotGrouped (codes "c")) → ⊥
grouped h = h.6 (0, omega arith, refl)

-- SELECT COUNT(*), COUNT(*): the header COUNT(*) stands twice
repeated : IsViolation fields (selected (item (function (over_all aggregate.CountRows)) ∷ item (function (over_all aggregate.CountRows)) ∷ [])) (faults.RepeatedHeader (codes "COUNT(*)"))
repeated = (codes "COUNT(*)" ∷ [], [], refl, (0, omega arith, refl))

-- ORDER BY m, which is AVG(q)
average_ordered : IsViolation fields by_average faults.FunctionNotAllowed
average_ordered = (clause.OrderBy, average, (0, omega arith, refl), refl)

-- no fault of a text stands in a query that was read
of_a_text : IsViolation fields by_average (faults.NoToken 0) → ⊥
of_a_text h = h

-- ---- FILTER

-- COUNT(*) FILTER (WHERE p)
abbrev counted : Predicate → Expression
counted p = function (over_filtered aggregate.CountRows p)

-- SELECT COUNT(*) FILTER (WHERE d = 1) names no column: d
unknown_in_filter : IsViolation fields (selected (item (counted (is_one (codes "d"))) ∷ [])) (faults.UnknownColumn (codes "d"))
unknown_in_filter = (
  inr (
    clause.Where,
    name (codes "d"),
    (is_one (codes "d"), inr (is_one (codes "d"), (clause.Select, aggregate.CountRows, (0, omega arith, refl)), (0, omega arith, refl)), (0, omega arith, refl)),
    (0, omega arith, refl),
  ),
  λ is. let clash : ⊥ = cc in clash,
)

-- SELECT COUNT(*) FILTER (WHERE c): c is a text, no truth value
types_in_filter : IsViolation fields (selected (item (counted (column (codes "c"))) ∷ [])) faults.TypesDisagree
types_in_filter = inl (
  clause.Where,
  column (codes "c"),
  inr (column (codes "c"), (clause.Select, aggregate.CountRows, (0, omega arith, refl)), (0, omega arith, refl)),
  (kind.Text, kind.Bool, refl, refl, λ e. let clash : ⊥ = cc in clash),
)

-- COUNT(*) = 1
abbrev counts_one : Predicate
counts_one = compare (expression (function (over_all aggregate.CountRows))) Eq (literal (constant.Integer (pos 1)))

-- SELECT COUNT(*) FILTER (WHERE COUNT(*) = 1): a set function in a FILTER
function_in_filter : IsViolation fields (selected (item (counted counts_one) ∷ [])) faults.FunctionNotAllowed
function_in_filter = (
  clause.Where,
  function (over_all aggregate.CountRows),
  (counts_one, inr (counts_one, (clause.Select, aggregate.CountRows, (0, omega arith, refl)), (0, omega arith, refl)), (0, omega arith, refl)),
  refl,
)

-- SELECT COUNT(*) FILTER (WHERE q = 1) .. GROUP BY c is typed: within FILTER q need not be grouped
filter_of_any_column : query_fault fields (selected (item (counted (is_one (codes "q"))) ∷ [])) ≡ None
unfolding tests_of
filter_of_any_column = refl

-- SELECT COUNT(*), COUNT(*) FILTER (WHERE b), SUM(q) FILTER (WHERE b), COUNT(*) FILTER (WHERE q =
-- 1), COUNT(*) FILTER (WHERE b)
abbrev filtered_query : Query
filtered_query = selected (
    item (function (over_all aggregate.CountRows))
    ∷ item (counted (column (codes "b")))
    ∷ item (function (over_filtered (aggregate.Sum (codes "q")) (column (codes "b"))))
    ∷ item (counted (is_one (codes "q")))
    ∷ item (counted (column (codes "b")))
    ∷ []
    )

-- it has two different filters, and four different set functions
filters : filters_of fields filtered_query ≡ column (codes "b") ∷ is_one (codes "q") ∷ []
filters = refl

functions : indexed_functions fields filtered_query
    ≡ record { function = at.CountRows; filter = None } ∷ record { function = at.CountRows; filter = Some 0 } ∷ record { function = at.Sum 1; filter = Some 0 } ∷ record { function = at.CountRows; filter = Some 1 } ∷ []
functions = refl

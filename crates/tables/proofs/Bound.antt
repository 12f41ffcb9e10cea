-- The set functions of a query, by the indexes of their filters.
use Rattle.std.proofs.Common.{◌≡◌, ℕ, zero, suc, List, [], ◌∷◌, length, map, Option, Some, None, option_map, position, slice_get, refl, sym, ap, ◌∙◌}
use Rattle.std.proofs.lemmas.List.{length-map}
use Rattle.std.specs.Option.{option_and_then}
use Rattle.semantics.specs.Columns.{Field}
use Rattle.semantics.specs.Syntax.{Predicate}
use Rattle.query_typecheck.specs.Filters.{filters_at}
use Rattle.semantics.specs.Names.{PlannedFunction}
use Rattle.query_resolve.specs.Functions.{filters_of, indexed_function, indexed_functions}
use Rattle.semantics.specs.SetFunctions.{functions_of}
use Rattle.semantics.specs.Inside.Same.{same_predicate}
use Rattle.query_typecheck.proofs.FilterLemmas.{indexes_lead_back}
use Rattle.semantics.specs.Conditions.{passes}
use Rattle.group_tables.specs.Functions.{aggregate_of, filter_at}
use Rattle.semantics.specs.Groups.{Record}
use Rattle.semantics.specs.ResultRows.{aggregate_function, aggregate_functions}
use Rattle.tables.specs.Functions.{filter_tests}
use Rattle.query_plan.specs.Planned.{PlannedQuery}

-- what the filter with an index keeps, where there is such a filter
got : (fields : List Field) (filters : List Predicate) (index : ℕ) (p : Predicate) → slice_get filters index ≡ Some p
    → filter_at (map (passes fields) filters) index ≡ passes fields p
got fields [] index p e = cc
got fields (q ∷ filters) zero p e = let same : q ≡ p = cc in ap (passes fields) same
got fields (q ∷ filters) (suc index) p e = got fields filters index p e

found : (fields : List Field) (filters : List Predicate) (o : Option ℕ) (p : Predicate) → option_and_then (slice_get filters) o ≡ Some p
    → option_map (filter_at (map (passes fields) filters)) o ≡ Some (passes fields p)
found fields filters None p e = cc
found fields filters (Some index) p e = ap Some (got fields filters index p e)

filter-bound : (fields : List Field) (filters : List Predicate) (t : Option Predicate)
    → option_and_then (slice_get filters) (option_and_then (λ p. position (same_predicate p) filters) t) ≡ t
    → option_map (filter_at (map (passes fields) filters)) (option_and_then (λ p. position (same_predicate p) filters) t) ≡ option_map (passes fields) t
filter-bound fields filters None e = refl
filter-bound fields filters (Some p) e = found fields filters (position (same_predicate p) filters) p e

first : {X : Type 0} (x y : X) (xs ys : List X) → x ∷ xs ≡ y ∷ ys → x ≡ y
first x y xs ys e = cc

rest : {X : Type 0} (x y : X) (xs ys : List X) → x ∷ xs ≡ y ∷ ys → xs ≡ ys
rest x y xs ys e = cc

each-bound : (fields : List Field) (filters : List Predicate) (fs : List PlannedFunction) → filters_at filters (map (indexed_function filters) fs) ≡ map (λ f. f.filter) fs
    → map (aggregate_of (map (passes fields) filters)) (map (indexed_function filters) fs) ≡ map (aggregate_function fields) fs
each-bound fields filters [] e = refl
each-bound fields filters (f ∷ fs) e =
    let this = filter-bound fields filters f.filter (first _ _ _ _ e) in
    let more = each-bound fields filters fs (rest _ _ _ _ e) in
    λ i. record { function = f.function; filter = this i } ∷ more i

-- where the index of each function leads to its filter, the functions by their indexes are those of
-- the query
pub bound-functions : (plan : PlannedQuery) → map (aggregate_of (filter_tests plan)) (indexed_functions plan.fields plan.query) ≡ aggregate_functions plan.fields plan.query
bound-functions plan = each-bound plan.fields (filters_of plan.fields plan.query) (functions_of plan.fields plan.query) (indexes_lead_back plan.fields plan.query)

-- as many
pub as-many : (plan : PlannedQuery) → length (aggregate_functions plan.fields plan.query) ≡ length (indexed_functions plan.fields plan.query)
as-many plan = length-map (functions_of plan.fields plan.query) (aggregate_function plan.fields) ∙ sym (length-map (functions_of plan.fields plan.query) (indexed_function (filters_of plan.fields plan.query)))

-- the marks of a record by the filters of a query
pub marks-kept : (fields : List Field) (filters : List Predicate) (row : Record) → map (λ p. passes fields p row) filters ≡ map (λ keeps. keeps row) (map (passes fields) filters)
marks-kept fields [] row = refl
marks-kept fields (p ∷ filters) row = ap (λ ms. passes fields p row ∷ ms) (marks-kept fields filters row)

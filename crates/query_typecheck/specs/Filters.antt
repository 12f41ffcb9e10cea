-- What holds of the different filters of a query.
use Rattle.std.specs.Prelude.{◌≡◌, Option, List, map, slice_get, All, []}
use Rattle.std.specs.Option.{option_and_then}
use Rattle.semantics.specs.Columns.{Field}
use Rattle.semantics.specs.Syntax.{Predicate, Query}
use Rattle.query_resolve.specs.declared.function.FilteredFunction.{FilteredFunction}
use Rattle.query_typecheck.specs.declared.scope.Clause.TheVariants as clause
use Rattle.query_resolve.specs.Functions.{filters_of, indexed_functions}
use Rattle.semantics.specs.SetFunctions.{functions_of}
use Rattle.query_typecheck.specs.Typing.{IsTypedPredicate}

-- The filters to which set functions lead by their indexes among some filters.
abbrev pub filters_at : List Predicate → List FilteredFunction → List (Option Predicate)
filters_at filters fs = map (λ f. option_and_then (slice_get filters) f.filter) fs

-- The index of each set function leads to its own filter, and one without a filter has no index.
abbrev pub LeadBack : List Field → Query → Type 0
LeadBack fields t = filters_at (filters_of fields t) (indexed_functions fields t) ≡ map (λ f. f.filter) (functions_of fields t)

-- Each filter of a query is typed as WHERE is.
abbrev pub AreTypedFilters : List Field → Query → Type 0
AreTypedFilters fields t = All (IsTypedPredicate fields [] clause.Where) (filters_of fields t)

-- The different FILTERs of a query, and its set functions with the indexes of theirs (ISO/IEC
-- 9075-2, <filter clause>).
use Rattle.std.specs.Prelude.{ℕ, Option, List, map, position, slice_get}
use Rattle.std.specs.List.{filter_map}
use Rattle.std.specs.Option.{option_and_then}
use Rattle.semantics.specs.Columns.{Field}
use Rattle.semantics.specs.Syntax.{Predicate, Query, function}
use Rattle.query_resolve.specs.declared.function.FilteredFunction.{FilteredFunction}
use Rattle.semantics.specs.Names.{PlannedFunction}
use Rattle.semantics.specs.Lists.{distinct}
use Rattle.semantics.specs.Inside.Same.{same_predicate}
use Rattle.semantics.specs.SetFunctions.{functions_of}

-- ---- the different set functions of a query

-- The filter of the set function at a place, where there is one.
abbrev pub filter_at : List Field → Query → ℕ → Option Predicate
filter_at fields t place = option_and_then (λ f. f.filter) (slice_get (functions_of fields t) place)

-- The different filters of some set functions, in the order in which they first stand.
abbrev pub different_filters : List PlannedFunction → List Predicate
different_filters fs = distinct same_predicate (filter_map (λ f. f.filter) fs)

-- The different filters of a query, in the order in which they first stand in SELECT, HAVING and
-- ORDER BY.
abbrev pub filters_of : List Field → Query → List Predicate
filters_of fields t = different_filters (functions_of fields t)

-- A set function with the index of its filter among some filters.
abbrev pub indexed_function : List Predicate → PlannedFunction → FilteredFunction
indexed_function filters f = record { function = f.function; filter = option_and_then (λ p. position (same_predicate p) filters) f.filter }

-- The different set functions of a query, each with the index of its filter among the different
-- filters.
abbrev pub indexed_functions : List Field → Query → List FilteredFunction
indexed_functions fields t = map (indexed_function (filters_of fields t)) (functions_of fields t)

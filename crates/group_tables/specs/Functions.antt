-- Set functions whose FILTERs are given by their indexes.
use Rattle.std.specs.Prelude.{ℕ, Bool, false, List, map, option_map, slice_index_or}
use Rattle.query_resolve.specs.declared.function.FilteredFunction.{FilteredFunction}
use Rattle.semantics.specs.Groups.{Record}
use Rattle.semantics.specs.Aggregates.{AggregateFunction}

-- Which records the filter with this index keeps, of a list of filters; where there is no such
-- filter none
abbrev pub filter_at : List (Record → Bool) → ℕ → Record → Bool
filter_at filters index = slice_index_or filters index (λ row. false)

-- a set function whose FILTER is given by its index in a list of filters
abbrev pub aggregate_of : List (Record → Bool) → FilteredFunction → AggregateFunction
aggregate_of filters f = record { function = f.function; filter = option_map (filter_at filters) f.filter }

-- Set functions whose FILTERs are given by their indexes in a list of filters.
abbrev pub aggregates_of : List (Record → Bool) → List FilteredFunction → List AggregateFunction
aggregates_of filters functions = map (aggregate_of filters) functions

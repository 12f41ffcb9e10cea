-- The FILTERs of a query: which records they keep, and their texts.
use Rattle.std.specs.Prelude.{Bool, ℕ, List, map}
use Rattle.semantics.specs.Canonical.{predicate_text}
use Rattle.query_resolve.specs.Functions.{filters_of}
use Rattle.semantics.specs.Conditions.{passes}
use Rattle.semantics.specs.Groups.{Record}
use Rattle.query_plan.specs.Planned.{PlannedQuery}

-- Of each different filter of a query the records that it keeps.
abbrev pub filter_tests : PlannedQuery → List (Record → Bool)
filter_tests plan = map (passes plan.fields) (filters_of plan.fields plan.query)

-- The canonical texts of the different filters of a query.
abbrev pub filter_texts : PlannedQuery → List (List ℕ)
filter_texts plan = map predicate_text (filters_of plan.fields plan.query)

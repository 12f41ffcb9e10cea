-- What a query is resolved to under a schema.
use Rattle.std.specs.Prelude.{ℕ, List, map}
use Rattle.std.specs.Global.{Vec}
use Rattle.semantics.specs.Columns.{Field}
use Rattle.semantics.specs.Syntax.{GroupingElement, Query}
use Rattle.query_resolve.specs.declared.function.FilteredFunction.{FilteredFunction}
use Rattle.semantics.specs.Names.{places_of}
use Rattle.semantics.specs.Sets.{expansion, grouping_places, ordered_set, sets_of}
use Rattle.query_resolve.specs.Functions.{indexed_functions}

-- Sets, apart from where they lie in memory.
abbrev pub contents : List (Vec ℕ) → List (List ℕ)
contents sets = map (λ s. s.items) sets

-- The sets that a GROUP BY list stands for, each as the places of its columns, in the order of
-- these grouping columns.
abbrev pub ordered_expansion : List Field → List ℕ → List GroupingElement → List (List ℕ)
ordered_expansion fields grouping groups = map (λ names. ordered_set grouping (places_of fields names)) (expansion groups)

-- The grouping columns, the grouping sets, and the different set functions, by places of columns
-- and indexes of filters.
pub record Resolution : Type 0 where
  pub grouping : List ℕ
  pub sets : List (List ℕ)
  pub functions : List FilteredFunction

-- What a query is resolved to.
abbrev pub resolution_of : List Field → Query → Resolution
resolution_of fields t = record {
  grouping = grouping_places fields t;
  sets = sets_of fields t;
  functions = indexed_functions fields t;
}

-- The set functions of a query and their filters, apart from where they lie in memory.
use Rattle.std.specs.Prelude.{◌≡◌, List, ◌++◌}
use Rattle.std.specs.List.{filter_map}
use Rattle.semantics.specs.Columns.{Field}
use Rattle.semantics.specs.Syntax.{SetFunction}
use Rattle.query_resolve.specs.declared.plan.Planned.{Planned}
use Rattle.semantics.specs.Names.{planned_function}
use Rattle.query_resolve.specs.Planning.{planned_forms}

-- Behind the old set functions stand these, in order, each with the place of its column; one whose
-- column is not in the schema is left out.
abbrev pub AppendsPlanned : List Field → List SetFunction → List Planned → List Planned → Type 0
AppendsPlanned fields forms old new = planned_forms new ≡ planned_forms old ++ filter_map (planned_function fields) forms

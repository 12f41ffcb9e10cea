-- What a row shows for a set function, in words of the members of its group.
use Rattle.std.specs.Option.{option_map_or}
use Rattle.std.specs.Prelude.{List, map}
use Rattle.semantics.specs.Aggregates.{CellValue, agg, plain}
use Rattle.semantics.specs.Columns.{Field}
use Rattle.semantics.specs.ResultRows.{aggregate_function, aggregate_functions}
use Rattle.semantics.specs.Groups.{Record}
use Rattle.semantics.specs.Names.{planned_function}
use Rattle.semantics.specs.Syntax.{SetFunction, Query}
use Rattle.semantics.specs.Values.{null}

-- The value of a set function over a list of records, NULL where there is no such column.
abbrev pub function_value : List Field → List Record → SetFunction → CellValue
function_value fields rows f = option_map_or (λ p. agg (aggregate_function fields p) rows) (planned_function fields f) (plain null)

-- The values of the different set functions of a query over a list of records, as a row has them.
abbrev pub values_of_functions : List Field → Query → List Record → List CellValue
values_of_functions fields t rows = map (λ f. agg f rows) (aggregate_functions fields t)

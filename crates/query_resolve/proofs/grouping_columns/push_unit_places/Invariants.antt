use Rattle.std.proofs.Common.{◌≡◌, ◌++◌, drop}
use Rattle.std.specs.List.{flat_map}
use Rattle.values.specs.Schema.{fields_of}
use Rattle.query_ast.specs.Syntax.{units_form}
use Rattle.semantics.specs.Names.{places_of}
use Rattle.query_resolve.proofs.grouping_columns.push_unit_places.Given as goal

abbrev pub invariant-loop-unit : goal.invariant-loop-unit
invariant-loop-unit l = l.places.items ++ places_of (fields_of l.columns) (flat_map (λ unit. unit) (units_form (drop l.unit-index l.units))) ≡ l.fn.places.items ++ places_of (fields_of l.columns) (flat_map (λ unit. unit) (units_form l.units))

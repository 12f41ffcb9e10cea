use Rattle.std.proofs.Common.{◌≡◌, ◌++◌, drop, map}
use Rattle.values.specs.Schema.{fields_of}
use Rattle.query_ast.specs.Syntax.{units_form}
use Rattle.semantics.specs.Names.{places_of}
use Rattle.semantics.specs.Sets.{ordered_set}
use Rattle.query_resolve.specs.Resolution.{contents}
use Rattle.query_resolve.proofs.expansion.unit_places.Given as goal

abbrev pub invariant-loop-unit : goal.invariant-loop-unit
invariant-loop-unit l = contents l.all.items ++ map (ordered_set l.grouping) (map (places_of (fields_of l.columns)) (units_form (drop l.unit-index l.units))) ≡ map (ordered_set l.grouping) (map (places_of (fields_of l.columns)) (units_form l.units))

use Rattle.std.proofs.Common.{◌≡◌, ◌++◌, drop, map}
use Rattle.std.specs.List.{flat_map}
use Rattle.values.specs.Schema.{fields_of}
use Rattle.query_ast.specs.Syntax.{element_form}
use Rattle.semantics.specs.Names.{group_names, places_of}
use Rattle.query_resolve.proofs.grouping_columns.grouping_places.Given as goal

abbrev pub invariant-loop-group : goal.invariant-loop-group
invariant-loop-group l = l.places.items ++ places_of (fields_of l.columns) (flat_map group_names (map element_form (drop l.group-index l.groups))) ≡ places_of (fields_of l.columns) (flat_map group_names (map element_form l.groups))

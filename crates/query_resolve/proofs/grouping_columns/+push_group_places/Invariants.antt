use Rattle.std.proofs.Common.{◌≡◌, ◌++◌, drop, map}
use Rattle.values.specs.Schema.{fields_of}
use Rattle.query_ast.specs.Syntax.{element_form}
use Rattle.semantics.specs.Syntax.{element_forms}
use Rattle.semantics.specs.Names.{group_names, groups_names, places_of}
use Rattle.query_resolve.proofs.grouping_columns.+push_group_places.Given as goal

abbrev pub invariant-loop-group : goal.invariant-loop-group
invariant-loop-group l = l.places.items ++ places_of (fields_of l.columns) (groups_names (element_forms (map element_form (drop l.group-index l.group-items)))) ≡ l.fn.places.items ++ places_of (fields_of l.columns) (group_names (element_form l.fn.group))

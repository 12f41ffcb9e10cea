use Rattle.std.proofs.Common.{◌≡◌, ◌++◌, drop, map}
use Rattle.values.specs.Schema.{fields_of}
use Rattle.query_ast.specs.Syntax.{element_form}
use Rattle.semantics.specs.Syntax.{element_forms}
use Rattle.semantics.specs.Names.{places_of}
use Rattle.semantics.specs.Sets.{group_sets, groups_sets, ordered_set}
use Rattle.query_resolve.specs.Resolution.{contents}
use Rattle.query_resolve.proofs.expansion.+group_sets.Given as goal

abbrev pub invariant-loop-group : goal.invariant-loop-group
invariant-loop-group l = contents l.sets.items ++ map (ordered_set l.grouping) (map (places_of (fields_of l.columns)) (groups_sets (element_forms (map element_form (drop l.group-index l.group-items))))) ≡ map (ordered_set l.grouping) (map (places_of (fields_of l.columns)) (group_sets (element_form l.fn.group)))

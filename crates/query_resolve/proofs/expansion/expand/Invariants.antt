use Rattle.std.proofs.Common.{◌≡◌, drop, map}
use Rattle.values.specs.Schema.{fields_of}
use Rattle.query_ast.specs.Syntax.{element_form}
use Rattle.semantics.specs.Names.{places_of}
use Rattle.semantics.specs.Sets.{cross_product, expansion, ordered_set}
use Rattle.query_resolve.proofs.expansion.expand.Given as goal

abbrev pub invariant-loop-group : goal.invariant-loop-group
invariant-loop-group l = map (ordered_set l.grouping) (cross_product l.product (map (places_of (fields_of l.columns)) (expansion (map element_form (drop l.group-index l.groups))))) ≡ map (ordered_set l.grouping) (map (places_of (fields_of l.columns)) (expansion (map element_form l.groups)))

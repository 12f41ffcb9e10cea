use Rattle.std.proofs.Common.{◌≡◌, ◌+◌, ◌^◌, ◌<◌, drop, map, min, length}
use Rattle.query_ast.specs.Syntax.{element_form}
use Rattle.semantics.specs.Syntax.{element_forms}
use Rattle.semantics.specs.Sets.{group_sets, groups_sets}
use Rattle.query_resolve.proofs.count.+count_group.Given as goal

abbrev pub invariant-loop-unit : goal.invariant-loop-unit
invariant-loop-unit l = l.count ≡ min (2 ^ l._unit-index) 18446744073709551615

abbrev pub invariant-loop-group : goal.invariant-loop-group
invariant-loop-group l = (l.count < 2 ^ 64) × (min (l.count + length (groups_sets (element_forms (map element_form (drop l.group-index l.group-items))))) 18446744073709551615 ≡ min (length (group_sets (element_form l.fn.group))) 18446744073709551615)

use Rattle.std.proofs.Common.{◌≡◌, ◌*◌, ◌^◌, ◌<◌, drop, map, min, length}
use Rattle.query_ast.specs.Syntax.{element_form}
use Rattle.semantics.specs.Sets.{expansion}
use Rattle.query_resolve.proofs.count.set_count.Given as goal

abbrev pub invariant-loop-group : goal.invariant-loop-group
invariant-loop-group l = (l.count < 2 ^ 64) × (min (l.count * length (expansion (map element_form (drop l.group-index l.groups)))) 18446744073709551615 ≡ min (length (expansion (map element_form l.groups))) 18446744073709551615)

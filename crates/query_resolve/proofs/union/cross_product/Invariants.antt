use Rattle.std.proofs.Common.{◌≡◌, ◌++◌, drop}
use Rattle.semantics.specs.Sets.{cross_product}
use Rattle.query_resolve.specs.Resolution.{contents}
use Rattle.query_resolve.proofs.union.cross_product.Given as goal

abbrev pub invariant-loop-first : goal.invariant-loop-first
invariant-loop-first l = contents l.sets.items ++ cross_product (contents (drop l.first-index l.firsts)) (contents l.seconds) ≡ cross_product (contents l.firsts) (contents l.seconds)

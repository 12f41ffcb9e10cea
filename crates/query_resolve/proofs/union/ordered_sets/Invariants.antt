use Rattle.std.proofs.Common.{◌≡◌, ◌++◌, drop, map}
use Rattle.semantics.specs.Sets.{ordered_set}
use Rattle.query_resolve.specs.Resolution.{contents}
use Rattle.query_resolve.proofs.union.ordered_sets.Given as goal

abbrev pub invariant-loop-set : goal.invariant-loop-set
invariant-loop-set l = contents l.all.items ++ map (ordered_set l.grouping) (contents (drop l.set-index l.sets)) ≡ map (ordered_set l.grouping) (contents l.sets)

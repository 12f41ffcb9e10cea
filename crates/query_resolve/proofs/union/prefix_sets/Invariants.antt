use Rattle.std.proofs.Common.{◌≡◌, ◌++◌, drop, map}
use Rattle.query_resolve.specs.Resolution.{contents}
use Rattle.query_resolve.proofs.union.prefix_sets.Given as goal

abbrev pub invariant-loop-set : goal.invariant-loop-set
invariant-loop-set l = contents l.all.items ++ map (λ s. l.unit ++ s) (contents (drop l.set-index l.sets)) ≡ map (λ s. l.unit ++ s) (contents l.sets)

use Rattle.std.proofs.Common.{◌≡◌, take}
use Rattle.query_resolve.specs.Resolution.{contents}
use Rattle.tables.proofs.shape.copy_sets.Given as goal

-- the sets so far are copied
abbrev pub invariant-loop-set : goal.invariant-loop-set
invariant-loop-set l = contents l.copies.items ≡ contents (take l.set-index l.sets)

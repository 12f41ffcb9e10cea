use Rattle.std.proofs.Common.{◌≡◌, take}
use Rattle.std.specs.Str.{bytes_eq}
use Rattle.semantics.specs.Lists.{distinct}
use Rattle.query_resolve.specs.Resolution.{contents}
use Rattle.query_resolve.proofs.repeats.without_repeats.Given as goal

abbrev pub invariant-loop-set : goal.invariant-loop-set
invariant-loop-set l = contents l.found.items ≡ distinct bytes_eq (contents (take l.set-index l.sets))

use Rattle.std.proofs.Common.{◌≡◌, take}
use Rattle.std.specs.Prelude.{◌==◌}
use Rattle.semantics.specs.Lists.{distinct}
use Rattle.query_resolve.proofs.grouping_columns.distinct_places.Given as goal

abbrev pub invariant-loop-place : goal.invariant-loop-place
invariant-loop-place l = l.found.items ≡ distinct (λ a b. a == b) (take l.place-index l.places)

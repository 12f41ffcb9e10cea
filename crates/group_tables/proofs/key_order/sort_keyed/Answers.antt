use Rattle.std.proofs.Common.{rules}
use Rattle.std.proofs.lemmas.Fn.{always_returns_same}
use Rattle.std.proofs.lemmas.List.Sorted.{ranks_by}
use Rattle.sort_keys.proofs.Totals.{parts-total}
use Rattle.group_tables.specs.Inside.Keyed.{is_before}
use Rattle.group_tables.proofs.Moved.{key_beside}
use Rattle.group_tables.proofs.key_order.sort_keyed.Goals as goal

pub returns-clause-sorted : goal.returns-clause-sorted
returns-clause-sorted g c = c.sort_unstable_by.ensures.sorted is_before (ranks_by parts-total key_beside) (always_returns_same _ _ _ (λ a r f k. search rules))

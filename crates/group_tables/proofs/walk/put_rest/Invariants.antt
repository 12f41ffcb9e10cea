use Rattle.std.proofs.Common.{◌≡◌}
use Rattle.group_tables.specs.Inside.Summaries.{summaries_with}
use Rattle.group_tables.specs.Inside.Walks.{entries_left}
use Rattle.group_tables.proofs.walk.put_rest.Given as goal

-- the groups so far, and then those of the walks that are left
abbrev pub invariant-loop-walk : goal.invariant-loop-walk
invariant-loop-walk l = summaries_with l.all.items (entries_left l.walk-iterator.rest.items) ≡ summaries_with l.fn.groups.items (entries_left l.fn.walks.items)

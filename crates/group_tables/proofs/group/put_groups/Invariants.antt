use Rattle.std.proofs.Common.{◌≡◌}
use Rattle.group_tables.specs.Inside.Summaries.{summaries_with}
use Rattle.group_tables.proofs.group.put_groups.Given as goal

-- the groups so far, and then those of the entries that are left
abbrev pub invariant-loop-key : goal.invariant-loop-key
invariant-loop-key l = summaries_with l.groups.items l.key-iterator ≡ summaries_with l.fn.groups.items l.fn.walk.entries

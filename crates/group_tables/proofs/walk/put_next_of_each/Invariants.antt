use Rattle.std.proofs.Common.{◌≡◌, length}
use Rattle.std.specs.List.Sorted.{IsPermutation}
use Rattle.group_tables.specs.Inside.Summaries.{summaries_with}
use Rattle.group_tables.specs.Inside.Walks.{entries_left}
use Rattle.group_tables.proofs.walk.put_next_of_each.Given as goal

-- there are as many walks as at first, and the groups so far and those that are left are the same
-- in some order
abbrev pub invariant-loop-place : goal.invariant-loop-place
invariant-loop-place l = record {
  count : length l.walks.items ≡ length l.fn.walks.items;
  same : IsPermutation (summaries_with l.fn.groups.items (entries_left l.fn.walks.items)) (summaries_with l.groups.items (entries_left l.walks.items));
}

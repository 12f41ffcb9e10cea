use Rattle.std.proofs.Common.{◌≡◌, []}
use Rattle.group_tables.specs.Shards.{all_entries}
use Rattle.std.specs.Prelude.{vec_len}
use Rattle.group_tables.proofs.table.Table.without_groups.Given as goal

-- so many shards so far, without an entry
abbrev pub invariant-loop : goal.invariant-loop
invariant-loop l = record {
  count : vec_len l.shards ≡ l.counter;
  none : all_entries l.shards.items ≡ [];
}

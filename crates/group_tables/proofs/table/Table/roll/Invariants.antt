use Rattle.std.proofs.Common.{◌≡◌, ◌+◌, ◌++◌, ℕ, Bool, List, Some, drop, map}
use Rattle.group_tables.specs.Keys.{key_in}
use Rattle.std.specs.List.{AllByRecursion}
use Rattle.std.specs.FinMap as fin
use Rattle.semantics.specs.Groups.{Record}
use Rattle.group_tables.specs.Functions.{aggregate_of}
use Rattle.group_tables.specs.Shards.{all_entries}
use Rattle.semantics.specs.Columns.{Field}
use Rattle.group_tables.specs.Table.{IsCounted, IsTableOf}
use Rattle.group_tables.specs.Typed.{HaveColumns, IsTypedTable}
use Rattle.group_tables.proofs.Counted.{IsCountedWith}
use Rattle.group_tables.proofs.Rolling.{IsRolled}
use Rattle.group_tables.proofs.table.Table.roll.Given as goal

-- the groups so far are those of the members of the keys so far, and those that are left are groups
-- of this table; with these they have no more records, and they are of the types of this table
abbrev pub invariant-loop-shard : goal.invariant-loop-shard
invariant-loop-shard l = record {
  rolled : (filters : List (Record → Bool)) (rows : List Record) → IsTableOf l.finer (map (aggregate_of filters) l.functions) l.self rows
      → IsRolled l.finer l.set (map (aggregate_of filters) l.functions) l.rolled (all_entries (drop l.shard-index l.shard-items)) (all_entries l.shard-items) rows;
  each : AllByRecursion (λ e. fin.get l.self (key_in e.0) ≡ Some e.1) (all_entries (drop l.shard-index l.shard-items));
  counted : (most : ℕ) → IsCounted most l.functions l.self → IsCountedWith most l.functions l.rolled (all_entries (drop l.shard-index l.shard-items));
  typed : (fields : List Field) → HaveColumns fields l.functions → IsTypedTable fields l.finer l.functions l.self → IsTypedTable fields l.set l.functions l.rolled;
}

-- the same, where the rest of a shard is left too
abbrev pub invariant-loop-key : goal.invariant-loop-key
invariant-loop-key l = record {
  rolled : (filters : List (Record → Bool)) (rows : List Record) → IsTableOf l.finer (map (aggregate_of filters) l.functions) l.self rows
      → IsRolled l.finer l.set (map (aggregate_of filters) l.functions) l.rolled (l.key-iterator ++ all_entries (drop (l.shard-index + 1) l.shard-items)) (all_entries l.shard-items) rows;
  each : AllByRecursion (λ e. fin.get l.self (key_in e.0) ≡ Some e.1) (l.key-iterator ++ all_entries (drop (l.shard-index + 1) l.shard-items));
  counted : (most : ℕ) → IsCounted most l.functions l.self → IsCountedWith most l.functions l.rolled (l.key-iterator ++ all_entries (drop (l.shard-index + 1) l.shard-items));
  typed : (fields : List Field) → HaveColumns fields l.functions → IsTypedTable fields l.finer l.functions l.self → IsTypedTable fields l.set l.functions l.rolled;
}

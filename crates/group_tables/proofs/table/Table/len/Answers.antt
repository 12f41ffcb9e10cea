use Rattle.std.proofs.Common.{◌≡◌, ◌+◌, ◌<◌, ℕ, List, length, get_or, take, ap, sym, arith, ◌∙◌}
use Rattle.std.proofs.lemmas.List.{take_all}
use Rattle.std.proofs.lemmas.List.Concat.{length-flat_map}
use Rattle.std.proofs.lemmas.List.Sums.{sum_by_more}
use Rattle.std.specs.FinMap as fin
use Rattle.group_tables.specs.Table.{Contents}
use Rattle.group_tables.specs.Shards.{all_entries, entries_in}
use Rattle.group_tables.specs.declared.shard.Shard.{Shard}
use Rattle.group_tables.proofs.Entries.{len-entries}
use Rattle.group_tables.proofs.Shards.{distinct-all}
use Rattle.group_tables.proofs.table.Table.len.Goals as goal

-- one more shard has as many entries more
more : (shards : List Shard) (i : ℕ) (s : Shard) → i < length shards → s ≡ get_or shards i s → length (all_entries (take (i + 1) shards)) ≡ length (all_entries (take i shards)) + length (entries_in s)
more shards i s l is =
    length-flat_map entries_in (take (i + 1) shards)
    ∙ sum_by_more (λ x. length (entries_in x)) shards i s l
    ∙ (λ j. sym (length-flat_map entries_in (take i shards)) j + length (entries_in (sym is j)))

pub overflow_add-count : goal.overflow_add-count
overflow_add-count c =
    let n = ap length c.deref-shard-items.ensures.value in
    omega (arith, n, c.self.inside.few, c.self.inside.shards.ok)

pub loop-shard-preserved : goal.loop-shard-preserved
loop-shard-preserved c = record {
  counted = cc (more c.deref-shard-items.result.now c.loop-shard.shard-index c.shard-item.result c.loop-shard-test.true c.shard-item.is);
  few = omega arith;
}

pub returns : goal.returns
returns c =
    let ss = c.self.inside.shards.items in
    c.loop-shard.invariant.counted
    ∙ ap (λ xs. length (all_entries xs)) (take_all c.loop-shard.shard-index c.deref-shard-items.result.now c.loop-shard-test.false ∙ c.deref-shard-items.ensures.value)
    ∙ sym (len-entries (all_entries ss) (distinct-all ss c.self.inside.apart))
    ∙ ap (λ (t : Contents). fin.len t) c.self.view_is

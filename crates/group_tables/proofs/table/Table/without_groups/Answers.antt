use Rattle.std.proofs.Common.{arith}
use Rattle.group_tables.proofs.Shards.{apart-none}
use Rattle.group_tables.proofs.table.Table.without_groups.Goals as goal

pub invariant_of-result : goal.invariant_of-result
invariant_of-result c = (
  grind (arith, c.loop-test.false, c.loop.auto.counter-end, c.loop.invariant.count, c.requires.some),
  (
    grind (arith, c.loop-test.false, c.loop.auto.counter-end, c.loop.invariant.count, c.requires.few),
    (apart-none c.loop.shards.items c.loop.invariant.none, tt),
  ),
)

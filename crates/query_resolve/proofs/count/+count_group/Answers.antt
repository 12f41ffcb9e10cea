use Rattle.std.proofs.Common.{◌≡◌, arith, length, ap}
use Rattle.query_resolve.proofs.Counts.{rollup_count, cube_count}
use Rattle.query_resolve.proofs.count.+count_group.Goals as goal

pub returns-in-Rollup : goal.returns-in-Rollup
returns-in-Rollup t c = rw (c.in-Rollup.is, rollup_count c.in-Rollup.units) (grind (arith, c.saturating_add.ensures, c.len.ensures))

pub returns-after-loop-unit : goal.returns-after-loop-unit
returns-after-loop-unit t c =
    let e : c.loop-unit._unit-index ≡ length c.in-Cube.units.items = omega (arith, ap length c.deref-unit-items.ensures.value) in
    rw (c.in-Cube.is, cube_count c.in-Cube.units, ← e) c.loop-unit.invariant

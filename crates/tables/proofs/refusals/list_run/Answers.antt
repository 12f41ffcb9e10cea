use Rattle.std.proofs.Common.{◌^◌, arith}
use Rattle.tables.proofs.Runs.{first-within, neighbour-within, neighbours-listed}
use Rattle.tables.proofs.refusals.list_run.Goals as goal

pub overflow_add-first : goal.overflow_add-first
overflow_add-first c = let h = first-within c.args.before (2 ^ 64) c.args.run c.requires in omega (arith, h)

pub overflow_add-first-in-loop-place : goal.overflow_add-first-in-loop-place
overflow_add-first-in-loop-place c =
    let h = neighbour-within c.args.before (2 ^ 64) c.args.run c.loop-place.place c.loop-place-test.true c.requires in
    omega (arith, h)

pub overflow_add-first-in-loop-place-2 : goal.overflow_add-first-in-loop-place-2
overflow_add-first-in-loop-place-2 c =
    let h = neighbour-within c.args.before (2 ^ 64) c.args.run c.loop-place.place c.loop-place-test.true c.requires in
    omega (arith, h)

pub loop-place-preserved : goal.loop-place-preserved
loop-place-preserved c =
    neighbours-listed c.args.before c.args.list.now.items c.loop-place.list.items c.push-in-loop-place.new.self.items c.args.run c.loop-place.place c.loop-place.invariant c.in_ok-push-2.ensures.items

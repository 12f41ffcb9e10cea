use Rattle.std.proofs.Common.{List, subst, arith}
use Rattle.std.proofs.lemmas.List.{nil_from_length}
use Rattle.tables.specs.declared.roll.SetTable.{SetTable}
use Rattle.tables.proofs.SetTables.{of_few}
use Rattle.tables.proofs.Walking.{IsUnderWay, count-moved, next-is, next-stands, walk-all, walk-first, walk-next}
use Rattle.tables.proofs.roll.groups_of_sets.Goals as goal

pub loop-finer-init : goal.loop-finer-init
loop-finer-init g c =
    let first = c.in_ok-tables.ensures in
    walk-first c.args.grouping.now c.args.functions.now c.args.finest c.args.sets.now c.in_ok-waiting.waiting.items c.in_ok-tables.tables.items c.in_ok-groups.groups.items
    c.index_of-index.result first.0 c.requires.among c.index_of-index.ensures c.in_ok-waiting.ensures.listed c.in_ok-waiting.ensures.all
    first.1 first.2 first.3 first.4 c.in_ok-groups.ensures

pub roll_out-requires-clause-few : goal.roll_out-requires-clause-few
roll_out-requires-clause-few g c =
    let grouping = c.args.grouping.now in
    let fs = c.args.functions.now in
    let sets = c.args.sets.now in
    let waiting = c.loop-finer.waiting.items in
    let groups = c.loop-finer.groups.items in
    let rest = c.pop.new.self.items in
    let finer = c.in-Some.finer in
    let before = subst (λ (ts : List SetTable). IsUnderWay grouping fs c.args.finest sets waiting ts groups) c.in-Some.ensures.items c.loop-finer.invariant in
    next-is grouping fs c.args.finest sets waiting rest finer groups before of_few c.requires.few

pub finish_set-requires-clause-within : goal.finish_set-requires-clause-within
finish_set-requires-clause-within g c = λ index is.
    let grouping = c.args.grouping.now in
    let fs = c.args.functions.now in
    let sets = c.args.sets.now in
    let waiting = c.loop-finer.waiting.items in
    let groups = c.loop-finer.groups.items in
    let rest = c.pop.new.self.items in
    let finer = c.in-Some.finer in
    let before = subst (λ (ts : List SetTable). IsUnderWay grouping fs c.args.finest sets waiting ts groups) c.in-Some.ensures.items c.loop-finer.invariant in
    let at = next-stands grouping fs c.args.finest sets waiting rest finer groups before index finer.set is in
    omega (arith, at.0, c.loop-finer.invariant.count)

pub loop-finer-preserved : goal.loop-finer-preserved
loop-finer-preserved g c =
    let grouping = c.args.grouping.now in
    let fs = c.args.functions.now in
    let sets = c.args.sets.now in
    let waiting = c.loop-finer.waiting.items in
    let groups = c.loop-finer.groups.items in
    let rest = c.pop.new.self.items in
    let finer = c.in-Some.finer in
    let before = subst (λ (ts : List SetTable). IsUnderWay grouping fs c.args.finest sets waiting ts groups) c.in-Some.ensures.items c.loop-finer.invariant in
    let rolled = c.in_ok-waiting-2 in
    let finished = c.in_ok-finish_set.ensures in
    walk-next grouping fs c.args.finest sets waiting rest finer groups before rolled.waiting.items c.roll_out.new.tables.items c.finish_set.new.groups.items
    rolled.ensures.sets rolled.ensures.finer rolled.ensures.tables finished.count finished.others finished.finished

pub loop-finer-smaller : goal.loop-finer-smaller
loop-finer-smaller g c =
    let moved = count-moved c.loop-finer.waiting.items c.in_ok-waiting-2.waiting.items c.pop.new.self.items c.roll_out.new.tables.items c.in_ok-waiting-2.ensures.sets in
    omega (arith, moved, c.in-Some.ensures.cases, c.loop-finer.waiting.ok, c.in_ok-waiting-2.waiting.ok, c.pop.new.self.ok, c.roll_out.new.tables.ok)

pub returns : goal.returns
returns g c =
    let none = nil_from_length c.loop-finer.tables.items (omega (arith, c.in_default.ensures.cases.0, c.loop-finer.tables.ok)) in
    walk-all c.args.grouping.now c.args.functions.now c.args.finest c.args.sets.now c.loop-finer.waiting.items c.loop-finer.tables.items c.loop-finer.groups.items none c.loop-finer.invariant

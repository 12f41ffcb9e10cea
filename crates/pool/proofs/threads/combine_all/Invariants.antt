use Rattle.std.proofs.Common.{◌≡◌, map}
use Rattle.std.specs.Vec.Iter.{into_iter_items}
use Rattle.pool.specs.Inside.Combination.{combination_of}
use Rattle.pool.proofs.Parts.{Each}
use Rattle.pool.proofs.threads.combine_all.Given as goal

abbrev pub invariant-loop-part : goal.invariant-loop-part
invariant-loop-part g l =
    (g.W.Work.reduction l.work).fits (g.W.Work.meaning l.all) × Each (g.W.Work.reduction l.work).fits (map g.W.Work.meaning (into_iter_items l.part-iterator))
    × ((g.W.Work.reduction l.work).combine (g.W.Work.meaning l.all) (combination_of (g.W.Work.reduction l.work) (map g.W.Work.meaning (into_iter_items l.part-iterator)))
    ≡ combination_of (g.W.Work.reduction l.work) (map g.W.Work.meaning l.fn.parts.items))

use Rattle.std.proofs.Common.{◌≡◌}
use Rattle.pool.specs.Done.{Did, MayGoOn}
use Rattle.pool.proofs.worker.take_pieces.Given as goal

abbrev pub invariant-loop : goal.invariant-loop
invariant-loop g l =
    (l.hand.pieces ≡ l.fn.hand.pieces)
    × ((begin : g.W.Work.Meaning) → (g.W.Work.reduction l.crew.work.now).fits begin
    → MayGoOn begin (g.W.Work.reduction l.crew.work.now) l.fn.hand l.fn.share.sum (g.W.Work.meaning l.fn.part)
    → Did begin (g.W.Work.reduction l.crew.work.now) l.fn.hand l.fn.share.sum l.hand l.share.sum (g.W.Work.meaning l.part)
    × MayGoOn begin (g.W.Work.reduction l.crew.work.now) l.hand l.share.sum (g.W.Work.meaning l.part))

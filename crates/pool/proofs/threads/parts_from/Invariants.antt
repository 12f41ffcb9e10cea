use Rattle.std.proofs.Common.{◌≡◌, map, vec_len}
use Rattle.pool.specs.Inside.Combination.{combination_of}
use Rattle.pool.proofs.Parts.{Each}
use Rattle.pool.proofs.threads.parts_from.Given as goal

abbrev pub invariant-loop-i : goal.invariant-loop-i
invariant-loop-i g l =
    (vec_len l.parts ≡ l._i) × Each (g.W.Work.reduction l.work).fits (map g.W.Work.meaning l.parts.items)
    × (combination_of (g.W.Work.reduction l.work) (map g.W.Work.meaning l.parts.items) ≡ g.W.Work.meaning l.fn.first)

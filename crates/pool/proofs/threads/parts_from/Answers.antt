use Rattle.std.proofs.Common.{map, sym, ap, ◌∙◌, subst, arith}
use Rattle.pool.specs.Inside.Combination.{combination_of}
use Rattle.pool.proofs.Parts.{Each, all_each, units_behind}
use Rattle.pool.proofs.threads.parts_from.Goals as goal

pub loop-i-preserved : goal.loop-i-preserved
loop-i-preserved g c =
    let inv = c.loop-i.invariant in
    let more = c.in_ok-put_last-2.ensures in
    let len = more.len in
    let b = units_behind (g.met.W.Work.lawful c.args.work.now) g.W.Work.meaning c.loop-i.parts.items c.in_ok-unit.unit inv.1 c.in_ok-unit.ensures in (
      omega (arith, inv.0, len),
      subst (λ l. Each (g.W.Work.reduction c.args.work.now).fits (map g.W.Work.meaning l)) (sym more.items) b.0,
      ap (λ l. combination_of (g.W.Work.reduction c.args.work.now) (map g.W.Work.meaning l)) more.items ∙ b.1 ∙ inv.2,
    )

pub returns-clause-parts : goal.returns-clause-parts
returns-clause-parts g c = all_each (g.W.Work.reduction c.args.work.now).fits g.W.Work.meaning c.loop-i.parts.items (c.loop-i.invariant).1

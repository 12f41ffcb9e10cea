use Rattle.std.proofs.Common.{rules, ◌<◌, sym, ap, ◌∙◌, arith, length}
use Rattle.std.proofs.lemmas.Bool.Decides.{nat_tests}
use Rattle.lines.proofs.Splits.{lines_first, lines_last}
use Rattle.lines.proofs.split.LinesIterator.next.Goals as goal

pub returns-in-Some-clause-steps : goal.returns-in-Some-clause-steps
returns-in-Some-clause-steps c = sym c.self.view_is ∙ lines_first c.self.inside.rest.now c.in-Some.end c.in-Some.ensures

pub returns-in-Some-clause-goes : goal.returns-in-Some-clause-goes
returns-in-Some-clause-goes c =
    let e = ap length (sym c.self.view_is ∙ lines_first c.self.inside.rest.now c.in-Some.end c.in-Some.ensures) in search (rules, e)

pub returns-in-None-clause-steps : goal.returns-in-None-clause-steps
returns-in-None-clause-steps c =
    let l : 0 < length c.self.inside.rest.now = let e = sym c.is_empty.ensures ∙ c.if-is_empty.false in grind (arith, nat_tests, e) in
    sym c.self.view_is ∙ lines_last c.self.inside.rest.now l c.in-None.ensures

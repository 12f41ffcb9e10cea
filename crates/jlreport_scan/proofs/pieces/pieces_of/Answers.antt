use Rattle.std.proofs.Common.{arith}
use Rattle.jlreport_scan.proofs.Cuts.{cut-answered, few-answered, lines-answered}
use Rattle.jlreport_scan.proofs.pieces.pieces_of.Goals as goal

pub returns-clause-few : goal.returns-clause-few
returns-clause-few c = few-answered c.args.input.now c.max.result c.cut.result (omega (arith, c.max.ensures))
    c.cut.ensures.consecutive c.cut.ensures.not_empty c.cut.ensures.within c.cut.ensures.stops

pub returns-clause-cut : goal.returns-clause-cut
returns-clause-cut c = cut-answered c.args.input.now c.max.result c.cut.result (omega (arith, c.max.ensures))
    c.cut.ensures.consecutive c.cut.ensures.not_empty c.cut.ensures.within c.cut.ensures.stops c.cut.ensures.joined

pub returns-clause-lines : goal.returns-clause-lines
returns-clause-lines c = lines-answered c.args.input.now c.cut.result c.cut.ensures.lines

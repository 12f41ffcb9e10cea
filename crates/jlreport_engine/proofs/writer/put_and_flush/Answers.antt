use Rattle.std.proofs.Common.{sym}
use Rattle.jlreport_engine.proofs.Fronts.{begun}
use Rattle.jlreport_engine.proofs.writer.put_and_flush.Goals as goal

pub returns-then-is_err-clause-err : goal.returns-then-is_err-clause-err
returns-then-is_err-clause-err g c =
    begun c.put.result (g.W.Write.contents c.args.writer.now) (g.W.Write.contents c.put.new.writer) c.args.text.now (sym c.if-is_err.ensures.value) c.put.ensures.beginning

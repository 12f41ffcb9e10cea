use Rattle.std.proofs.Common.{sym, subst}
use Rattle.std.specs.Io.KnownBytes.{Appends}
use Rattle.semantics.specs.Run.{AppendsBeginning}
use Rattle.jlreport_engine.proofs.Fronts.{begun, went-well}
use Rattle.jlreport_engine.proofs.Sending.{sent-none, sent-whole}
use Rattle.jlreport_engine.proofs.writer.make_room.Goals as goal

pub returns-then-room-capacity-clause-sent : goal.returns-then-room-capacity-clause-sent
returns-then-room-capacity-clause-sent g c = sent-none (g.W.Write.contents c.args.writer.now) c.args.buffer.now.items

pub returns-clause-sent : goal.returns-clause-sent
returns-clause-sent g c =
    let old = g.W.Write.contents c.args.writer.now in
    let new = g.W.Write.contents c.put.new.writer in
    sent-whole old new c.args.buffer.now.items c.clear.new.self.items c.clear.ensures.items
    (subst (Appends old new) c.as_slice.ensures.value (went-well c.put.result (sym c.if-is_err.ensures.value) c.put.ensures.whole))

pub returns-then-is_err-clause-err : goal.returns-then-is_err-clause-err
returns-then-is_err-clause-err g c =
    let old = g.W.Write.contents c.args.writer.now in
    let new = g.W.Write.contents c.put.new.writer in
    subst (AppendsBeginning old new) c.as_slice.ensures.value (begun c.put.result old new c.as_slice.result.now (sym c.if-is_err.ensures.value) c.put.ensures.beginning)

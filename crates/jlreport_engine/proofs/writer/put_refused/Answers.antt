use Rattle.std.proofs.Common.{[], subst, sym}
use Rattle.std.proofs.lemmas.Result.{on_err_weaker, on_ok_weaker}
use Rattle.std.specs.Io.KnownBytes.{Appends}
use Rattle.semantics.specs.Run.{AppendsBeginning}
use Rattle.jlreport_engine.specs.Inside.Written.{Sends}
use Rattle.jlreport_engine.proofs.Fronts.{on-err, went-well}
use Rattle.jlreport_engine.proofs.Sending.{line-sent, list-begun, list-left, list-sent, sent-none}
use Rattle.jlreport_engine.proofs.writer.put_refused.Goals as goal

pub loop-number-init : goal.loop-number-init
loop-number-init g c =
    let start = g.W.Write.contents c.args.writer.now in
    subst (Sends start start []) (sym c.clear.ensures.items) (sent-none start [])

pub loop-number-preserved : goal.loop-number-preserved
loop-number-preserved g c =
    line-sent c.args.schema.now c.args.refused.now c.loop-number.number-index (g.W.Write.contents c.args.writer.now) (g.W.Write.contents c.loop-number.writer) (g.W.Write.contents c.make_room.new.writer)
    c.loop-number.buffer.items c.make_room.new.buffer.items c.push_refused_line.new.text.items c.loop-number-test.true c.loop-number.invariant c.in_ok-make_room.ensures.sent
    (went-well c.push_refused_line.result (sym c.if-is_err.ensures.value) c.push_refused_line.ensures)

pub returns-in_err-make_room-clause-err : goal.returns-in_err-make_room-clause-err
returns-in_err-make_room-clause-err g c =
    on-err c.from_residual.result
    (list-begun c.args.schema.now c.args.refused.now c.loop-number.number-index (g.W.Write.contents c.args.writer.now) (g.W.Write.contents c.loop-number.writer) (g.W.Write.contents c.make_room.new.writer)
    c.loop-number.buffer.items c.loop-number.invariant c.in_err-make_room.ensures.err)

pub returns-then-is_err-clause-err : goal.returns-then-is_err-clause-err
returns-then-is_err-clause-err g c =
    list-left c.args.schema.now c.args.refused.now c.loop-number.number-index (g.W.Write.contents c.args.writer.now) (g.W.Write.contents c.loop-number.writer) (g.W.Write.contents c.make_room.new.writer)
    c.loop-number.buffer.items c.make_room.new.buffer.items c.loop-number.invariant c.in_ok-make_room.ensures.sent

pub returns-clause-ok : goal.returns-clause-ok
returns-clause-ok g c =
    let old = g.W.Write.contents c.args.writer.now in
    let now = g.W.Write.contents c.loop-number.writer in
    let new = g.W.Write.contents c.put_and_flush.new.writer in
    on_ok_weaker c.put_and_flush.result
    (λ written. list-sent c.args.schema.now c.args.refused.now c.loop-number.number-index old now new c.loop-number.buffer.items c.loop-number-test.false c.loop-number.invariant (subst (Appends now new) c.as_slice.ensures.value written))
    c.put_and_flush.ensures.ok

pub returns-clause-err : goal.returns-clause-err
returns-clause-err g c =
    let old = g.W.Write.contents c.args.writer.now in
    let now = g.W.Write.contents c.loop-number.writer in
    let new = g.W.Write.contents c.put_and_flush.new.writer in
    on_err_weaker c.put_and_flush.result
    (λ begun. list-begun c.args.schema.now c.args.refused.now c.loop-number.number-index old now new c.loop-number.buffer.items c.loop-number.invariant (subst (AppendsBeginning now new) c.as_slice.ensures.value begun))
    c.put_and_flush.ensures.err

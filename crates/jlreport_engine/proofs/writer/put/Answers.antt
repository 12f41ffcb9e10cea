use Rattle.std.proofs.Common.{◌++◌, ◌∙◌, take}
use Rattle.std.proofs.KnownBytes.{Appends-trans}
use Rattle.jlreport_engine.proofs.Fronts.{append-moved}
use Rattle.jlreport_engine.proofs.writer.put.Goals as goal

pub loop-rest-preserved : goal.loop-rest-preserved
loop-rest-preserved g c =
    let i = c.loop-rest.invariant in (
      i.0 ++ take c.in-Ok.taken c.loop-rest.rest.now,
      i.1 ∙ append-moved i.0 c.loop-rest.rest.now c.in-Ok.taken,
      Appends-trans (g.W.Write.contents c.args.writer.now) (g.W.Write.contents c.loop-rest.writer) (g.W.Write.contents c.write.new.self) i.0 (take c.in-Ok.taken c.loop-rest.rest.now) i.2 c.in-Ok.ensures.bytes,
    )

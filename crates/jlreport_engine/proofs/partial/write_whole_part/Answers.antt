use Rattle.std.proofs.Common.{◌∙◌}
use Rattle.semantics.specs.declared.run_fault.RunFault.TheVariants.{OutOfMemory}
use Rattle.jlreport_engine.proofs.Outcomes.{part-done, part-stopped, part-unwritten}
use Rattle.jlreport_engine.proofs.partial.write_whole_part.Goals as goal

pub returns-in-Ok-clause-run : goal.returns-in-Ok-clause-run
returns-in-Ok-clause-run g c = λ limit known within stands.
    part-done _ limit c.args.plan.now known c.args.whole c.as_slice.result.now
    (g.O.Write.contents c.args.out.now) (g.O.Write.contents c.put_and_flush.new.writer)
    (record { lines = c.lines.ensures.lines; refused = c.refused.ensures.refused; within = within }) stands
    (λ input of. c.as_slice.ensures.value ∙ c.in_ok-text.ensures input of) c.in-Ok.ensures.ok

pub returns-clause-run : goal.returns-clause-run
returns-clause-run g c = λ limit known within stands.
    part-unwritten limit c.args.plan.now known c.args.whole c.as_slice.result.now
    (g.O.Write.contents c.args.out.now) (g.O.Write.contents c.put_and_flush.new.writer)
    within stands (λ input of. c.as_slice.ensures.value ∙ c.in_ok-text.ensures input of) c.in-Err.ensures.err

pub returns-in_err-text-clause-run : goal.returns-in_err-text-clause-run
returns-in_err-text-clause-run g c = λ limit known within stands.
    part-stopped c.from_residual.result OutOfMemory limit c.args.plan.now known
    (g.O.Write.contents c.args.out.now) c.from_residual.ensures.1 tt

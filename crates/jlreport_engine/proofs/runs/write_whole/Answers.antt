use Rattle.std.proofs.Common.{◌∙◌}
use Rattle.report.specs.Report.{refusals_of}
use Rattle.semantics.specs.declared.run_fault.RunFault.TheVariants.{OutOfMemory}
use Rattle.jlreport_engine.proofs.Outcomes.{run-done, run-stopped, run-unwritten}
use Rattle.jlreport_engine.proofs.runs.write_whole.Goals as goal

pub returns-clause-run : goal.returns-clause-run
returns-clause-run g c = λ limit known within stands.
    run-done _ limit c.args.plan.now known c.args.whole c.as_slice.result.now (refusals_of c.schema.result.now c.refused-refused.result.now)
    (g.O.Write.contents c.args.out.now) (g.O.Write.contents c.put_both.new.out) (g.E.Write.contents c.args.err.now) (g.E.Write.contents c.put_both.new.err)
    (record { lines = c.lines.ensures.lines; refused = c.refused.ensures.refused; within = within }) stands
    (record {
      report = λ input of. c.as_slice.ensures.value ∙ c.in_ok-report.ensures.report input of;
      refusals = λ input of. (λ i. refusals_of (c.schema.ensures.schema i) (c.refused-refused.ensures i)) ∙ c.in_ok-report.ensures.refused input of;
    })
    c.in_default.ensures.report c.in_default.ensures.list

pub returns-in-Err-clause-run : goal.returns-in-Err-clause-run
returns-in-Err-clause-run g c = λ limit known within stands.
    run-unwritten c.in-Err.fault limit c.args.plan.now known c.args.whole c.as_slice.result.now (refusals_of c.schema.result.now c.refused-refused.result.now)
    (g.O.Write.contents c.args.out.now) (g.O.Write.contents c.put_both.new.out) (g.E.Write.contents c.args.err.now) (g.E.Write.contents c.put_both.new.err)
    within stands
    (record {
      report = λ input of. c.as_slice.ensures.value ∙ c.in_ok-report.ensures.report input of;
      refusals = λ input of. (λ i. refusals_of (c.schema.ensures.schema i) (c.refused-refused.ensures i)) ∙ c.in_ok-report.ensures.refused input of;
    })
    c.in-Err.ensures.fault

pub returns-in_err-report-clause-run : goal.returns-in_err-report-clause-run
returns-in_err-report-clause-run g c = λ limit known within stands.
    run-stopped c.from_residual.result OutOfMemory limit c.args.plan.now known
    (g.O.Write.contents c.args.out.now) (g.E.Write.contents c.args.err.now) c.from_residual.ensures.1 tt

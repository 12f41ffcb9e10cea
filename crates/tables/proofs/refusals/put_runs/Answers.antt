use Rattle.std.proofs.Common.{◌+◌, ◌<◌, ◌^◌, get_or, ap, ◌∙◌, arith}
use Rattle.tables.specs.Inside.Refusals.{lines_of_runs}
use Rattle.tables.proofs.Runs.{all-run, first-within, no_run, run-more, run-shifted, runs-shifted}
use Rattle.tables.proofs.refusals.put_runs.Goals as goal

pub overflow_add-before : goal.overflow_add-before
overflow_add-before c =
    let more = c.args.more.now in
    let i = c.loop-run.run-index in
    let h = first-within c.args.before (2 ^ 64) (get_or more i no_run) (all-run (λ line. c.args.before + line.0 < 2 ^ 64) more i no_run c.loop-run-test.true c.requires) in
    omega (arith, h)

pub loop-run-preserved : goal.loop-run-preserved
loop-run-preserved c =
    let more = c.args.more.now in
    let i = c.loop-run.run-index in
    let so_far = c.loop-run.runs.items in
    runs-shifted c.args.before (lines_of_runs c.args.runs.now.items) (lines_of_runs so_far) (lines_of_runs c.push.new.self.items) more i no_run c.loop-run-test.true c.loop-run.invariant
    (ap lines_of_runs c.in_ok-push.ensures.items ∙ run-more so_far _ ∙ run-shifted c.args.before (lines_of_runs so_far) (get_or more i no_run))

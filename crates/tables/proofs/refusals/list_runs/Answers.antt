use Rattle.std.proofs.Common.{◌+◌, ◌<◌, ◌^◌}
use Rattle.tables.proofs.Runs.{all-run, no_run, runs-shifted}
use Rattle.tables.proofs.refusals.list_runs.Goals as goal

pub list_run-requires : goal.list_run-requires
list_run-requires c = all-run (λ line. c.args.before + line.0 < 2 ^ 64) c.args.runs.now c.loop-run.run-index no_run c.loop-run-test.true c.requires

pub loop-run-preserved : goal.loop-run-preserved
loop-run-preserved c =
    runs-shifted c.args.before c.args.list.now.items c.loop-run.list.items c.list_run.new.list.items c.args.runs.now c.loop-run.run-index no_run c.loop-run-test.true c.loop-run.invariant c.in_ok-list_run.ensures

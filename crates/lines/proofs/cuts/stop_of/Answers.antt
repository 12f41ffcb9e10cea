use Rattle.std.proofs.Common.{◌+◌, ◌-◌, arith}
use Rattle.lines.proofs.Feeds.{stop_at_end, stop_after_feed}
use Rattle.lines.proofs.cuts.stop_of.Goals as goal

pub returns-in-Some-clause-stops : goal.returns-in-Some-clause-stops
returns-in-Some-clause-stops c =
    stop_after_feed c.args.input.now c.args.target c.args.start (c.args.start + (c.args.target - 1)) c.in-Some.offset (omega arith) c.in-Some.ensures

pub returns-in-None-clause-stops : goal.returns-in-None-clause-stops
returns-in-None-clause-stops c =
    stop_at_end c.args.input.now c.args.target c.args.start (c.args.start + (c.args.target - 1)) (omega arith) c.in-None.ensures

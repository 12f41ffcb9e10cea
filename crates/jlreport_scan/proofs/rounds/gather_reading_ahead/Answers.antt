use Rattle.jlreport_scan.proofs.rounds.gather_reading_ahead.Goals as goal

pub loop-ahead-preserved : goal.loop-ahead-preserved
loop-ahead-preserved g c = c.in_ok-ahead-2.ensures.ahead (g.R.Read.remaining c.args.reader) c.loop-ahead.invariant

pub returns : goal.returns
returns g c =
    let ahead = c.loop-ahead.invariant in
    record { is_whole = ahead.none c.loop-ahead-test.false; is_within = ahead.within; stops = tt }

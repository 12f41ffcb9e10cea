use Rattle.jlreport_scan.specs.Inside.Pieces.{IsAheadUnder, most_turns}
use Rattle.jlreport_scan.proofs.rounds.gather_reading_ahead.Given as goal

abbrev pub invariant-loop-ahead : goal.invariant-loop-ahead
invariant-loop-ahead g l = IsAheadUnder l.plan l.fn.options (g.R.Read.remaining l.fn.reader) l.ahead

abbrev pub decreases-loop-ahead : goal.decreases-loop-ahead
decreases-loop-ahead g l = most_turns l.ahead.rounds l.ahead.found

use Rattle.std.proofs.Common.{◌-◌}
use Rattle.jlreport_scan.specs.Inside.Pieces.{StandsForRounds}
use Rattle.jlreport_scan.specs.Gathered.{limit_number}
use Rattle.jlreport_scan.proofs.rounds.gather_by.Given as goal

-- the result stands for all rounds so far
abbrev pub invariant-loop-whole : goal.invariant-loop-whole
invariant-loop-whole g l =
    StandsForRounds l.plan (g.R.Read.remaining l.fn.reader) (limit_number l.options.max_refused) l.rounds l.whole

-- each round has a byte
abbrev pub decreases-loop-whole : goal.decreases-loop-whole
decreases-loop-whole g l = 9223372036854775808 - l.rounds.given

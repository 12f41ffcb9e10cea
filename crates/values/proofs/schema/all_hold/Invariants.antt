use Rattle.std.proofs.Common.{length}
use Rattle.values.proofs.FitLemmas.{EachHolds}
use Rattle.values.proofs.schema.all_hold.Given as goal

-- each column so far holds its value
abbrev pub invariant-loop-column : goal.invariant-loop-column
invariant-loop-column l = EachHolds l.fn.columns l.fn.values (length l.yielded)

use Rattle.std.proofs.Common.{◌≡◌, ◌+◌, ◌++◌, map, take}
use Rattle.tables.specs.Inside.Refusals.{lines_of_runs}
use Rattle.tables.proofs.refusals.put_runs.Given as goal

-- the lines of the runs so far stand behind those of the runs before
abbrev pub invariant-loop-run : goal.invariant-loop-run
invariant-loop-run l = lines_of_runs l.runs.items ≡ lines_of_runs l.fn.runs.items ++ map (λ line. (l.before + line.0, line.1)) (lines_of_runs (take l.run-index l.more))

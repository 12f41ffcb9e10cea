use Rattle.std.proofs.Common.{◌≡◌, ◌+◌, ◌++◌, suc, map}
use Rattle.tables.specs.Inside.Refusals.{neighbours}
use Rattle.tables.proofs.refusals.list_run.Given as goal

-- the first line and some neighbours stand behind those of the list
abbrev pub invariant-loop-place : goal.invariant-loop-place
invariant-loop-place l = l.list.items ≡ l.fn.list.items ++ map (λ line. (l.before + line.0, line.1)) (neighbours l.run.fault l.run.first (suc l.place))

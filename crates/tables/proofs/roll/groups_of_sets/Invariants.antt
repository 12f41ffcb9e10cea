use Rattle.std.proofs.Common.{◌+◌, vec_len}
use Rattle.tables.proofs.Walking.{IsUnderWay}
use Rattle.tables.proofs.roll.groups_of_sets.Given as goal

-- how far the walk has come
abbrev pub invariant-loop-finer : goal.invariant-loop-finer
invariant-loop-finer g l = IsUnderWay l.grouping l.functions l.fn.finest l.sets l.waiting.items l.tables.items l.groups.items

-- a step takes a table away, and moves sets from those that wait to those that have tables
abbrev pub decreases-loop-finer : goal.decreases-loop-finer
decreases-loop-finer g l = vec_len l.waiting + vec_len l.tables

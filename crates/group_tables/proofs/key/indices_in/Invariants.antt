use Rattle.std.proofs.Common.{◌≡◌, map, take}
use Rattle.group_tables.specs.Rolled.{index_in}
use Rattle.group_tables.proofs.key.indices_in.Given as goal

abbrev pub invariant-loop-place : goal.invariant-loop-place
invariant-loop-place l = l.indices.items ≡ map (index_in l.finer) (take l.place-index l.set)

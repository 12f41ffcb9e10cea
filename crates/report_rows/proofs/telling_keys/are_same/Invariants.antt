use Rattle.std.proofs.Common.{◌≡◌, drop}
use Rattle.report_rows.specs.Inside.SortEntries.{are_same_sources}
use Rattle.report_rows.proofs.telling_keys.are_same.Given as goal

-- the sources are the same if those from the place on are
abbrev pub invariant-loop-place : goal.invariant-loop-place
invariant-loop-place l = are_same_sources (drop l.place l.first) (drop l.place l.second) ≡ are_same_sources l.first l.second

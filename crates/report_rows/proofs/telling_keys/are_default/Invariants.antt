use Rattle.std.proofs.Common.{◌≡◌, drop, map}
use Rattle.report_rows.specs.Inside.SortEntries.{are_default_from, coded_form}
use Rattle.report_rows.proofs.telling_keys.are_default.Given as goal

-- keys are the beginning of the default order if those from the place on are its rest
abbrev pub invariant-loop-place : goal.invariant-loop-place
invariant-loop-place l = are_default_from l.place (map coded_form (drop l.place l.keys)) ≡ are_default_from 0 (map coded_form l.keys)

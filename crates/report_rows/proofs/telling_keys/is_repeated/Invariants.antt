use Rattle.std.proofs.Common.{◌≡◌, drop, map}
use Rattle.report_rows.specs.Inside.SortEntries.{coded_form, is_repeated}
use Rattle.report_rows.proofs.telling_keys.is_repeated.Given as goal

-- rows have their values for one of the keys there if they have for one of those that are left
abbrev pub invariant-loop-key : goal.invariant-loop-key
invariant-loop-key l = is_repeated (map coded_form (drop l.key-index l.keys)) l.sources ≡ is_repeated (map coded_form l.keys) l.sources

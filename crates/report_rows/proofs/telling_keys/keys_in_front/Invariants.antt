use Rattle.std.proofs.Common.{◌≡◌, ◌<◌, ℕ, false, map}
use Rattle.report_rows.specs.Inside.SortEntries.{are_default_behind, coded_form}
use Rattle.report_rows.proofs.telling_keys.keys_in_front.Given as goal

-- behind fewer keys than so far the others are not the beginning of the default order
abbrev pub invariant-loop-count : goal.invariant-loop-count
invariant-loop-count l = (n : ℕ) → n < l.count → are_default_behind n (map coded_form l.keys) ≡ false

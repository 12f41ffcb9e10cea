use Rattle.std.proofs.Common.{◌≡◌, ◌++◌, drop}
use Rattle.values.specs.Datum.{data_of}
use Rattle.report_rows.proofs.cells.push_key.Given as goal

-- the values so far, and then those of the key that are left
abbrev pub invariant-loop-value : goal.invariant-loop-value
invariant-loop-value l = data_of l.values.items ++ data_of (drop l.value-index l.key) ≡ data_of l.fn.values.items ++ data_of l.key

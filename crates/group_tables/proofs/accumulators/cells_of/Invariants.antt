use Rattle.std.proofs.Common.{◌≡◌, ◌++◌, map}
use Rattle.group_tables.specs.Inside.Accumulator.{state_in, summary}
use Rattle.group_tables.specs.Cells.{summary_of}
use Rattle.group_tables.proofs.accumulators.cells_of.Given as goal

-- the values so far, and then those of the accumulators that are left
abbrev pub invariant-loop-part : goal.invariant-loop-part
invariant-loop-part l = map summary_of l.cells.items ++ map (λ part. summary l.fn.lines (state_in part)) l.part-iterator.rest.items ≡ map (λ part. summary l.fn.lines (state_in part)) l.fn.parts.items

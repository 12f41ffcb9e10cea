use Rattle.std.proofs.Common.{◌≡◌, ◌+◌, length, map}
use Rattle.values.specs.Datum.{data_of}
use Rattle.group_tables.specs.Inside.Accumulator.{state_in}
use Rattle.group_tables.specs.Inside.Group.{all_with_row, IsSound}
use Rattle.group_tables.proofs.Keeping.{taken_from}
use Rattle.group_tables.proofs.accumulators.Accumulators.add.Given as goal

-- once the rest has taken the record, all have taken it
abbrev pub invariant-loop-place : goal.invariant-loop-place
invariant-loop-place l = record {
  rest : taken_from l.place l.functions l.marks (map state_in l.self-inside.parts.items) (data_of l.row) ≡ all_with_row l.functions l.marks l.fn.self.parts (data_of l.row);
  one_each : length l.self-inside.parts.items ≡ length l.functions;
  lines : l.self-inside.lines ≡ l.fn.self.lines + 1;
  sound : IsSound (l.fn.self.lines + 1) (map state_in l.self-inside.parts.items);
}

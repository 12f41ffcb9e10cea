use Rattle.std.proofs.Common.{◌≡◌, ◌+◌, ◌≤◌, ◌^◌, map, reverse, take}
use Rattle.values.specs.Schema.{fields_of}
use Rattle.semantics.specs.Rows.{is_rolled_up, binary_value}
use Rattle.report_rows.proofs.cells.grouping_number.Given as goal

-- the number of the digits so far, which has no more digits than these
abbrev pub invariant-loop-name : goal.invariant-loop-name
invariant-loop-name l = record {
  number : l.number ≡ binary_value (reverse (map (is_rolled_up (fields_of l.columns) l.set) (take l.name-index l.names)));
  few : l.number + 1 ≤ 2 ^ l.name-index;
}

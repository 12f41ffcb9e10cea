use Rattle.std.proofs.Common.{◌≡◌, ◌≤◌, ◌-◌, None, vec_len}
use Rattle.values.specs.Datum.{data_of}
use Rattle.part_lines.specs.Reading.{ascending_at}
use Rattle.part_lines.proofs.Facts.{AscendFrom}
use Rattle.part_lines.proofs.Last.{last_of}
use Rattle.part_lines.proofs.Loop.{with_front}
use Rattle.part_lines.proofs.states.next_ascending.Given as goal

abbrev pub invariant-loop : goal.invariant-loop
invariant-loop g l = record {
  read : g.S.ValueReader.known l.fn.source
      → g.S.ValueReader.known l.source × (with_front (data_of l.values.items) (ascending_at l.kind (l.count - l.counter) (last_of l.values.items) (g.S.ValueReader.stream l.source)) ≡ ascending_at l.kind l.count None (g.S.ValueReader.stream l.fn.source));
  count : vec_len l.values ≡ l.counter;
  values : AscendFrom l.kind None (data_of l.values.items);
  onward : (g.S.ValueReader.stream l.fn.source).place ≤ (g.S.ValueReader.stream l.source).place;
}

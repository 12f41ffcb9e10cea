use Rattle.std.proofs.Common.{◌≡◌, ◌≤◌, drop, take}
use Rattle.values.specs.Datum.{data_of}
use Rattle.part_lines.specs.Known.{IsKeyFor}
use Rattle.part_lines.specs.Reading.{key_at}
use Rattle.part_lines.proofs.Loop.{with_front}
use Rattle.part_lines.proofs.reader.next_values.Given as goal

abbrev pub invariant-loop-kind : goal.invariant-loop-kind
invariant-loop-kind g l = record {
  read : g.S.ValueReader.known l.fn.source
      → g.S.ValueReader.known l.source × (with_front (data_of l.values.items) (key_at (drop l.kind-index l.columns) (g.S.ValueReader.stream l.source)) ≡ key_at l.columns (g.S.ValueReader.stream l.fn.source));
  held : IsKeyFor (take l.kind-index l.columns) (data_of l.values.items);
  onward : (g.S.ValueReader.stream l.fn.source).place ≤ (g.S.ValueReader.stream l.source).place;
}

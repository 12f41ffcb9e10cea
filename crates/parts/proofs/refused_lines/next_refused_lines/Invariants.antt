use Rattle.std.proofs.Common.{◌≡◌, ◌≤◌, ◌-◌, All, vec_len}
use Rattle.values.specs.Schema.{fields_of}
use Rattle.parts.specs.ReadingParts.{refused_at}
use Rattle.parts.proofs.Refusing.{with_front}
use Rattle.parts.proofs.refused_lines.next_refused_lines.Given as goal

abbrev pub invariant-loop : goal.invariant-loop
invariant-loop g l = record {
  read : g.S.ValueReader.known l.fn.source
      → g.S.ValueReader.known l.source
      × (with_front l.refused.items (refused_at (fields_of l.columns) l.lines (l.count - l.counter) l.last (g.S.ValueReader.stream l.source)) ≡ refused_at (fields_of l.columns) l.lines l.count 0 (g.S.ValueReader.stream l.fn.source));
  count : vec_len l.refused ≡ l.counter;
  within : All (λ line. line.0 ≤ l.lines) l.refused.items;
  onward : (g.S.ValueReader.stream l.fn.source).place ≤ (g.S.ValueReader.stream l.source).place;
}

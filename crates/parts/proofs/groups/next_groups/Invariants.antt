use Rattle.std.proofs.Common.{◌≡◌, ◌≤◌, ◌++◌, ◌-◌, ℕ, List, None, length, option_map}
use Rattle.part_lines.specs.Groups.{shape_of}
use Rattle.semantics.specs.Parts.{groups_values, text_of}
use Rattle.part_lines.specs.Reading.{groups_at}
use Rattle.part_lines.proofs.Loop.{with_front}
use Rattle.parts.specs.Inside.Hashing.{HoldsText}
use Rattle.tables.specs.Contents.{DiffersInGroups}
use Rattle.parts.specs.Inside.Gathering.{IsGathering, groups_of, key_of}
use Rattle.parts.proofs.groups.next_groups.Given as goal

abbrev pub invariant-loop : goal.invariant-loop
invariant-loop g l = record {
  read : g.S.ValueReader.known l.fn.source
      → g.S.ValueReader.known l.source
      × (with_front (groups_of l.so_far) (groups_at (shape_of l.shape) (l.count - l.counter) (option_map key_of l.so_far.last) l.so_far.left (g.S.ValueReader.stream l.source)) ≡ groups_at (shape_of l.shape) l.count None l.fn.start.left (g.S.ValueReader.stream l.fn.source));
  count : length (groups_of l.so_far) ≡ l.counter;
  gathering : IsGathering l.plan l.so_far;
  hashed : (bytes : List ℕ) → HoldsText l.fn.start.hasher bytes → HoldsText l.so_far.hasher (bytes ++ text_of (groups_values (groups_of l.so_far)));
  others : DiffersInGroups l.fn.start.partial l.so_far.partial;
  onward : (g.S.ValueReader.stream l.fn.source).place ≤ (g.S.ValueReader.stream l.source).place;
}

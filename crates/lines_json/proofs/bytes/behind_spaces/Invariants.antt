use Rattle.std.proofs.Common.{◌≡◌, ◌+◌, ◌-◌, ◌≤◌, drop, length}
use Rattle.std.specs.List.{prefix_len}
use Rattle.json.specs.Word.{is_space}
use Rattle.lines_json.specs.Standing.{lexemes}
use Rattle.lines_json.proofs.bytes.behind_spaces.Given as goal

abbrev pub invariant-spaces : goal.invariant-spaces
invariant-spaces l = record {
  later : l.from ≤ l.at;
  within : l.at ≤ length l.text;
  spaces_left : l.at + prefix_len is_space (drop l.at l.text) ≡ l.from + prefix_len is_space (drop l.from l.text);
  same : lexemes l.text l.at ≡ lexemes l.text l.from;
}

abbrev pub decreases-spaces : goal.decreases-spaces
decreases-spaces l = length l.text - l.at

use Rattle.std.proofs.Common.{◌≡◌, ◌+◌, ◌-◌, ◌≤◌, drop, length}
use Rattle.std.specs.List.{prefix_len}
use Rattle.json.specs.Run.{is_plain}
use Rattle.lines_json.proofs.plain.short_plain_end.Given as goal

abbrev pub invariant-short : goal.invariant-short
invariant-short l = record {
  plain_left : l.at + prefix_len is_plain (drop l.at l.text) ≡ l.from + prefix_len is_plain (drop l.from l.text);
  within : l.at ≤ length l.text;
}

abbrev pub decreases-short : goal.decreases-short
decreases-short l = length l.text - l.at

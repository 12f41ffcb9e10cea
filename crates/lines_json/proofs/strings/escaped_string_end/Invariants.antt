use Rattle.std.proofs.Common.{ℕ, ◌-◌, ◌≤◌, List, length, drop}
use Rattle.json.specs.Text.{plain}
use Rattle.json.specs.Lex.{in_string}
use Rattle.lines_json.specs.Inside.Contents.{IsPart}
use Rattle.lines_json.proofs.strings.escaped_string_end.Given as goal

-- the string means `bytes` so far
abbrev pub invariant-escapes : goal.invariant-escapes
invariant-escapes l = record {
  later : l.from ≤ l.at;
  within : l.at ≤ length l.text;
  bytes : List ℕ;
  part : IsPart in_string plain (drop l.from l.text) bytes (drop l.at l.text);
}

abbrev pub decreases-escapes : goal.decreases-escapes
decreases-escapes l = length l.text - l.at

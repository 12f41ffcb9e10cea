use Rattle.std.proofs.Common.{◌≡◌, ℕ, ◌-◌, ◌++◌, ◌≤◌, List, length, drop, string_bytes}
use Rattle.std.specs.Str.{IsCharBoundary}
use Rattle.json.specs.Text.{plain}
use Rattle.json.specs.Lex.{in_string}
use Rattle.lines_json.specs.Inside.Contents.{IsPart}
use Rattle.lines_json.proofs.strings.push_content.Given as goal

-- the string means `bytes` so far, and these are pushed
abbrev pub invariant-escapes : goal.invariant-escapes
invariant-escapes l = record {
  later : l.from ≤ l.at;
  boundary : IsCharBoundary l.text l.at;
  bytes : List ℕ;
  part : IsPart in_string plain (drop l.from l.text) bytes (drop l.at l.text);
  pushed : string_bytes l.content ≡ string_bytes l.initial.content ++ bytes;
}

abbrev pub decreases-escapes : goal.decreases-escapes
decreases-escapes l = length l.text - l.at

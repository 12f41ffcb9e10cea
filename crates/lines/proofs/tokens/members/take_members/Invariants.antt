use Rattle.std.proofs.Common.{◌≤◌, length}
use Rattle.json.specs.Json.{members, value}
use Rattle.serde_json.specs.Data.{Members, no_members}
use Rattle.serde_json.specs.Read.{of_members}
use Rattle.lines_json.proofs.Meaning.{IsAt}
use Rattle.lines.specs.Inside.Members.{AreTaken}
use Rattle.lines.proofs.tokens.members.take_members.Given as goal

-- the members so far are `found`, and the values are what the columns take of them
abbrev pub invariant-members : goal.invariant-members
invariant-members l = record {
  found : Members;
  at : IsAt (members (value 126)) l.initial.reader (λ ms. of_members ms no_members) l.reader (λ ms. of_members ms found) (λ ms. ms);
  taken : AreTaken l.columns l.values.items found;
  next_within : l.next ≤ length l.columns;
}

abbrev pub decreases-members : goal.decreases-members
decreases-members l = length l.reader

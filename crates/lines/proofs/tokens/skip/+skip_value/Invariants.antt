use Rattle.std.proofs.Common.{◌+◌, ◌*◌, ◌≤◌, length}
use Rattle.json.specs.Json.{items, members, value}
use Rattle.serde_json.specs.Data.{Items, Members, no_members}
use Rattle.serde_json.specs.Read.{of_items, of_members}
use Rattle.lines_json.proofs.Meaning.{IsAt}
use Rattle.lines.proofs.tokens.skip.+skip_value.Given as goal

abbrev pub decreases-skip_value : goal.decreases-skip_value
decreases-skip_value l = 2 * l.depth

abbrev pub decreases-skip_items : goal.decreases-skip_items
decreases-skip_items l = 2 * l.depth + 1

abbrev pub decreases-skip_members : goal.decreases-skip_members
decreases-skip_members l = 2 * l.depth + 1

-- `back` puts the items so far before those that are left
abbrev pub invariant-skip_items-items : goal.invariant-skip_items-items
invariant-skip_items-items l = record {
  back : Items → Items;
  at : IsAt (items (value l.depth)) l.initial.reader of_items l.reader of_items back;
  not_longer : length l.reader ≤ length l.initial.reader;
}

abbrev pub decreases-skip_items-items : goal.decreases-skip_items-items
decreases-skip_items-items l = length l.reader

-- the members so far are `found`
abbrev pub invariant-skip_members-members : goal.invariant-skip_members-members
invariant-skip_members-members l = record {
  found : Members;
  at : IsAt (members (value l.depth)) l.initial.reader (λ ms. of_members ms no_members) l.reader (λ ms. of_members ms found) (λ ms. ms);
  not_longer : length l.reader ≤ length l.initial.reader;
}

abbrev pub decreases-skip_members-members : goal.decreases-skip_members-members
decreases-skip_members-members l = length l.reader

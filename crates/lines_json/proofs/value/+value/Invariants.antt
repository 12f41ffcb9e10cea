use Rattle.std.proofs.Common.{◌≡◌, true, ◌+◌, ◌-◌, ◌*◌, length}
use Rattle.json.specs.Lex.{Place, may_begin}
use Rattle.lines_json.proofs.Nested.{IsAmongItems, IsAmongMembers}
use Rattle.lines_json.proofs.value.+value.Given as goal

abbrev pub decreases-value_end : goal.decreases-value_end
decreases-value_end l = 2 * l.depth

abbrev pub decreases-array_end : goal.decreases-array_end
decreases-array_end l = 2 * l.depth + 1

abbrev pub decreases-object_end : goal.decreases-object_end
decreases-object_end l = 2 * l.depth + 1

-- an item may begin here
abbrev pub invariant-array_end-items : goal.invariant-array_end-items
invariant-array_end-items l = record {
  place : Place;
  may : may_begin place ≡ true;
  among : IsAmongItems l.text l.depth l.from place l.at;
}

abbrev pub decreases-array_end-items : goal.decreases-array_end-items
decreases-array_end-items l = length l.text - l.at

-- a member may begin here
abbrev pub invariant-object_end-members : goal.invariant-object_end-members
invariant-object_end-members l = record {
  place : Place;
  may : may_begin place ≡ true;
  among : IsAmongMembers l.text l.depth l.from place l.at;
}

abbrev pub decreases-object_end-members : goal.decreases-object_end-members
decreases-object_end-members l = length l.text - l.at

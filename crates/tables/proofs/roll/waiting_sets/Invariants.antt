use Rattle.std.proofs.Common.{◌≡◌, ◌<◌, ℕ, All, Some}
use Rattle.tables.specs.Inside.SetTables.{NoneHasIndex, StandsAtIndex, sets_of_rolls}
use Rattle.tables.proofs.roll.waiting_sets.Given as goal

-- each roll is that of a set at its index; each set so far has one, but for that of the index
abbrev pub invariant-loop-index : goal.invariant-loop-index
invariant-loop-index l = record {
  listed : All (StandsAtIndex l.sets) (sets_of_rolls l.waiting.items);
  all : (index : ℕ) → index < l.index → NoneHasIndex index (sets_of_rolls l.waiting.items) → l.made ≡ Some index;
}

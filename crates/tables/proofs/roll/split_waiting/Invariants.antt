use Rattle.std.proofs.Common.{◌++◌, All}
use Rattle.std.specs.List.Sorted.{IsPermutation}
use Rattle.group_tables.specs.Rolled.{AreAmong}
use Rattle.tables.specs.declared.roll.Roll.{Roll}
use Rattle.tables.proofs.SetTables.{WaitsOn}
use Rattle.tables.proofs.roll.split_waiting.Given as goal

-- each set is rolled, waits on or is still to come; those that are rolled have their columns in the
-- finer set, and those that wait on are right to wait
abbrev pub invariant-loop-roll : goal.invariant-loop-roll
invariant-loop-roll l = record {
  split : IsPermutation l.fn.waiting.items (l.rolls.items ++ (l.left.items ++ l.roll-iterator.rest.items));
  rolls : All (λ (roll : Roll). AreAmong roll.set.items l.finer) l.rolls.items;
  left : All (WaitsOn l.finer l.rolls.items) l.left.items;
}

use Rattle.std.proofs.Common.{ℕ, ◌<◌, ◌≤◌, ◌≡◌, length, slice_index_or}
use Rattle.tables.specs.declared.roll.Roll.{Roll}
use Rattle.tables.specs.Inside.SetTables.{HasRolled}
use Rattle.tables.proofs.roll.roll_in_turn.Given as goal

-- each roll so far is rolled, and the others are as they were
abbrev pub invariant-loop-place : goal.invariant-loop-place
invariant-loop-place l = record {
  many : length l.rolls ≡ length l.fn.rolls;
  rolled : (i : ℕ) (d : Roll) → i < l.place → HasRolled l.functions l.finer (slice_index_or l.fn.rolls i d) (slice_index_or l.rolls i d);
  left : (i : ℕ) (d : Roll) → l.place ≤ i → slice_index_or l.rolls i d ≡ slice_index_or l.fn.rolls i d;
}

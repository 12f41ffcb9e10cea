use Rattle.std.proofs.Common.{◌-◌, ◌^◌}
use Rattle.test_libraries.proofs.tests.groups.rolled_groups.Goals as goal

pub roll-requires-clause-few : goal.roll-requires-clause-few
roll-requires-clause-few c = c.in_ok-finest.ensures

-- the table that was rolled has no more records
pub roll-requires-2-clause-few : goal.roll-requires-2-clause-few
roll-requires-2-clause-few c = c.in_ok-finer.ensures.counted (2 ^ 63 - 1) c.in_ok-finest.ensures

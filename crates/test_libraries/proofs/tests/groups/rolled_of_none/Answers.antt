use Rattle.test_libraries.proofs.tests.groups.rolled_of_none.Goals as goal

pub roll-requires-clause-few : goal.roll-requires-clause-few
roll-requires-clause-few c = c.in_ok-none.ensures

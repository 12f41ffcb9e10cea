use Rattle.test_pool.proofs.tests.refusal_of_fan_out.Given as goal

abbrev pub ghosts-deal_twice : goal.ghosts-deal_twice
ghosts-deal_twice g a = record { name = a.blank.name; parts = a.blank.parts }

use Rattle.test_pool.proofs.tests.workers_meet.Given as goal

abbrev pub ghosts-on_deal : goal.ghosts-on_deal
ghosts-on_deal g a = record { name = a.blank.name; parts = a.blank.parts }

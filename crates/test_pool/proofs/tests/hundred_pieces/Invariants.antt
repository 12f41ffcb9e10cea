use Rattle.test_pool.proofs.tests.hundred_pieces.Given as goal

abbrev pub ghosts-on_deal : goal.ghosts-on_deal
ghosts-on_deal g a = record { name = a.blank.name; parts = a.blank.parts }

abbrev pub ghosts-deal_twice : goal.ghosts-deal_twice
ghosts-deal_twice g a = record { name = a.blank.name; parts = a.blank.parts }

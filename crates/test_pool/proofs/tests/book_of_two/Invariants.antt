use Rattle.test_pool.proofs.tests.book_of_two.Given as goal

abbrev pub ghosts-reports : goal.ghosts-reports
ghosts-reports g a = record { name = a.blank.name; parts = a.blank.parts }

use Rattle.test_pool.proofs.tests.refusal_of_book.Given as goal

abbrev pub ghosts-reports : goal.ghosts-reports
ghosts-reports g a = record { name = a.blank.name; parts = a.blank.parts }

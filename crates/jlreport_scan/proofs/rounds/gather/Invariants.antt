use Rattle.jlreport_scan.proofs.rounds.gather.Given as goal

abbrev pub ghosts-gather_reading_ahead : goal.ghosts-gather_reading_ahead
ghosts-gather_reading_ahead g a = record { name = a.blank.name; parts = a.blank.parts }

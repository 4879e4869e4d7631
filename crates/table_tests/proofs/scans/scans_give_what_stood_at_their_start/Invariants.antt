use Rattle.table_tests.proofs.scans.scans_give_what_stood_at_their_start.Given as goal

abbrev pub ghosts-mark_one : goal.ghosts-mark_one
ghosts-mark_one g a = record { name = a.blank.name; parts = a.blank.parts }

use Rattle.table_tests.proofs.scans.marked.Given as goal

abbrev pub ghosts-mark_one : goal.ghosts-mark_one
ghosts-mark_one a = record { name = a.blank.name; parts = a.blank.parts }

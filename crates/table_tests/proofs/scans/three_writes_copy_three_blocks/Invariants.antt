use Rattle.table_tests.proofs.scans.three_writes_copy_three_blocks.Given as goal

abbrev pub ghosts-three_counted : goal.ghosts-three_counted
ghosts-three_counted g a = record { name = a.blank.name; parts = a.blank.parts }

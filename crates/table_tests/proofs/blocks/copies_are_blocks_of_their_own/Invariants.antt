use Rattle.table_tests.proofs.blocks.copies_are_blocks_of_their_own.Given as goal

abbrev pub ghosts-copied_twice : goal.ghosts-copied_twice
ghosts-copied_twice g a = record { name = a.blank.name; parts = a.blank.parts }

use Rattle.pane_index.proofs.pane.Pane.add_behind.Given as goal

abbrev pub ghosts-add_block : goal.ghosts-add_block
ghosts-add_block a = record { name = a.blank.name; parts = a.blank.parts }

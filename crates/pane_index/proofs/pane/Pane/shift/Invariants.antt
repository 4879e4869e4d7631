use Rattle.pane_index.proofs.pane.Pane.shift.Given as goal

abbrev pub ghosts-shift : goal.ghosts-shift
ghosts-shift a = record { name = a.blank.name; parts = a.blank.parts }

use Rattle.pane_index.proofs.pane.Pane.take.Given as goal

abbrev pub ghosts-clear : goal.ghosts-clear
ghosts-clear a = record { name = a.blank.name; parts = a.blank.parts }

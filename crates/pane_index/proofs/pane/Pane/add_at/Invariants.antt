use Rattle.pane_index.proofs.pane.Pane.add_at.Given as goal

abbrev pub ghosts-fill : goal.ghosts-fill
ghosts-fill a = record { name = a.blank.name; parts = a.blank.parts }

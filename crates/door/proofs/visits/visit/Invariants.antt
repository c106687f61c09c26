use Rattle.door.proofs.visits.visit.Given as goal

abbrev pub ghosts-visit_named : goal.ghosts-visit_named
ghosts-visit_named g a = record { board = a.board.writer.board }

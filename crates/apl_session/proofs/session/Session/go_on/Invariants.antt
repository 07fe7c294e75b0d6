use Rattle.apl_session.proofs.session.Session.go_on.Given as goal

abbrev pub ghosts-advance : goal.ghosts-advance
ghosts-advance g a = record { name = a.blank.name; parts = a.blank.parts }

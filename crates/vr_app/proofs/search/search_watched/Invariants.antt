use Rattle.vr_app.proofs.search.search_watched.Given as goal

abbrev pub ghosts-improve_judged : goal.ghosts-improve_judged
ghosts-improve_judged g a = record { name = a.blank.name; parts = a.blank.parts }

use Rattle.vr_app_tests.proofs.judged.search_by.Given as goal

abbrev pub ghosts-improve_judged : goal.ghosts-improve_judged
ghosts-improve_judged a = record { name = a.blank.name; parts = a.blank.parts }

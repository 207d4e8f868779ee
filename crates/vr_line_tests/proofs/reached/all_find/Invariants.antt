use Rattle.vr_line_tests.proofs.reached.all_find.Given as goal

abbrev pub ghosts-steps_and_joins : goal.ghosts-steps_and_joins
ghosts-steps_and_joins a = record { name = a.blank.name; parts = a.blank.parts }

abbrev pub ghosts-opens_and_joins : goal.ghosts-opens_and_joins
ghosts-opens_and_joins a = record { name = a.blank.name; parts = a.blank.parts }

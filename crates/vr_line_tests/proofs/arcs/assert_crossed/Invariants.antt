use Rattle.vr_line_tests.proofs.arcs.assert_crossed.Given as goal

abbrev pub ghosts-crossed : goal.ghosts-crossed
ghosts-crossed g a = record { name = a.blank.name; parts = a.blank.parts }

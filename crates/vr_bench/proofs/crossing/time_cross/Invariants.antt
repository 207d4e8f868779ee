use Rattle.vr_bench.proofs.crossing.time_cross.Given as goal

abbrev pub ghosts-time_rounds : goal.ghosts-time_rounds
ghosts-time_rounds a = record { name = a.blank.name; parts = a.blank.parts }

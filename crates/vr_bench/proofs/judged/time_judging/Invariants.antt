use Rattle.vr_bench.proofs.judged.time_judging.Given as goal

abbrev pub ghosts-report_judge : goal.ghosts-report_judge
ghosts-report_judge a = record { name = a.blank.name; parts = a.blank.parts }

use Rattle.vr_bench.proofs.verdict.word_of.Given as goal

abbrev pub ghosts-verdict : goal.ghosts-verdict
ghosts-verdict a = record { name = a.blank.name; parts = a.blank.parts }

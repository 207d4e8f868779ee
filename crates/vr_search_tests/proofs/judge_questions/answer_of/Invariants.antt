use Rattle.vr_search_tests.proofs.judge_questions.answer_of.Given as goal

abbrev pub ghosts-is_answered : goal.ghosts-is_answered
ghosts-is_answered g a = record { name = a.blank.name; parts = a.blank.parts }

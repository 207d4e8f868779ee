use Rattle.vr_reach.proofs.walking.goes_along.Given as goal

abbrev pub ghosts-walk_uncounted-L-Ledger : goal.ghosts-walk_uncounted-L-Ledger
ghosts-walk_uncounted-L-Ledger a = record { name = a.blank.name; parts = a.blank.parts }

abbrev pub ghosts-walk_uncounted-M-Ledger : goal.ghosts-walk_uncounted-M-Ledger
ghosts-walk_uncounted-M-Ledger a = record { name = a.other.name; parts = a.other.parts }

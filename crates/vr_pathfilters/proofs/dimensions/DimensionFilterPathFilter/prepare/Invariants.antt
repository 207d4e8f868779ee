use Rattle.vr_pathfilters.proofs.dimensions.DimensionFilterPathFilter.prepare.Given as goal

abbrev pub ghosts-write_part : goal.ghosts-write_part
ghosts-write_part a = record { name = a.blank.name; parts = a.blank.parts }

use Rattle.vr_pathfilters.proofs.dimensions.DimensionFilterPathFilter.passes.Given as goal

abbrev pub ghosts-passes_untried : goal.ghosts-passes_untried
ghosts-passes_untried a b = record { name = b.blank.name; parts = b.blank.parts }

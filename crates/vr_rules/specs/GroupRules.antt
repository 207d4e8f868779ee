-- What is asked of the marked nodes of a group.
use Rattle.std.specs.Prelude.{Bool, List}
use Rattle.vr_model.specs.declared.records.Group.{Group}
use Rattle.vr_rules.specs.declared.groups.GroupRule.{GroupRule}
use Rattle.vr_rules.specs.declared.groups.GroupRule.TheVariants.{Fitting, Filled}
use Rattle.vr_rules.specs.Placing.{fits_by, is_filled_by}

-- the group is as the rule asks
abbrev pub passes_by : GroupRule → List Bool → Group → Bool
passes_by Fitting marks group = fits_by marks group
passes_by Filled marks group = is_filled_by marks group

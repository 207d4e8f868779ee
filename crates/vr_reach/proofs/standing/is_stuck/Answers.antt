use Rattle.std.proofs.Common.{◌∙◌, sym}
use Rattle.vr_model.proofs.schedules.ChoiceLaws.{chosen_where_feasible}
use Rattle.vr_model.proofs.schedules.Joining.{feasible_where_levels_meet}
use Rattle.vr_model.proofs.schedules.LinesSound.{lines_are_sound}
use Rattle.vr_reach.proofs.StandingLemmas.{none_ends}
use Rattle.vr_reach.proofs.standing.is_stuck.Goals as goal

pub returns-clause-no_end : goal.returns-clause-no_end
returns-clause-no_end c = λ t. none_ends lines_are_sound chosen_where_feasible feasible_where_levels_meet c.args.levels.now (sym c.none_reached.ensures ∙ t)

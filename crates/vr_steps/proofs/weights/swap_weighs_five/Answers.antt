use Rattle.vr_model.proofs.schedules.ChoiceLaws.{chosen_where_feasible, end_reached_as_tested, reached_as_tested}
use Rattle.vr_model.proofs.schedules.Crossing.{reached_by_crossing}
use Rattle.vr_model.proofs.schedules.CrossingBack.{end_reached_by_crossing}
use Rattle.vr_model.proofs.schedules.Joining.{feasible_where_levels_meet}
use Rattle.vr_model.proofs.schedules.LevelEnds.{reached_at_end, reached_at_start}
use Rattle.vr_model.proofs.schedules.LinesSound.{lines_are_sound}
use Rattle.vr_steps.proofs.LawLemmas.{runs_are_counted}
use Rattle.vr_steps.proofs.ReachLemmas.{arc_alone}
use Rattle.vr_steps.proofs.Swaps.{goes, weighs_five}
use Rattle.vr_steps.proofs.weights.swap_weighs_five.Goals as goal

pub returns-clause-weight : goal.returns-clause-weight
returns-clause-weight c = weighs_five lines_are_sound reached_at_start reached_by_crossing reached_at_end
    end_reached_by_crossing arc_alone reached_as_tested end_reached_as_tested runs_are_counted

pub returns-clause-feasible : goal.returns-clause-feasible
returns-clause-feasible c =
    goes lines_are_sound reached_at_start reached_by_crossing reached_at_end end_reached_by_crossing arc_alone feasible_where_levels_meet chosen_where_feasible

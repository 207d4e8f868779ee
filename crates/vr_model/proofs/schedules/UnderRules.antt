-- What is chosen of the narrowed line is chosen under the rule.
use Rattle.std.proofs.Common.{sym, subst}
use Rattle.std.specs.Prelude.{ℤ}
use Rattle.vr_model.specs.schedules.Lines.{Line}
use Rattle.vr_model.specs.schedules.Schedules.{Plan, IsChosen, IsFeasible}
use Rattle.vr_model.proofs.schedules.OneChosen.{chosen_same}
use Rattle.vr_model.proofs.schedules.ChoiceLaws.{chosen_is_least, chosen_where_feasible}
use Rattle.vr_model.specs.schedules.Tight.{IsTight}
use Rattle.vr_model.specs.schedules.Narrowed.{ending_first, latest_start, least_end, narrowed}
use Rattle.vr_model.specs.schedules.RuleLaws.{HasStops, NarrowedChooses, ChosenUnderIsChosen, ChosenUnderWhereFeasible, OneChosenUnder, NarrowedKeepsRules}
use Rattle.vr_model.specs.schedules.RuleLaws.{NarrowedToEnds}
use Rattle.vr_model.specs.declared.records.ScheduleRule.{ScheduleRule}
use Rattle.vr_model.specs.declared.records.ScheduleRule.TheVariants.{Earliest, Tight}
use Rattle.vr_model.proofs.schedules.NarrowLines.{end-is, narrowed-is, of-between, start-is, to-between}

module _ (line : Line) (stops : HasStops line) where
  to-tight : (plan : Plan) → IsChosen (narrowed Tight line) plan → IsTight line plan
  to-tight plan c =
      let s : ℤ = latest_start (ending_first line) in
      let e : ℤ = least_end line in
      let of = of-between line stops s e plan c.schedule in
      let feasible : IsFeasible line = (plan, of.0) in
      record {
        s = s;
        e = e;
        least_end = end-is line stops feasible;
        latest_start = start-is line stops feasible;
        least_between = record {
          schedule = of.0;
          start_is = of.1;
          end_is = of.2;
          least = λ other sch start end. c.least other (to-between line stops s e other sch start end);
        };
      }

  of-tight : (plan : Plan) → IsTight line plan → IsChosen (narrowed Tight line) plan
  of-tight plan t =
      let feasible : IsFeasible line = (plan, t.least_between.schedule) in
      let b = t.least_between in
      subst (λ l. IsChosen l plan) (sym (narrowed-is line stops feasible t.s t.e t.least_end t.latest_start)) (record {
        schedule = to-between line stops t.s t.e plan b.schedule b.start_is b.end_is;
        least = λ other sch. (let of = of-between line stops t.s t.e other sch in b.least other of.0 of.1 of.2);
      })

-- ---- the laws

pub narrowed_chooses : NarrowedChooses
narrowed_chooses Earliest line stops plan = (λ c. c, λ c. c)
narrowed_chooses Tight line stops plan = (to-tight line stops plan, of-tight line stops plan)

pub chosen_under_is_chosen : ChosenUnderIsChosen
chosen_under_is_chosen rule line stops plan = (
  λ e. (narrowed_chooses rule line stops plan).0 ((chosen_is_least (narrowed rule line) plan).0 e),
  λ c. (chosen_is_least (narrowed rule line) plan).1 ((narrowed_chooses rule line stops plan).1 c),
)

pub one_chosen_under : OneChosenUnder
one_chosen_under rule line stops plan other c d =
    chosen_same (narrowed rule line) plan other ((narrowed_chooses rule line stops plan).1 c) ((narrowed_chooses rule line stops other).1 d)

pub narrowed_keeps_rules : NarrowedKeepsRules
narrowed_keeps_rules Earliest line stops plan s = s
narrowed_keeps_rules Tight line stops plan s = (of-between line stops (latest_start (ending_first line)) (least_end line) plan s).0

-- the narrowed line of a feasible line is feasible
pub feasible-narrowed : (rule : ScheduleRule) (line : Line) → HasStops line → IsFeasible line → IsFeasible (narrowed rule line)
feasible-narrowed Earliest line stops feasible = feasible
feasible-narrowed Tight line stops feasible =
    let r = (start-is line stops feasible).reached in
    (r.0, to-between line stops (latest_start (ending_first line)) (least_end line) r.0 r.1 r.3 r.2)

pub chosen_under_where_feasible : ChosenUnderWhereFeasible
chosen_under_where_feasible rule line stops = (
  λ t. (let f = (chosen_where_feasible (narrowed rule line)).0 t in (f.0, narrowed_keeps_rules rule line stops f.0 f.1)),
  λ f. (chosen_where_feasible (narrowed rule line)).1 (feasible-narrowed rule line stops f),
)

pub narrowed_to_ends : NarrowedToEnds
narrowed_to_ends line stops s e end start = narrowed-is line stops (end.reached.0, end.reached.1) s e end start

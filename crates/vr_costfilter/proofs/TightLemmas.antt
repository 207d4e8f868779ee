-- Where soft upper bounds cost nothing, the ends of a tight schedule are its timing.
use Rattle.std.proofs.Common.{◌≡◌, ◌∙◌, suc, false, true, ℕ, List, length, Option, Some, None, refl, ap, sym, subst, arith}
use Rattle.std.specs.Prelude.{ℤ, pos, IsTrue, is_some, unwrap_or}
use Rattle.std.proofs.lemmas.Int.{ints}
use Rattle.vr_model.specs.tables.Numbers.{horizon}
use Rattle.vr_model.specs.tables.Tables.{dimension_at, vehicle_at}
use Rattle.vr_model.specs.tables.WellFormed.{IsIn}
use Rattle.vr_model.specs.routes.Costs.{no_plan}
use Rattle.vr_model.specs.schedules.Choices.{chosen, is_feasible}
use Rattle.vr_model.specs.schedules.Lines.{Line, line}
use Rattle.vr_model.specs.schedules.Narrowed.{chosen_line}
use Rattle.vr_model.specs.schedules.Schedules.{Plan, IsFeasible, cumul}
use Rattle.vr_model.specs.schedules.Tight.{IsChosenUnder, IsLatestStart, IsLeastEnd, IsTight}
use Rattle.vr_model.specs.declared.records.Model.{Model}
use Rattle.vr_model.specs.declared.records.ScheduleRule.TheVariants.{Tight}
use Rattle.vr_model.proofs.schedules.LineArcs.{arcs_of_line, stops_of_line}
use Rattle.vr_model.proofs.schedules.NarrowLines.{end-unique, start-unique}
use Rattle.vr_model.proofs.schedules.UnderRules.{chosen_under_is_chosen, chosen_under_where_feasible}
use Rattle.vr_plan.specs.Paying.{CostsNoSoft}
use Rattle.vr_plan.specs.Timings.{chosen_plan_of}
use Rattle.vr_costfilter.proofs.TimingLemmas.{IsTimed}

-- where a list has a schedule, one is chosen
pub chosen-feasible : (model : Model) (d v : ℕ) (list : List ℕ) → IsFeasible (line model d v list) → is_feasible (chosen_line model d v list) ≡ true
chosen-feasible model d v list feasible =
    (chosen_under_where_feasible (vehicle_at model v).schedule (line model d v list) (stops_of_line model d v list)).1 feasible

module _ (model : Model) (d v : ℕ) (list : List ℕ) (rule : (vehicle_at model v).schedule ≡ Tight) (feasible : IsFeasible (line model d v list))
    (s e : ℤ) (least : IsLeastEnd (line model d v list) e) (latest : IsLatestStart (line model d v list) e s) where
  abbrev L : Line
  L = line model d v list

  abbrev plan : Plan
  plan = chosen_plan_of model d v list

  found : chosen (chosen_line model d v list) ≡ Some plan
  found = there (chosen (chosen_line model d v list))
      ((chosen_under_where_feasible (vehicle_at model v).schedule (line model d v list) (stops_of_line model d v list)).1 feasible)
    where
      there : (o : Option Plan) → IsTrue (is_some o) → o ≡ Some (unwrap_or o no_plan)
      there None h = absurd (let f : false ≡ true → ⊥ = λ e. Prim.cc in f h)
      there (Some p) h = refl

  tight : IsTight L plan
  tight = subst (λ r. IsChosenUnder r L plan) rule ((chosen_under_is_chosen (vehicle_at model v).schedule L (stops_of_line model d v list) plan).0 found)

  same-end : tight.e ≡ e
  same-end = end-unique L tight.e e tight.least_end least

  starts : cumul plan 0 ≡ s
  starts = tight.least_between.start_is ∙ start-unique L tight.e e tight.s s same-end tight.latest_start latest

  ends : cumul plan (suc (length list)) ≡ e
  ends = ap (cumul plan) (sym (arcs_of_line model d v list)) ∙ tight.least_between.end_is ∙ same-end

  pub ends-timed : CostsNoSoft (dimension_at model d) → IsIn (pos 0) horizon s → IsIn (pos 0) horizon e → (start last : ℤ)
      → start ≡ s → last ≡ e → IsTimed model d v list (record { soft = pos 0; start = start; last = last })
  ends-timed free s_in e_in start last start_is last_is = record {
    is_timing = record {
      soft = sym (free v list plan.cumuls);
      start = start_is ∙ sym starts;
      last = last_is ∙ sym ends;
    };
    range = record {
      not_negative = omega (arith, ints);
      bound = omega (arith, ints);
      start_in_range = subst (IsIn (pos 0) horizon) (sym start_is) s_in;
      last_in_range = subst (IsIn (pos 0) horizon) (sym last_is) e_in;
    };
  }

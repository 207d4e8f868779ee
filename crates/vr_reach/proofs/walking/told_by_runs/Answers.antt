use Rattle.std.proofs.Common.{◌∙◌, ◌<◌, All, rules, length, pos, ap, ap₂, sym, subst, arith}
use Rattle.std.specs.Prelude.{◌&&◌}
use Rattle.std.proofs.lemmas.Bool.{and_parts, false≢true}
use Rattle.vr_model.specs.tables.Numbers.{horizon}
use Rattle.vr_model.specs.tables.Tables.{breaks_of, dimension_at, evaluator_of, no_dimension}
use Rattle.vr_model.specs.tables.WellFormed.{IsIn}
use Rattle.vr_model.specs.declared.records.Dimension.{Dimension}
use Rattle.vr_steps.specs.declared.stops.StopName.TheVariants.{End}
use Rattle.vr_steps.specs.Levels.{level_at}
use Rattle.vr_steps.specs.Stops.{allowed_by}
use Rattle.vr_reach.specs.Singles.{are_runs, is_run}
use Rattle.vr_reach.specs.VisitRuns.{is_one_run}
use Rattle.vr_reach.proofs.SingleLemmas.{cumul_read}
use Rattle.vr_reach.proofs.walking.told_by_runs.Goals as goal

pub evaluator_of-requires-clause-vehicle : goal.evaluator_of-requires-clause-vehicle
evaluator_of-requires-clause-vehicle g c =
    let of = c.args.leg.now.stops.of in
    let is = of.closed.well_formed.each_dimension of.d no_dimension of.dimension in
    subst (λ (x : Dimension). of.v < length x.vehicle_evaluators) (c.get.ensures.value no_dimension)
    (let n = is.evaluator_of_each_vehicle in let low = of.vehicle in omega (arith, n, low))

pub evaluator_of-requires-clause-numbers : goal.evaluator_of-requires-clause-numbers
evaluator_of-requires-clause-numbers g c =
    let of = c.args.leg.now.stops.of in
    subst (λ (x : Dimension). All (λ k. k < length x.evaluators) x.vehicle_evaluators) (c.get.ensures.value no_dimension)
    (of.closed.well_formed.each_dimension of.d no_dimension of.dimension).vehicle_evaluators_in_range

pub invariant_of-line : goal.invariant_of-line
invariant_of-line g c =
    let same = cumul_read c.slack_of.result c.slack_of.ensures.range in
    record {
      evaluator_is = c.evaluator_of.ensures ∙ ap (λ dimension. evaluator_of dimension c.args.leg.now.stops.of.v) (sym (c.get.ensures.value no_dimension));
      slack_is = same ∙ c.slack_of.ensures.value;
      slack_range = subst (IsIn (pos 0) horizon) (sym same) c.slack_of.ensures.range;
      runs_are = search rules;
      finish_is = c.in_ok-finish.ensures.finish c.args.leg.now.stops.of.d c.args.leg.now.stops.ends_are;
    }

pub returns-clause-given_up : goal.returns-clause-given_up
returns-clause-given_up g c none _ =
    let of = c.args.leg.now.stops.of in
    let m = of.closed.model.now in
    let from = c.args.leg.now.from.now in
    let to = c.args.leg.now.to.now in
    record {
      not_one = λ t. (
          let both = and_parts (is_one_run (allowed_by m of.d of.v End)) (are_runs (breaks_of (dimension_at m of.d) of.v) from to) t in
          false≢true (c.in_default.ensures.known ∙ ap (λ breaks. are_runs breaks from to) c.args.leg.now.stops.ends_are.breaks_are.same ∙ both.1)
          );
      untold = λ t. c.told_without_breaks.ensures.untold none (and_parts (is_one_run (allowed_by m of.d of.v End)) (is_run (level_at from 0)) t).1;
    }

pub returns-clause-known : goal.returns-clause-known
returns-clause-known g c some = (
  search rules,
  λ up.
      let told = c.told_without_breaks.ensures.known some in
      told.1 (up.untold (ap₂ (λ a b. a && b) (sym (c.in_ok-finish.ensures.known c.args.leg.now.stops.of.d c.args.leg.now.stops.ends_are)) told.0)),
)

pub returns-in-Some-clause-known : goal.returns-in-Some-clause-known
returns-in-Some-clause-known g c some = (
  search rules,
  λ up.
      let leg = c.args.leg.now in
      let ends_are = leg.stops.ends_are in
      let runs = c.in-Some.ensures.known ∙ ap (λ breaks. are_runs breaks leg.from.now leg.to.now) ends_are.breaks_are.same in
      up.not_one (ap₂ (λ a b. a && b) (sym (c.in_ok-finish.ensures.known leg.stops.of.d ends_are)) (sym runs)),
)

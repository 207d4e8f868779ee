use Rattle.std.proofs.Common.{◌∙◌, ◌<◌, length, ap, sym, subst, arith}
use Rattle.std.specs.Prelude.{All, pos}
use Rattle.vr_model.specs.tables.Numbers.{horizon}
use Rattle.vr_model.specs.tables.WellFormed.{IsIn}
use Rattle.vr_model.specs.declared.records.Dimension.{Dimension}
use Rattle.vr_model.specs.tables.Tables.{evaluator_of, no_dimension}
use Rattle.vr_plan.proofs.BoundLemmas.{read-cumul}
use Rattle.vr_costfilter.proofs.guides.Guide.of.Goals as goal

pub evaluator_of-requires-clause-vehicle : goal.evaluator_of-requires-clause-vehicle
evaluator_of-requires-clause-vehicle c =
    let is = c.args.closed.well_formed.each_dimension c.args.d no_dimension c.requires.known.dimension in
    subst (λ (x : Dimension). c.args.v < length x.vehicle_evaluators) (c.get.ensures.value no_dimension)
    (omega (arith, is.evaluator_of_each_vehicle, c.requires.vehicle))

pub evaluator_of-requires-clause-numbers : goal.evaluator_of-requires-clause-numbers
evaluator_of-requires-clause-numbers c =
    let is = c.args.closed.well_formed.each_dimension c.args.d no_dimension c.requires.known.dimension in
    subst (λ (x : Dimension). All (λ k. k < length x.evaluators) x.vehicle_evaluators) (c.get.ensures.value no_dimension) is.vehicle_evaluators_in_range

pub invariant_of-result : goal.invariant_of-result
invariant_of-result c =
    let r = c.in_ok-runs.ensures in
    let slack = read-cumul c.slack_of.result c.slack_of.ensures.range in
    record {
      sound = record {
        well_formed = c.args.closed.well_formed;
        dimension = c.requires.known.dimension;
        vehicle = c.requires.vehicle;
        places = c.requires.known.told.places;
        hard = c.requires.known.told.hard;
        evaluator_is = c.evaluator_of.ensures ∙ ap (λ x. evaluator_of x c.args.v) (sym (c.get.ensures.value no_dimension));
        slack_is = slack ∙ c.slack_of.ensures.value;
        slack_range = subst (IsIn (pos 0) horizon) (sym slack) c.slack_of.ensures.range;
        start = r.start.ends;
        visits = r.visits;
        finish = r.finish.allowed.ends;
        end_is = r.finish.node;
      };
    }

pub returns-clause-runs : goal.returns-clause-runs
returns-clause-runs c =
    let r = c.in_ok-runs.ensures in
    record { no_breaks = r.no_breaks; start = r.start; visits = r.visits; finish = r.finish.allowed }

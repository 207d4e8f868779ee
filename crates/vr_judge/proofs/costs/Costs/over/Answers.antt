use Rattle.std.proofs.Common.{◌≡◌, ◌∙◌, Ok, ap, subst}
use Rattle.vr_model.specs.declared.records.Model.{Model}
use Rattle.vr_judge.proofs.BothLemmas.{of_value}
use Rattle.vr_bounds.specs.Kept.{StandsBounded}
use Rattle.vr_costfilter.specs.GlobalCosts.{StandsSpans}
use Rattle.vr_usecosts.specs.Groups.{StandsGroups}
use Rattle.vr_costfilter.specs.PlanCosts.{StandsPlans}
use Rattle.vr_earliest.specs.Kept.{StandsEarliest}
use Rattle.vr_judge.specs.Costs.{PaysArcsAndGroups, pays_arcs_and_groups}
use Rattle.vr_judge.proofs.costs.Costs.over.Goals as goal

pub are_idle-arcs_and_groups-requires-clause-pays : goal.are_idle-arcs_and_groups-requires-clause-pays
are_idle-arcs_and_groups-requires-clause-pays c = (c.of-fixed.ensures.stands c.args.routes.now c.requires.of_model c.requires.valid).pays_is

pub returns-clause-stands : goal.returns-clause-stands
returns-clause-stands c =
    let model : Model = c.args.lookups.now.closed.model.now in
    let tours = c.args.routes.now in
    let all = c.in_ok-groups.ensures in
    let behind = of_value (λ two. c.try_both-driven.result ≡ Ok two.0) _ _ all.second c.try_both.ensures.first in
    let last = of_value (λ two. c.try_both-scheduled.result ≡ Ok two.1) _ _ all.second c.try_both.ensures.second in
    let groups = all.first in
    let arcs = of_value (λ two. c.open-arcs.result ≡ Ok two.0) _ _ behind c.try_both-driven.ensures.first in
    let earliest = of_value (λ two. c.open-earliest.result ≡ Ok two.1) _ _ behind c.try_both-driven.ensures.second in
    let plans = of_value (λ two. c.over-plans.result ≡ Ok two.0) _ _ last c.try_both-scheduled.ensures.first in
    let spans = of_value (λ two. c.over-spans.result ≡ Ok two.1) _ _ last c.try_both-scheduled.ensures.second in
    record {
      arcs_model = of_value (λ k. k.model ≡ model) _ _ arcs c.open-arcs.ensures.model;
      fixed_model = c.of-fixed.ensures.model;
      groups_model = of_value (λ k. k.model ≡ model) _ _ groups c.open-groups.ensures.model;
      plans_model = of_value (λ k. k.model ≡ model) _ _ plans c.over-plans.ensures.model;
      spans_model = of_value (λ k. k.model ≡ model) _ _ spans c.over-spans.ensures.model;
      earliest_model = of_value (λ k. k.model ≡ model) _ _ earliest c.open-earliest.ensures.model;
      arcs = of_value (λ k. StandsBounded k tours) _ _ arcs c.open-arcs.ensures.stands;
      fixed = c.of-fixed.ensures.stands tours c.requires.of_model c.requires.valid;
      groups = of_value (λ k. StandsGroups k tours) _ _ groups c.open-groups.ensures.stands;
      plans = of_value (λ k. StandsPlans k tours) _ _ plans c.over-plans.ensures.stands;
      spans = of_value (λ k. StandsSpans k tours) _ _ spans c.over-spans.ensures.stands;
      earliest = of_value (λ k. StandsEarliest k tours.lists) _ _ earliest c.open-earliest.ensures.stands;
      arcs_and_groups_is = c.are_idle-arcs_and_groups.ensures.idle ∙ ap pays_arcs_and_groups c.of-fixed.ensures.model;
      arcs_and_groups = λ idle. subst PaysArcsAndGroups c.of-fixed.ensures.model (c.are_idle-arcs_and_groups.ensures.alike idle);
    }

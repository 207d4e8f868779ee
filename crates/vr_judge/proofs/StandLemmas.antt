-- Where plans and spans stand at the lists that they stood at, so do all parts of the cost.
use Rattle.std.proofs.Common.{◌≡◌, ◌∙◌, ap, subst, sym}
use Rattle.vr_routes.specs.Tours.{Tours}
use Rattle.vr_bounds.specs.Kept.{KeptBounded, StandsBounded}
use Rattle.vr_usecosts.specs.Fixed.{KeptFixed, StandsFixed}
use Rattle.vr_usecosts.specs.Groups.{KeptGroups, StandsGroups}
use Rattle.vr_costfilter.specs.PlanCosts.{KeptPlans, StandsPlans}
use Rattle.vr_costfilter.specs.GlobalCosts.{KeptSpans, StandsSpans}
use Rattle.vr_judge.specs.Costs.{KeptCosts, StandsCosts}

pub stands-like : (kept : KeptCosts) (tours : Tours) → StandsCosts kept tours
    → {arcs : KeptBounded} {fixed : KeptFixed} {groups : KeptGroups} {plans : KeptPlans} {spans : KeptSpans}
    → arcs ≡ kept.arcs → fixed ≡ kept.fixed → groups ≡ kept.groups
    → plans.model ≡ kept.plans.model → StandsPlans plans tours → spans.model ≡ kept.spans.model → StandsSpans spans tours
    → StandsCosts (record {
      model = kept.model;
      arcs = arcs;
      fixed = fixed;
      groups = groups;
      plans = plans;
      spans = spans;
      earliest = kept.earliest;
      arcs_and_groups = kept.arcs_and_groups;
    }) tours
stands-like kept tours h arcs_stay fixed_stay groups_stay plans_like plans_stand spans_like spans_stand = record {
  arcs_model = ap (λ k. k.model) arcs_stay ∙ h.arcs_model;
  fixed_model = ap (λ k. k.model) fixed_stay ∙ h.fixed_model;
  groups_model = ap (λ k. k.model) groups_stay ∙ h.groups_model;
  plans_model = plans_like ∙ h.plans_model;
  spans_model = spans_like ∙ h.spans_model;
  earliest_model = h.earliest_model;
  arcs = subst (λ k. StandsBounded k tours) (sym arcs_stay) h.arcs;
  fixed = subst (λ k. StandsFixed k tours) (sym fixed_stay) h.fixed;
  groups = subst (λ k. StandsGroups k tours) (sym groups_stay) h.groups;
  plans = plans_stand;
  spans = spans_stand;
  earliest = h.earliest;
  arcs_and_groups_is = h.arcs_and_groups_is;
  arcs_and_groups = h.arcs_and_groups;
}

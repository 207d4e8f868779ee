use Rattle.std.proofs.Common.{◌≡◌}
use Rattle.vr_judge.specs.Costs.{StandsCosts}
use Rattle.vr_judge.proofs.BothLemmas.{of_value}
use Rattle.vr_judge.proofs.judge.FilterJudge.over.Goals as goal

pub returns-clause-holds : goal.returns-clause-holds
returns-clause-holds c =
    let filters = c.in_ok-filter.ensures.first in
    let costs = c.in_ok-filter.ensures.second in
    rw (c.in_ok-new.ensures.ok) (record {
      committed = record {
        of_model = c.requires.of_model;
        rules = of_value _ _ _ filters c.filters_of-filters.ensures.rules;
        weights = of_value _ _ _ filters c.filters_of-filters.ensures.weights;
        filters = of_value _ _ _ filters c.filters_of-filters.ensures.stands;
        costs_model = of_value (λ k. k.model ≡ c.args.lookups.now.closed.model.now) _ _ costs c.over-costs.ensures.model;
        costs_stand = of_value (λ k. StandsCosts k c.args.routes.now) _ _ costs c.over-costs.ensures.stands;
      };
      of_model = c.requires.of_model;
      valid = c.requires.valid;
    })

use Rattle.std.proofs.Common.{◌≡◌, ◌<◌, length, subst, sym}
use Rattle.std.specs.Prelude.{IfOk}
use Rattle.vr_model.specs.schedules.Weights.{weight}
use Rattle.vr_reach.specs.Lists.{is_feasible_list}
use Rattle.vr_pathfilters.specs.Lists.{holds_of_each}
use Rattle.vr_pathfilters.specs.TourLists.{KeepRule}
use Rattle.vr_pathfilters.proofs.dimensions.DimensionFilter.open.Goals as goal

pub over-requires-clause-dimension : goal.over-requires-clause-dimension
over-requires-clause-dimension c = subst (λ m. c.args.d < length m.dimensions) (sym c.in_ok-lookups.ensures) c.requires.dimension

pub over-requires-clause-routes : goal.over-requires-clause-routes
over-requires-clause-routes c = subst (λ m. KeepRule (λ model. is_feasible_list model c.args.d) m c.args.routes.now)
    (sym c.in_ok-lookups.ensures) (record { visits_are = c.requires.visits; list_of_each = c.requires.many; rule_holds = c.requires.rule })

pub returns-clause-holds : goal.returns-clause-holds
returns-clause-holds c = subst (λ m. IfOk c.over.result
    (λ filter. (λ lists. holds_of_each (is_feasible_list filter.lookups.closed.model.now filter.d) lists) ≡ holds_of_each (is_feasible_list m c.args.d)))
    c.in_ok-lookups.ensures c.over.ensures.holds

pub returns-clause-weight : goal.returns-clause-weight
returns-clause-weight c = subst (λ m. IfOk c.over.result (λ filter. weight filter.lookups.closed.model.now filter.d ≡ weight m c.args.d))
    c.in_ok-lookups.ensures c.over.ensures.weight

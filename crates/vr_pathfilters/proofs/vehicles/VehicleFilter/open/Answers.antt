use Rattle.std.proofs.Common.{◌≡◌, subst, sym}
use Rattle.std.specs.Prelude.{IfOk}
use Rattle.vr_pathfilters.specs.Vehicles.{is_allowed_list}
use Rattle.vr_pathfilters.specs.Lists.{holds_of_each}
use Rattle.vr_pathfilters.specs.TourLists.{KeepRule}
use Rattle.vr_pathfilters.proofs.vehicles.VehicleFilter.open.Goals as goal

pub over-requires : goal.over-requires
over-requires c = subst (λ m. KeepRule is_allowed_list m c.args.routes.now) (sym c.in_ok-lookups.ensures)
    (record { visits_are = c.requires.visits; list_of_each = c.requires.many; rule_holds = c.requires.rule })

pub returns-clause-holds : goal.returns-clause-holds
returns-clause-holds c =
    subst (λ m. IfOk c.over.result (λ filter. holds_of_each (is_allowed_list filter.rule.lookups.closed.model.now) ≡ holds_of_each (is_allowed_list m)))
    c.in_ok-lookups.ensures c.over.ensures.holds

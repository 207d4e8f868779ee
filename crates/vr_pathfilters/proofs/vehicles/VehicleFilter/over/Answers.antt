use Rattle.std.proofs.Common.{ap, subst, sym}
use Rattle.vr_pathfilters.specs.Lists.{holds_of_each}
use Rattle.vr_pathfilters.specs.ListFilters.{StandsBy}
use Rattle.vr_pathfilters.specs.TourLists.{AreTours}
use Rattle.vr_pathfilters.specs.Vehicles.{is_allowed_list}
use Rattle.vr_pathfilters.proofs.PartTours.{kept_tours}
use Rattle.vr_pathfilters.proofs.vehicles.VehicleFilter.over.Goals as goal

pub returns-clause-holds : goal.returns-clause-holds
returns-clause-holds c = ap (λ m. holds_of_each (is_allowed_list m)) c.in_ok-share.ensures

pub returns-clause-stands : goal.returns-clause-stands
returns-clause-stands c = subst (λ m. StandsBy (is_allowed_list m) (AreTours m) c.args.routes.now) (sym c.in_ok-share.ensures)
    (record { known = kept_tours c.requires c.know_once.ensures c.know_entries.ensures; rule_holds = c.requires.rule_holds })

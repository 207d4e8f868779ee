use Rattle.std.proofs.Common.{ap, subst, sym}
use Rattle.vr_model.specs.schedules.Weights.{weight}
use Rattle.vr_reach.specs.Lists.{is_feasible_list}
use Rattle.vr_pathfilters.specs.Known.{StandsAt}
use Rattle.vr_pathfilters.specs.Lists.{holds_of_each}
use Rattle.vr_pathfilters.proofs.PartTours.{kept_tours}
use Rattle.vr_pathfilters.proofs.dimensions.DimensionFilter.over.Goals as goal

pub returns-clause-holds : goal.returns-clause-holds
returns-clause-holds c = ap (λ m. holds_of_each (is_feasible_list m c.args.d)) c.in_ok-share.ensures

pub returns-clause-weight : goal.returns-clause-weight
returns-clause-weight c = ap (λ m. weight m c.args.d) c.in_ok-share.ensures

pub returns-clause-stands : goal.returns-clause-stands
returns-clause-stands c =
    let kept = c.in_ok-loads in
    subst (λ m. StandsAt m c.args.d kept.loads kept.known.items c.args.routes.now) (sym c.in_ok-share.ensures) (record {
      well_formed = c.args.lookups.now.closed.well_formed;
      dimension = c.requires.dimension;
      tours_are = kept_tours c.requires.routes c.know_once.ensures c.know_entries.ensures;
      loads_known = kept.ensures.loads_known;
      loads_are = kept.ensures.loads;
      rows_are = kept.ensures.known;
      rule = c.requires.routes.rule_holds;
    })

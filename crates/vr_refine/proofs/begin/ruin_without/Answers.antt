use Rattle.std.proofs.Common.{sym, subst}
use Rattle.vr_rules.specs.Placing.{AreBuilt}
use Rattle.vr_refine.proofs.BuiltLemmas.{build-built}
use Rattle.vr_refine.proofs.begin.ruin_without.Goals as goal

pub returns-clause-routes : goal.returns-clause-routes
returns-clause-routes c =
    let model = c.args.lookups.now.closed.model.now in
    record {
      visits_are = c.in_ok-routes.ensures.visits;
      built = subst (AreBuilt model) (sym c.in_ok-routes.ensures.lists) (build-built model c.args.lookups.now.closed.well_formed);
    }

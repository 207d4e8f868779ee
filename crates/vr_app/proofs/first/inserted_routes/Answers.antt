use Rattle.std.proofs.Common.{◌∙◌, ap, sym, subst}
use Rattle.vr_rules.specs.Placing.{AreBuilt}
use Rattle.vr_rules.proofs.PlacingLemmas.{AreBuilt-empty}
use Rattle.vr_given.specs.Begin.{filled_up}
use Rattle.vr_app.proofs.first.inserted_routes.Goals as goal

pub fill_up-requires-clause-built : goal.fill_up-requires-clause-built
fill_up-requires-clause-built c =
    let model = c.args.lookups.now.closed.model.now in
    subst (AreBuilt model) (sym c.in_ok-routes.ensures.lists) (AreBuilt-empty model)

pub returns-clause-lists : goal.returns-clause-lists
returns-clause-lists c = let model = c.args.lookups.now.closed.model.now in c.in_ok-fill_up.ensures.lists ∙ ap (filled_up model) c.in_ok-routes.ensures.lists

use Rattle.std.proofs.Common.{◌∙◌, ◌&&◌, not, ap}
use Rattle.vr_model.specs.routes.Routes.{is_active}
use Rattle.vr_routes.proofs.TourLemmas.{inactive_test}
use Rattle.vr_routes.proofs.conditions.is_inactive.Goals as goal

pub returns : goal.returns
returns c model same = c.is_inactive.ensures
    ∙ ap (λ t. t && not (is_active c.args.routes.now.lists c.args.u)) (inactive_test model c.args.routes.now.visits c.args.u same)

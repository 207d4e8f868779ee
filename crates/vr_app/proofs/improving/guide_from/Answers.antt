use Rattle.vr_model.specs.search.GuidedSearches.{guided}
use Rattle.vr_app.proofs.ImproveLemmas.{is_improved_by}
use Rattle.vr_app.proofs.improving.guide_from.Goals as goal

pub returns : goal.returns
returns g c = is_improved_by (guided c.args.closed.model.now c.args.first.routes.lists)
    c.limit_of-limit.ensures.limit c.lambda_of-lambda.ensures.lambda c.in_ok-guided.ensures.ended

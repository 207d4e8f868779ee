use Rattle.vr_model.specs.search.Descents.{descent}
use Rattle.vr_app.proofs.ImproveLemmas.{is_improved}
use Rattle.vr_app.proofs.improving.descend_from.Goals as goal

pub returns : goal.returns
returns g c = is_improved (descent c.args.closed.model.now c.args.first.routes.lists) c.limit_of-limit.ensures.limit c.in_ok-report.ensures.ended

use Rattle.vr_tabu.specs.TabuSearches.{tabu_search}
use Rattle.vr_app.proofs.ImproveLemmas.{is_improved_by}
use Rattle.vr_app.proofs.improving.tabu_from.Goals as goal

pub returns : goal.returns
returns g c = is_improved_by (tabu_search c.args.closed.model.now c.args.first.routes.lists)
    c.limit_of-limit.ensures.limit c.tenure_of-tenure.ensures.tenure c.in_ok-answer.ensures.ended

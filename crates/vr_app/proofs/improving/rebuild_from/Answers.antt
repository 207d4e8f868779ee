use Rattle.vr_lns.specs.PathLns.{path_lns}
use Rattle.vr_app.proofs.ImproveLemmas.{is_improved_by}
use Rattle.vr_app.proofs.improving.rebuild_from.Goals as goal

pub returns : goal.returns
returns g c = is_improved_by (path_lns c.args.lookups.now.closed.model.now c.args.first.routes.lists)
    c.limit_of-limit.ensures.limit c.cut_of-cut.ensures.cut c.in_ok-report.ensures.ended

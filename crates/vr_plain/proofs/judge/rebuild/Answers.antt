use Rattle.std.proofs.Common.{◌∙◌, ap, ap₂}
use Rattle.vr_routes.specs.Pieces.{changed}
use Rattle.vr_routes.specs.Tours.{Tours}
use Rattle.vr_plain.proofs.judge.rebuild.Goals as goal

pub returns : goal.returns
returns c =
    ap₂ {C = Tours} (λ vs ls. record { visits = vs; lists = ls }) (c.commit.ensures.visits ∙ ap (λ r. r.visits) c.assign.ensures)
    (c.commit.ensures.lists ∙ ap (λ r. changed r.lists c.args.change.now) c.assign.ensures)

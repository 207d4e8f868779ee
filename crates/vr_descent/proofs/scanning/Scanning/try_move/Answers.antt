use Rattle.std.proofs.Common.{◌∙◌, sym, ap}
use Rattle.vr_routes.specs.Judging.{verdict_of}
use Rattle.vr_descent.proofs.TakenLemmas.{refused}
use Rattle.vr_descent.proofs.scanning.Scanning.try_move.Goals as goal

pub returns-in-Refused-clause-answer : goal.returns-in-Refused-clause-answer
returns-in-Refused-clause-answer g c =
    let lists = c.args.self.now.routes.now.lists in
    let same = c.least_difference-least.ensures.model ∙ c.requires.judge_model in
    refused c.args.closed.model.now (g.A.Accept.takes c.args.self.now.accept.now) lists c.args.mv
    (sym c.in-Refused.is ∙ (c.in_ok-judge_change.ensures.verdict ∙ ap (λ m. verdict_of m lists c.args.mv) same))

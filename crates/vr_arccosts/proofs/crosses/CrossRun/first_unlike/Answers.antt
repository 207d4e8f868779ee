use Rattle.std.proofs.Common.{ℕ, List}
use Rattle.vr_model.specs.routes.Routes.{route}
use Rattle.vr_arccosts.specs.Runs.{fronts_added}
use Rattle.vr_arccosts.proofs.LineLemmas.{least-told, list-told}
use Rattle.vr_arccosts.proofs.CrossLemmas.{fronts-told}
use Rattle.vr_arccosts.proofs.crosses.CrossRun.first_unlike.Goals as goal

pub returns-clause-no_less : goal.returns-clause-no_less
returns-clause-no_less c b low high =
    let run = c.args.self.now in
    let lists : List (List ℕ) = run.lists.routes.now.lists in
    let line = c.line_of-line.ensures in
    let other = c.line_of-other in
    let least = least-told run.asked.bound (λ m n l. fronts_added m n l other.result.costs.vehicle other.result.list.now run.a b)
    line.model line.vehicle line.list (c.first_front.ensures.no_less b low high) in
    fronts-told run.lists.kept.now.model lists run.v run.a run.w b run.asked.bound
    (list-told run.asked.bound (λ n l. fronts_added run.lists.kept.now.model run.v (route lists run.v) n l run.a b)
    other.ensures.vehicle other.ensures.list least)

use Rattle.std.proofs.Common.{◌≡◌, ◌+◌, ◌<◌, ℕ, List, arith}
use Rattle.std.specs.Prelude.{◌+ℤ◌, slice_index}
use Rattle.vr_model.specs.routes.Routes.{route}
use Rattle.vr_arccosts.specs.Runs.{swap_added}
use Rattle.vr_arccosts.proofs.LineLemmas.{least-told, list-told}
use Rattle.vr_arccosts.proofs.RunLemmas.{swap-no-less}
use Rattle.vr_arccosts.proofs.committed.Committed.first_apart.Goals as goal

pub returns-clause-no_less : goal.returns-clause-no_less
returns-clause-no_less c b low high =
    let run = c.args in
    let model = run.self.kept.now.model in
    let lists : List (List ℕ) = run.self.routes.now.lists in
    let far : run.v ≡ run.w → run.a + 1 < b = λ same. let more = c.requires.apart same in omega (arith, more, low) in
    let line = c.line_of-line.ensures in
    let other = c.line_of-other in
    let least = least-told run.asked.bound
    (λ m n l. swap_added m n l run.a (slice_index other.result.list.now b)
    +ℤ swap_added m other.result.costs.vehicle other.result.list.now b (slice_index l run.a))
    line.model line.vehicle line.list (c.first_swap.ensures.no_less b low high) in
    swap-no-less model lists run.v run.a run.w b run.asked.bound far
    (list-told run.asked.bound
    (λ n l. swap_added model run.v (route lists run.v) run.a (slice_index l b) +ℤ swap_added model n l b (slice_index (route lists run.v) run.a))
    other.ensures.vehicle other.ensures.list least)

use Rattle.std.proofs.Common.{◌≡◌, ◌∙◌, ℕ, List, take, w64, to_z, of_z, ap, ap₂, subst, arith}
use Rattle.std.proofs.lemmas.Int.{ints}
use Rattle.std.specs.Prelude.{◌+ℤ◌, ◌≤ℤ◌}
use Rattle.vr_model.specs.routes.Routes.{route}
use Rattle.vr_model.specs.tables.Tables.{vehicle_at}
use Rattle.vr_model.specs.declared.records.Model.{Model}
use Rattle.vr_balance.specs.Sums.{last_of}
use Rattle.vr_arccosts.specs.Runs.{at_place, cross_base, gap_added}
use Rattle.vr_arccosts.proofs.LineLemmas.{least-told, line-told}
use Rattle.vr_arccosts.proofs.CrossLemmas.{fronts-no-less}
use Rattle.vr_arccosts.proofs.crosses.CrossRun.first_left.Goals as goal

pub returns-clause-no_less : goal.returns-clause-no_less
returns-clause-no_less c b low high =
    let run = c.args.self.now in
    let model : Model = run.lists.kept.now.model in
    let lists : List (List ℕ) = run.lists.routes.now.lists in
    let list : List ℕ = route lists run.v in
    let line = c.line_of-line.ensures in
    let other = c.line_of-other.ensures in
    let vn = c.line_of-line.result.costs.vehicle in
    let mine : List ℕ = c.line_of-line.result.list.now in
    let wn = c.line_of-other.result.costs.vehicle in
    let his : List ℕ = c.line_of-other.result.list.now in
    let some = run.some in
    let within = c.first_gap.ensures.within in
    let base : c.base-base.result ≡ cross_base model run.v list run.w (route lists run.w) run.a =
    c.base-base.ensures.value
    ∙ (line-told (λ m n l. cross_base m n l wn his run.a) line.model line.vehicle line.list
    ∙ ap₂ (λ n l. cross_base model run.v list n l run.a) other.vehicle other.list) in
    let to : c.node_at.result ≡ at_place model run.v list run.a = c.node_at.ensures.value
    ∙ (ap (λ (m : Model). at_place m vn mine run.a) line.model ∙ ap₂ (λ n l. at_place model n l run.a) line.vehicle line.list) in
    let last : c.last.result ≡ last_of (vehicle_at model run.w).start (take run.a list) =
    c.last.ensures.value
    ∙ (ap (λ (m : Model). last_of (vehicle_at m wn).start (take run.a mine)) line.model
    ∙ ap₂ (λ n l. last_of (vehicle_at model n).start (take run.a l)) other.vehicle line.list) in
    let read = to_z w64 (of_z w64 c.base-base.result) in
    let least = least-told run.asked.bound (λ m n l. read +ℤ gap_added m n l c.node_at.result c.last.result b)
    other.model other.vehicle other.list (c.first_gap.ensures.no_less b low high) in
    let r = c.base-base.ensures.range in
    fronts-no-less model lists run.v run.a run.w b run.asked.bound read c.requires.costs (omega (arith, some, low))
    (λ none. let left = c.requires.left none (omega (arith, low, high, within)) in omega (arith, left, high, within)) (omega (arith, ints, base, r.low, r.high))
    (subst (λ d. run.asked.bound ≤ℤ (read +ℤ d)) (ap₂ (λ x y. gap_added model run.w (route lists run.w) x y b) to last) least)

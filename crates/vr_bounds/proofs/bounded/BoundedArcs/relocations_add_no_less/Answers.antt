use Rattle.std.proofs.Common.{◌≡◌, ◌∙◌, ◌+◌, ℕ, List, [], ap, arith}
use Rattle.std.proofs.lemmas.Int.{ints}
use Rattle.vr_model.specs.declared.records.Model.{Model}
use Rattle.vr_model.specs.routes.Routes.{route}
use Rattle.vr_routes.proofs.FactLemmas.{of_relocate}
use Rattle.vr_arccosts.specs.ArcMoves.{costs_more, with_between}
use Rattle.vr_arccosts.proofs.RunLemmas.{relocate-no-less}
use Rattle.vr_bounds.proofs.bounded.BoundedArcs.relocations_add_no_less.Goals as goal

pub returns-in-Some-clause-no_less : goal.returns-in-Some-clause-no_less
returns-in-Some-clause-no_less c told t one =
    let model : Model = c.args.self.now.model in
    let lists : List (List ℕ) = c.args.routes.now.lists in
    let v = c.args.v in
    let a = c.args.a in
    let w = c.args.w in
    let left = c.list_adds-left in
    let same : c.self.inside.arcs.model ≡ model = ap (λ k. k.arcs.model) c.self.view_is ∙ c.requires.stands.arcs_model in
    let base : left.result ≡ costs_more model lists v (with_between (route lists v) a (a + 1) []) =
    left.ensures.value ∙ ap (λ m. costs_more m lists v (with_between (route lists v) a (a + 1) [])) same in
    let facts = of_relocate model lists v a w t one in
    let gap = c.gaps_add_no_less.ensures.no_less told t facts.gap in
    let rest = c.in-Some.ensures.1 in
    relocate-no-less model lists v a w t c.args.bound left.result base c.node_at.ensures
    (omega (arith, ints, gap, rest, left.ensures.range.low, left.ensures.range.high, c.ranges.bound)) one

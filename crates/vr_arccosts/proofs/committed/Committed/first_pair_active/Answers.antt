use Rattle.std.proofs.Common.{ℕ, List, subst}
use Rattle.std.specs.Prelude.{◌+ℤ◌, ◌≤ℤ◌, pos}
use Rattle.vr_model.specs.routes.Routes.{route}
use Rattle.vr_model.specs.tables.Tables.{pair_at}
use Rattle.vr_model.specs.declared.records.Model.{Model}
use Rattle.vr_arccosts.proofs.PutLemmas.{pair-no-less, put-told}
use Rattle.vr_arccosts.proofs.committed.Committed.first_pair_active.Goals as goal

pub returns-clause-no_less : goal.returns-clause-no_less
returns-clause-no_less c t low high =
    let model : Model = c.args.self.kept.now.model in
    let lists : List (List ℕ) = c.args.self.routes.now.lists in
    let line = c.line_of-line in
    let put = put-told model c.args.w (route lists c.args.w) c.args.s t (pair_at model c.args.p)
    line.result.costs.model.now line.result.costs.vehicle line.result.list.now c.pair-pair.result
    line.ensures.model line.ensures.vehicle line.ensures.list c.pair-pair.ensures.value in
    pair-no-less model lists c.args.p c.args.w c.args.s t c.args.asked.bound
    (subst (λ d. c.args.asked.bound ≤ℤ (pos 0 +ℤ d)) put (c.first_delivery.ensures.no_less t low high))

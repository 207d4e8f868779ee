use Rattle.std.proofs.Common.{ℕ, List, w64, to_z, of_z, subst, arith}
use Rattle.std.proofs.lemmas.Int.{ints}
use Rattle.std.specs.Prelude.{◌+ℤ◌, ◌≤ℤ◌}
use Rattle.vr_model.specs.routes.Routes.{route}
use Rattle.vr_model.specs.tables.Tables.{pair_at}
use Rattle.vr_model.specs.declared.records.Model.{Model}
use Rattle.vr_parts.proofs.PartLemmas.{once-valid}
use Rattle.vr_arccosts.proofs.PutLemmas.{elsewhere-no-less, put-told}
use Rattle.vr_arccosts.proofs.puts.Served.first_put_elsewhere.Goals as goal

pub returns-clause-no_less : goal.returns-clause-no_less
returns-clause-no_less c t low high =
    let model : Model = c.args.self.now.lists.kept.now.model in
    let lists : List (List ℕ) = c.args.self.now.lists.routes.now.lists in
    let at = c.args.self.now.at in
    let line = c.line_of-line in
    let left = c.without_pair-left.ensures in
    let read = to_z w64 (of_z w64 c.without_pair-left.result) in
    let put = put-told model c.args.w (route lists c.args.w) c.args.s t (pair_at model c.args.self.now.p)
    line.result.costs.model.now line.result.costs.vehicle line.result.list.now c.pair-pair.result
    line.ensures.model line.ensures.vehicle line.ensures.list c.pair-pair.ensures.value in
    elsewhere-no-less model lists c.args.self.now.p c.args.w c.args.s t at.vehicle at.pickup at.delivery c.args.asked.bound
    read (once-valid model lists c.args.self.now.lists.stands.valid) c.args.self.now.places c.args.self.now.in_turn
    c.requires.other (omega (arith, ints, left.value, left.range.low, left.range.high))
    (subst (λ d. c.args.asked.bound ≤ℤ (read +ℤ d)) put (c.first_delivery.ensures.no_less t low high))

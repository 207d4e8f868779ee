use Rattle.std.proofs.Common.{◌∙◌, ℕ, List, ap, arith}
use Rattle.std.proofs.lemmas.Int.{ints}
use Rattle.vr_model.specs.routes.Routes.{route}
use Rattle.vr_model.specs.declared.records.Model.{Model}
use Rattle.vr_arccosts.specs.ArcMoves.{costs_more}
use Rattle.vr_arccosts.proofs.PutLemmas.{without-pair-list}
use Rattle.vr_arccosts.proofs.puts.Served.without_pair.Goals as goal

pub returns-clause-value : goal.returns-clause-value
returns-clause-value c =
    let model : Model = c.args.self.now.lists.kept.now.model in
    let lists : List (List ℕ) = c.args.self.now.lists.routes.now.lists in
    let at = c.args.self.now.at in
    let b = c.between_adds.ensures in
    let value = b.value ∙ ap (costs_more model lists at.vehicle) (without-pair-list (route lists at.vehicle) at.pickup at.delivery) in
    omega (arith, ints, b.range.low, b.range.high, value)

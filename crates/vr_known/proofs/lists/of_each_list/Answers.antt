use Rattle.std.proofs.Common.{◌∙◌, ℕ, List, length, ap}
use Rattle.vr_model.specs.declared.neighbours.Move.{Move}
use Rattle.vr_model.specs.routes.Routes.{route}
use Rattle.vr_model.specs.tables.Numbers.{below, each}
use Rattle.vr_known.proofs.NestLemmas.{joined_all_below}
use Rattle.vr_known.proofs.lists.of_each_list.Goals as goal

pub returns : goal.returns
returns g c =
    let lists : List (List ℕ) = c.args.routes.now.lists in
    let at : ℕ → List Move = λ v. g.L.OfList.moves c.args.of v (length (route lists v)) in
    c.new-2.ensures ∙ c.new.ensures ∙ (joined_all_below at c.vehicles-vehicles.result ∙ ap (λ n. each (below n) at) c.vehicles-vehicles.ensures.value)

use Rattle.std.proofs.Common.{◌∙◌, ℕ, List, length, map, ap}
use Rattle.vr_model.specs.tables.Numbers.{from_to, below, each}
use Rattle.vr_model.specs.routes.Routes.{route}
use Rattle.vr_model.specs.moves.Moves.{places, places_behind}
use Rattle.vr_model.specs.declared.neighbours.Move.{Move}
use Rattle.vr_model.specs.declared.neighbours.Move.TheVariants.{Exchange}
use Rattle.vr_known.proofs.NestLemmas.{joined_all_below}
use Rattle.vr_moves_cross.proofs.exchange_moves.exchange.Goals as goal

pub returns : goal.returns
returns c model =
    let lists : List (List ℕ) = c.args.routes.now.lists in
    let at : ℕ → List Move = λ v. each (places (route lists v))
    (λ a. each (from_to v (length lists)) (λ w. map (Exchange v a w) (places_behind lists v a w))) in
    c.new-2.ensures ∙ c.new.ensures ∙ (joined_all_below at c.vehicles-vehicles.result ∙ ap (λ n. each (below n) at) c.vehicles-vehicles.ensures.value)

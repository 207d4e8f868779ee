use Rattle.std.proofs.Common.{◌∙◌, ℕ, List, length, map, ap}
use Rattle.vr_model.specs.tables.Numbers.{from_to, below, each}
use Rattle.vr_model.specs.moves.Moves.{places_behind}
use Rattle.vr_model.specs.declared.neighbours.Move.{Move}
use Rattle.vr_model.specs.declared.neighbours.Move.TheVariants.{Exchange}
use Rattle.vr_known.proofs.NestLemmas.{joined_all_below}
use Rattle.vr_moves_cross.proofs.exchange_moves.VehiclesFamily.open.Goals as goal

pub returns : goal.returns
returns c =
    let lists : List (List ℕ) = c.args.self.now.routes.now.lists in
    let at : ℕ → List Move = λ a. each (from_to c.args.k (length lists)) (λ w. map (Exchange c.args.k a w) (places_behind lists c.args.k a w)) in
    c.new.ensures ∙ (joined_all_below at c.len.result ∙ ap (λ n. each (below n) at) c.len.ensures.value)

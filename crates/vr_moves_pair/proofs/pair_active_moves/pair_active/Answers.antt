use Rattle.std.proofs.Common.{◌∙◌, ℕ, List, suc, length, map, ap}
use Rattle.std.specs.Prelude.{filter}
use Rattle.vr_model.specs.tables.Numbers.{from_to, below, each}
use Rattle.vr_model.specs.routes.Routes.{route, vehicles}
use Rattle.vr_model.specs.moves.Moves.{gaps, is_pair_inactive}
use Rattle.vr_model.specs.declared.neighbours.Move.{Move}
use Rattle.vr_model.specs.declared.neighbours.Move.TheVariants.{PairActive}
use Rattle.vr_known.proofs.NestLemmas.{joined_below}
use Rattle.vr_moves_pair.proofs.pair_active_moves.pair_active.Goals as goal

pub returns : goal.returns
returns c =
    let lists : List (List ℕ) = c.args.routes.now.lists in
    let free = is_pair_inactive c.args.model.now lists in
    let at : ℕ → List Move = λ p. each (vehicles lists)
    (λ w. each (gaps (route lists w)) (λ i. map (PairActive p w i) (from_to i (suc (length (route lists w)))))) in
    c.new-2.ensures ∙ c.new.ensures ∙ (joined_below free at c.len-count.result ∙ ap (λ n. each (filter free (below n)) at) c.len-count.ensures)

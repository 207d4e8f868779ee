use Rattle.std.proofs.Common.{◌∙◌, ℕ, List, suc, length, map, ap}
use Rattle.std.specs.Prelude.{filter}
use Rattle.vr_model.specs.tables.Numbers.{from_to, below, each}
use Rattle.vr_model.specs.routes.Routes.{route, vehicles}
use Rattle.vr_model.specs.tables.Tables.{pair_at}
use Rattle.vr_model.specs.moves.Moves.{gaps, without_pair, changes_the_list, is_pair_served}
use Rattle.vr_model.specs.declared.neighbours.Move.{Move}
use Rattle.vr_model.specs.declared.neighbours.Move.TheVariants.{RelocatePair}
use Rattle.vr_known.proofs.NestLemmas.{joined_below}
use Rattle.vr_moves_pair.proofs.relocate_pair_moves.relocate_pair.Goals as goal

pub returns : goal.returns
returns c =
    let model = c.args.model.now in
    let lists : List (List ℕ) = c.args.routes.now.lists in
    let served = is_pair_served model lists in
    let at : ℕ → List Move = λ p. each (vehicles lists) (λ w. each (gaps (without_pair (pair_at model p) (route lists w))) (λ s.
    map (RelocatePair p w s) (filter (changes_the_list (pair_at model p) (route lists w) (without_pair (pair_at model p) (route lists w)) s)
    (from_to s (suc (length (without_pair (pair_at model p) (route lists w)))))))) in
    c.new-2.ensures ∙ c.new.ensures ∙ (joined_below served at c.len-count.result ∙ ap (λ n. each (filter served (below n)) at) c.len-count.ensures)

use Rattle.std.proofs.Common.{◌∙◌, ℕ, List, [], suc, cond, length, map, ap, sym}
use Rattle.std.specs.Prelude.{filter}
use Rattle.vr_model.specs.tables.Numbers.{from_to, below, each}
use Rattle.vr_model.specs.routes.Routes.{route, vehicles}
use Rattle.vr_model.specs.tables.Tables.{pair_at}
use Rattle.vr_model.specs.moves.Moves.{gaps, without_pair, changes_the_list}
use Rattle.vr_model.specs.declared.records.Pair.{Pair}
use Rattle.vr_model.specs.declared.neighbours.Move.{Move}
use Rattle.vr_model.specs.declared.neighbours.Move.TheVariants.{RelocatePair}
use Rattle.vr_known.proofs.NestLemmas.{joined_all_below}
use Rattle.vr_moves_pair.proofs.relocate_pair_moves.PairsFamily.open.Goals as goal

pub returns-in-Some : goal.returns-in-Some
returns-in-Some c =
    let m = c.args.self.now in
    let lists : List (List ℕ) = m.routes.now.lists in
    let pair : Pair = pair_at m.model.now c.args.k in
    let at : ℕ → List Move = λ w. each (gaps (without_pair pair (route lists w))) (λ s.
    map (RelocatePair c.args.k w s)
    (filter (changes_the_list pair (route lists w) (without_pair pair (route lists w)) s)
    (from_to s (suc (length (without_pair pair (route lists w))))))) in
    c.new.ensures ∙ (joined_all_below at m.vehicles ∙ ap (λ n. each (below n) at) c.args.self.now.many
    ∙ ap (λ t. cond t (each (vehicles lists) at) []) (sym c.in-Some.ensures.answer))

use Rattle.std.proofs.Common.{◌∙◌, ℕ, List, [], suc, cond, length, map, ap, sym}
use Rattle.vr_model.specs.tables.Numbers.{from_to, below, each}
use Rattle.vr_model.specs.routes.Routes.{route, vehicles}
use Rattle.vr_model.specs.moves.Moves.{gaps}
use Rattle.vr_model.specs.declared.neighbours.Move.{Move}
use Rattle.vr_model.specs.declared.neighbours.Move.TheVariants.{PairActive}
use Rattle.vr_known.proofs.NestLemmas.{joined_all_below}
use Rattle.vr_moves_pair.proofs.pair_active_moves.PairsFamily.open.Goals as goal

pub returns : goal.returns
returns c =
    let s = c.args.self.now in
    let lists : List (List ℕ) = s.routes.now.lists in
    let at : ℕ → List Move = λ w. each (gaps (route lists w)) (λ i. map (PairActive c.args.k w i) (from_to i (suc (length (route lists w))))) in
    c.new.ensures ∙ (joined_all_below at s.vehicles ∙ ap (λ n. each (below n) at) c.args.self.now.many
    ∙ ap (λ t. cond t (each (vehicles lists) at) []) (sym (sym c.is_pair_inactive.ensures ∙ c.if-not-is_pair_inactive.false)))

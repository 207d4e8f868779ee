use Rattle.std.proofs.Common.{◌∙◌, ◌+◌, ℕ, List, Bool, suc, length, map, ap, add-one, arith}
use Rattle.std.specs.Prelude.{filter}
use Rattle.vr_model.specs.tables.Numbers.{from_to, below, each}
use Rattle.vr_model.specs.routes.Routes.{route}
use Rattle.vr_model.specs.tables.Tables.{pair_at}
use Rattle.vr_model.specs.moves.Moves.{without_pair, changes_the_list}
use Rattle.vr_model.specs.declared.records.Pair.{Pair}
use Rattle.vr_model.specs.declared.neighbours.Move.{Move}
use Rattle.vr_model.specs.declared.neighbours.Move.TheVariants.{RelocatePair}
use Rattle.vr_routes.specs.Pairs.{is_elsewhere}
use Rattle.vr_known.proofs.NestLemmas.{joined_all_below, each_same, filter_same}
use Rattle.vr_routes.proofs.ElsewhereLemmas.{elsewhere_tells}
use Rattle.vr_moves_pair.proofs.relocate_pair_moves.TargetsFamily.open.Goals as goal

pub returns : goal.returns
returns c =
    let m = c.args.self.now in
    let w = c.args.k in
    let lists : List (List ℕ) = m.routes.now.lists in
    let pair : Pair = pair_at m.model.now m.p in
    let rest : List ℕ = without_pair pair (route lists w) in
    let elsewhere : ℕ → ℕ → Bool = is_elsewhere m.at.vehicle m.at.pickup m.at.delivery w in
    let changes : ℕ → ℕ → Bool = changes_the_list pair (route lists w) rest in
    let at : (ℕ → ℕ → Bool) → ℕ → ℕ → List Move = λ passes n s. map (RelocatePair m.p w s) (filter (passes s) (from_to s (suc n))) in
    let n = c.rest_len-n.result in
    c.new.ensures ∙ (joined_all_below (at elsewhere n) (n + 1) ∙ ap (λ e. each (below e) (at elsewhere n)) (add-one n)
    ∙ ap (λ e. each (below (suc e)) (at elsewhere e)) (c.rest_len-n.ensures.rest pair c.args.self.now.places)
    ∙ each_same (at elsewhere (length rest)) (at changes (length rest)) (suc (length rest)) (λ s _.
    ap (map (RelocatePair m.p w s)) (filter_same (elsewhere s) (changes s) s (suc (length rest)) (λ t from to.
    elsewhere_tells lists pair c.know_once.ensures m.at.vehicle m.at.pickup m.at.delivery
    c.args.self.now.places c.args.self.now.order w s t c.requires.below from (omega (arith, to))))))

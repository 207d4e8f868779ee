use Rattle.std.proofs.Common.{◌∙◌, ◌+◌, ℕ, List, suc, map, ap, add-one}
use Rattle.vr_model.specs.tables.Numbers.{from_to, below, each}
use Rattle.vr_model.specs.declared.neighbours.Move.{Move}
use Rattle.vr_model.specs.declared.neighbours.Move.TheVariants.{PairActive}
use Rattle.vr_known.proofs.NestLemmas.{joined_all_below}
use Rattle.vr_moves_pair.proofs.pair_active_moves.TargetsFamily.open.Goals as goal

pub returns : goal.returns
returns c =
    let p = c.args.self.now.p in
    let at : ℕ → ℕ → List Move = λ n i. map (PairActive p c.args.k i) (from_to i (suc n)) in
    c.new.ensures ∙ (joined_all_below (at c.len-n.result) (c.len-n.result + 1) ∙ ap (λ m. each (below m) (at c.len-n.result)) (add-one c.len-n.result)
    ∙ ap (λ n. each (below (suc n)) (at n)) c.len-n.ensures.value)

use Rattle.std.proofs.Common.{◌∙◌, ℕ, List, map, ap}
use Rattle.vr_model.specs.tables.Numbers.{below, each}
use Rattle.vr_model.specs.declared.neighbours.Move.{Move}
use Rattle.vr_model.specs.declared.neighbours.Move.TheVariants.{SwapActive}
use Rattle.vr_known.proofs.NestLemmas.{joined_all_below}
use Rattle.vr_moves_active.proofs.swap_active_moves.VehiclesFamily.open.Goals as goal

pub returns : goal.returns
returns c =
    let s = c.args.self.now in
    let at : ℕ → List Move = λ a. map (SwapActive c.args.k a) s.nodes.now in
    c.new.ensures ∙ (joined_all_below at c.len.result ∙ ap (λ n. each (below n) at) c.len.ensures.value)

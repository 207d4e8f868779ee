use Rattle.std.proofs.Common.{◌∙◌, map, ap}
use Rattle.std.specs.Prelude.{filter}
use Rattle.vr_model.specs.tables.Numbers.{below}
use Rattle.vr_model.specs.moves.Moves.{is_pair_together}
use Rattle.vr_model.specs.declared.neighbours.Move.TheVariants.{PairInactive}
use Rattle.vr_known.proofs.NestLemmas.{run_below}
use Rattle.vr_moves_pair.proofs.pair_inactive_moves.pair_inactive.Goals as goal

pub returns : goal.returns
returns c =
    let together = is_pair_together c.args.model.now c.args.routes.now.lists in
    c.new-2.ensures ∙ c.new.ensures.rest
    ∙ (run_below together PairInactive c.len-count.result ∙ ap (λ n. map PairInactive (filter together (below n))) c.len-count.ensures)

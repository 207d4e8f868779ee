use Rattle.std.proofs.Common.{◌∙◌, ℕ, length}
use Rattle.std.specs.Prelude.{slice_index}
use Rattle.vr_model.specs.declared.neighbours.Move.{Move}
use Rattle.vr_model.specs.declared.neighbours.Move.TheVariants.{SwapActive}
use Rattle.vr_known.proofs.NestLemmas.{run_all_below, map_places}
use Rattle.vr_moves_active.proofs.swap_active_moves.PlacesFamily.open.Goals as goal

pub returns : goal.returns
returns c =
    let s = c.args.self.now in
    let at : ℕ → Move = λ k. SwapActive s.v c.args.k (slice_index s.nodes.now k) in
    c.new.ensures.rest ∙ (run_all_below at (length s.nodes.now) ∙ map_places (SwapActive s.v c.args.k) s.nodes.now)

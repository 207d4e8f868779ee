use Rattle.std.proofs.Common.{◌∙◌, ℕ, List, map, ap}
use Rattle.std.specs.Prelude.{slice_index}
use Rattle.vr_model.specs.tables.Numbers.{below, each}
use Rattle.vr_model.specs.routes.Routes.{route}
use Rattle.vr_model.specs.moves.Moves.{gaps}
use Rattle.vr_model.specs.declared.neighbours.Move.{Move}
use Rattle.vr_model.specs.declared.neighbours.Move.TheVariants.{MakeActive}
use Rattle.vr_known.proofs.NestLemmas.{joined_all_below}
use Rattle.vr_moves_active.proofs.make_active_moves.NodesFamily.open.Goals as goal

pub returns : goal.returns
returns c =
    let s = c.args.self.now in
    let lists : List (List ℕ) = s.routes.now.lists in
    let at : ℕ → List Move = λ w. map (MakeActive (slice_index s.nodes.now c.args.k) w) (gaps (route lists w)) in
    c.new.ensures ∙ (joined_all_below at s.vehicles ∙ ap (λ n. each (below n) at) c.args.self.now.many)

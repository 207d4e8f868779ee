use Rattle.std.proofs.Common.{◌∙◌, ℕ, List, map, ap}
use Rattle.std.specs.Prelude.{filter}
use Rattle.vr_model.specs.tables.Numbers.{below, each}
use Rattle.vr_model.specs.routes.Routes.{route}
use Rattle.vr_model.specs.moves.Moves.{gaps, is_other}
use Rattle.vr_model.specs.declared.neighbours.Move.{Move}
use Rattle.vr_model.specs.declared.neighbours.Move.TheVariants.{Relocate}
use Rattle.vr_known.proofs.NestLemmas.{joined_below}
use Rattle.vr_moves_cross.proofs.relocate_moves.PlacesFamily.open.Goals as goal

pub returns : goal.returns
returns c =
    let s = c.args.self.now in
    let lists : List (List ℕ) = s.routes.now.lists in
    let at : ℕ → List Move = λ w. map (Relocate s.v c.args.k w) (gaps (route lists w)) in
    c.new.ensures ∙ (joined_below (is_other s.v) at s.vehicles ∙ ap (λ n. each (filter (is_other s.v) (below n)) at) c.args.self.now.many)

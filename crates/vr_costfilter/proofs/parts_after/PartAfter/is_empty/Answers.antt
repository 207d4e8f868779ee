use Rattle.std.proofs.Common.{◌≡◌, ◌∙◌, ℕ, List, length, ap, sym, subst}
use Rattle.std.specs.Prelude.{◌==◌}
use Rattle.vr_model.specs.routes.Routes.{is_empty}
use Rattle.vr_routes.specs.Pieces.{joined}
use Rattle.vr_routes.proofs.JoinedPieces.{empty_by_length}
use Rattle.vr_costfilter.specs.PartsAfter.{list_after}
use Rattle.vr_costfilter.proofs.parts_after.PartAfter.is_empty.Goals as goal

pub returns : goal.returns
returns c =
    let list : List ℕ = list_after c.args.self.now in
    let lists : List (List ℕ) = c.args.self.now.routes.now.lists in
    let many = c.nodes_in.ensures lists c.pieces.ensures.within ∙ ap (λ ps. length (joined lists ps)) c.pieces.ensures.value in
    subst (λ (k : ℕ). (k == 0) ≡ is_empty list) (sym many) (empty_by_length list)

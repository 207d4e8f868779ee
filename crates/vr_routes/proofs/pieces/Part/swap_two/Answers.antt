use Rattle.std.proofs.Common.{◌∙◌, ◌+◌, ◌++◌, [], ◌∷◌, ℕ, List, take, drop, subst, ap, arith}
use Rattle.std.specs.Prelude.{slice_range, slice_index}
use Rattle.vr_model.specs.routes.Routes.{route}
use Rattle.vr_routes.specs.Changes.{IsAfter}
use Rattle.vr_routes.proofs.PieceLemmas.{swap_spliced}
use Rattle.vr_routes.proofs.pieces.Part.swap_two.Goals as goal

pub returns : goal.returns
returns c =
    let a = c.args in
    let h = c.requires in
    let lists : List (List ℕ) = a.routes.now.lists in
    let list : List ℕ = route lists a.v in
    let between : ℕ → ℕ → List ℕ = λ y x. take a.lo list ++ (((y ∷ slice_range list (a.lo + 1) a.hi) ++ x ∷ []) ++ drop (a.hi + 1) list) in
    let s1 = c.node.ensures.after lists a.v a.lo _ (c.begin.ensures.after lists) in
    let s2 = c.chain.ensures.after lists a.v a.lo _ h.vehicle (omega (arith, h.place)) s1 in
    let s3 = c.node-2.ensures.after lists a.v a.lo _ s2 in
    let s4 = c.end.ensures lists a.v a.lo _ h.vehicle c.len-n.ensures.value (omega (arith, h.order)) s3 in
    subst (IsAfter lists c.end.new.self a.v) (
    ap (λ y. between y c.node_at-2.result) c.node_at.ensures
    ∙ ap (between (slice_index list a.hi)) c.node_at-2.ensures
    ∙ swap_spliced list a.lo a.hi (slice_index list a.hi) (slice_index list a.lo) h.order h.place) s4

use Rattle.std.proofs.Common.{ℕ, List, subst}
use Rattle.vr_model.specs.routes.Routes.{route}
use Rattle.vr_routes.specs.Changes.{IsAfter}
use Rattle.vr_routes.proofs.PieceLemmas.{pair_spliced}
use Rattle.vr_routes.proofs.pieces.Part.put_pair.Goals as goal

pub returns : goal.returns
returns c =
    let a = c.args in
    let h = c.requires in
    let lists : List (List ℕ) = a.routes.now.lists in
    let s1 = c.node.ensures.after lists a.v a.s _ (c.begin.ensures.after lists) in
    let s2 = c.chain.ensures.after lists a.v a.s _ h.vehicle h.gap s1 in
    let s3 = c.node-2.ensures.after lists a.v a.s _ s2 in
    let s4 = c.end.ensures lists a.v a.s _ h.vehicle c.len-n.ensures.value h.order s3 in
    subst (IsAfter lists c.end.new.self a.v) (pair_spliced (route lists a.v) a.s a.t a.pair.pickup a.pair.delivery) s4

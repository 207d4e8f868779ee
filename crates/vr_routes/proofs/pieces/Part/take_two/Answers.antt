use Rattle.std.proofs.Common.{ℕ, List, subst, arith}
use Rattle.vr_model.specs.routes.Routes.{route}
use Rattle.vr_routes.specs.Changes.{IsAfter}
use Rattle.vr_routes.proofs.RestLemmas.{two_spliced}
use Rattle.vr_routes.proofs.pieces.Part.take_two.Goals as goal

pub returns : goal.returns
returns c =
    let a = c.args in
    let h = c.requires in
    let lists : List (List ℕ) = a.routes.now.lists in
    let s1 = c.chain.ensures.after lists a.v a.lo _ h.vehicle (omega (arith, h.place)) (c.begin.ensures.after lists) in
    let s2 = c.end.ensures lists a.v a.lo _ h.vehicle c.len-n.ensures.value (omega (arith, h.order)) s1 in
    subst (IsAfter lists c.end.new.self a.v) (two_spliced (route lists a.v) a.lo a.hi) s2

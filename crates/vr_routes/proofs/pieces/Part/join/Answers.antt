use Rattle.std.proofs.Common.{◌++◌, ℕ, List, drop, subst, ap, arith}
use Rattle.std.proofs.lemmas.Slice.{between_from_start}
use Rattle.vr_model.specs.routes.Routes.{route}
use Rattle.vr_routes.specs.Changes.{IsAfter}
use Rattle.vr_routes.proofs.pieces.Part.join.Goals as goal

pub returns : goal.returns
returns c =
    let a = c.args in
    let h = c.requires in
    let lists : List (List ℕ) = a.routes.now.lists in
    let s1 = c.chain.ensures.after lists a.v 0 _ h.other.vehicle (omega (arith, h.other.within)) (c.begin.ensures.after lists) in
    let s2 = c.end.ensures lists a.v 0 _ h.own.vehicle c.len-n.ensures.value (omega arith) s1 in
    subst (IsAfter lists c.end.new.self a.v) (ap (λ xs. xs ++ drop a.a (route lists a.v)) (between_from_start (route lists a.w) a.b)) s2

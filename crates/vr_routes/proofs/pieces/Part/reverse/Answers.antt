use Rattle.std.proofs.Common.{◌++◌, ℕ, List, take, drop, subst, ap, arith, add-one}
use Rattle.std.specs.Prelude.{reverse, slice_range}
use Rattle.vr_model.specs.routes.Routes.{route}
use Rattle.vr_routes.specs.Changes.{IsAfter}
use Rattle.vr_routes.proofs.pieces.Part.reverse.Goals as goal

pub returns : goal.returns
returns c =
    let a = c.args in
    let lists : List (List ℕ) = a.routes.now.lists in
    let s1 = c.reversed.ensures.after lists a.v a.lo _ c.requires.vehicle (omega (arith, c.requires.place)) (c.begin.ensures.after lists) in
    let s2 = c.end.ensures lists a.v a.lo _ c.requires.vehicle c.len-n.ensures.value (omega (arith, c.requires.order)) s1 in
    subst (IsAfter lists c.end.new.self a.v)
    (ap (λ e. take a.lo (route lists a.v) ++ (reverse (slice_range (route lists a.v) a.lo e) ++ drop e (route lists a.v))) (add-one a.hi)) s2

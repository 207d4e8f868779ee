use Rattle.std.proofs.Common.{ℕ, List, subst, arith}
use Rattle.vr_model.specs.routes.Routes.{route}
use Rattle.vr_routes.specs.Changes.{IsAfter}
use Rattle.vr_routes.proofs.PieceLemmas.{put_back, put_on}
use Rattle.vr_routes.proofs.pieces.Part.move_chain.Goals as goal

pub swap_neighbours-requires : goal.swap_neighbours-requires
swap_neighbours-requires c =
    let low = c.if-t-a.true in
    record { vehicle = c.requires.chain.vehicle; order = omega (arith, low); next = omega arith; within = c.requires.chain.within }

pub returns-then-t-a : goal.returns-then-t-a
returns-then-t-a c =
    let a = c.args in
    let low = c.if-t-a.true in
    let lists : List (List ℕ) = a.routes.now.lists in
    subst (IsAfter lists c.swap_neighbours.new.self a.v)
    (put_back (route lists a.v) a.a a.k a.t (omega (arith, low)) (omega (arith, c.requires.chain.within))) c.swap_neighbours.ensures

pub swap_neighbours-requires-2 : goal.swap_neighbours-requires-2
swap_neighbours-requires-2 c =
    let past = c.if-t-a.false in
    record { vehicle = c.requires.chain.vehicle; order = omega arith; next = omega (arith, past); within = c.requires.gap }

pub returns : goal.returns
returns c =
    let a = c.args in
    let past = c.if-t-a.false in
    let lists : List (List ℕ) = a.routes.now.lists in
    subst (IsAfter lists c.swap_neighbours-2.new.self a.v)
    (put_on (route lists a.v) a.a a.k a.t (omega (arith, past)) c.requires.gap) c.swap_neighbours-2.ensures

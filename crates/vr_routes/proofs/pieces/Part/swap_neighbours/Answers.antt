use Rattle.std.proofs.Common.{arith}
use Rattle.vr_routes.proofs.pieces.Part.swap_neighbours.Goals as goal

pub returns : goal.returns
returns c =
    let a = c.args in
    let h = c.requires in
    let lists = a.routes.now.lists in
    let s1 = c.chain.ensures.after lists a.v a.from _ h.vehicle h.within (c.begin.ensures.after lists) in
    let s2 = c.chain-2.ensures.after lists a.v a.from _ h.vehicle (omega (arith, h.within, h.next)) s1 in
    c.end.ensures lists a.v a.from _ h.vehicle c.len-n.ensures.value (omega (arith, h.order, h.next)) s2

use Rattle.std.proofs.Common.{arith}
use Rattle.vr_routes.proofs.pieces.Part.put.Goals as goal

pub returns : goal.returns
returns c =
    let lists = c.args.routes.now.lists in
    let s1 = c.node.ensures.after lists c.args.v c.args.from _ (c.begin.ensures.after lists) in
    c.end.ensures lists c.args.v c.args.from _ c.requires.vehicle c.len-n.ensures.value (omega arith) s1

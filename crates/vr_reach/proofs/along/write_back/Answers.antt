use Rattle.std.proofs.Common.{arith}
use Rattle.vr_reach.proofs.AlongLemmas.{last_row}
use Rattle.vr_reach.proofs.along.write_back.Goals as goal

pub reach_back-requires-2-clause-known : goal.reach_back-requires-2-clause-known
reach_back-requires-2-clause-known c =
    let of = c.args.stops.now.of in
    last_row of.closed.model.now of.d of.v of.list.now c.args.rows.now c.write_end.new.row
    _ (omega (arith, c.len-n.ensures.value)) c.requires.long c.in_ok-write_end.ensures

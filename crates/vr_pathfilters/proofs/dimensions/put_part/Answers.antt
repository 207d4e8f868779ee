use Rattle.std.proofs.Common.{◌<◌, length, set, ap, sym, subst, arith}
use Rattle.vr_model.specs.moves.Moves.{with_route}
use Rattle.vr_routes.specs.Pieces.{joined, part_at}
use Rattle.vr_reach.specs.KnownRows.{AreRowsIfUsed}
use Rattle.vr_pathfilters.specs.Known.{AreKnown}
use Rattle.vr_pathfilters.proofs.Knowing.{known_put, with_part_is}
use Rattle.vr_pathfilters.proofs.dimensions.put_part.Goals as goal

pub returns-clause-known : goal.returns-clause-known
returns-clause-known c = λ model d old before same are rows_are.
    let parts = c.args.change.now in
    let k = c.args.k in
    let known = c.args.known.now.items in
    let v = c.vehicle.result in
    let low : k < length parts = omega (arith, c.if-k-parts.false, c.parts.ensures.value) in
    let v_low : v < length known = (let h = c.requires.vehicle low in omega (arith, h, c.vehicle.ensures)) in
    let list = joined old (part_at parts k).pieces in
    let new = set known v c.swap.new.x in
    let put = known_put model d before known new v list c.args.rows.now are v_low (omega (arith, v_low, same))
    (subst (λ w. AreRowsIfUsed model d w list c.args.rows.now) (sym c.vehicle.ensures) (rows_are low)) (ap (set known v) c.swap.ensures.x_after) in
    subst (λ l. AreKnown model d l new) (sym (with_part_is old parts k before low))
    (subst (λ w. AreKnown model d (with_route before w list) new) c.vehicle.ensures put)

use Rattle.std.proofs.Common.{to_z, of_z, w64, length, ap, arith, pos}
use Rattle.vr_model.specs.tables.Tables.{no_dimension}
use Rattle.vr_reach.proofs.Tables.{capacity_read, tables_more, table_is_last, table_stays}
use Rattle.vr_reach.proofs.visits.table_for.Goals as goal

pub returns-clause-tables : goal.returns-clause-tables
returns-clause-tables c =
    let m = c.args.vehicle.closed.model.now in
    let x = c.get-capacity.result.now in
    let is = capacity_read m c.args.vehicle.closed.well_formed c.args.vehicle.d c.args.vehicle.v c.args.vehicle.dimension
    c.args.vehicle.vehicle c.get-dimension.result.now (c.get-dimension.ensures.value no_dimension) x (c.get-capacity.ensures.value (pos 0)) in
    rw (c.in_ok-push-2.ensures.ok, c.in_ok-push.ensures.ok)
    (tables_more m c.args.vehicle.d c.args.vehicle.v c.args.capacities.now c.args.tables.now
    (to_z w64 (of_z w64 x)) c.in_ok-visit_sets.field-0 c.requires is c.in_ok-visit_sets.ensures)

pub returns-clause-table : goal.returns-clause-table
returns-clause-table c =
    let m = c.args.vehicle.closed.model.now in
    let x = c.get-capacity.result.now in
    let is = capacity_read m c.args.vehicle.closed.well_formed c.args.vehicle.d c.args.vehicle.v c.args.vehicle.dimension
    c.args.vehicle.vehicle c.get-dimension.result.now (c.get-dimension.ensures.value no_dimension) x (c.get-capacity.ensures.value (pos 0)) in
    let all = ap length c.as_slice.ensures in
    rw c.in_ok-push-2.ensures.ok
    (table_is_last m c.args.vehicle.d c.args.vehicle.v c.place_of-k.result c.args.capacities.now
    (to_z w64 (of_z w64 x)) is (omega (arith, c.place_of-k.ensures.within, c.if-k-len.false, all, c.len.ensures)))

pub returns-clause-kept : goal.returns-clause-kept
returns-clause-kept c = λ w k is. rw c.in_ok-push-2.ensures.ok
    (table_stays c.args.vehicle.closed.model.now c.args.vehicle.d w k c.args.capacities.now (to_z w64 (of_z w64 c.get-capacity.result.now)) is)

use Rattle.std.proofs.Common.{refl}
use Rattle.vr_reach.proofs.Tables.{ends_for, has_table, table_there}
use Rattle.vr_reach.proofs.stops_of_list.asked_of.Goals as goal

pub of-visits-requires-clause-vehicle : goal.of-visits-requires-clause-vehicle
of-visits-requires-clause-vehicle c = has_table c.requires.stops

pub of-visits-requires-clause-table : goal.of-visits-requires-clause-table
of-visits-requires-clause-table c =
    let stops = c.args.stops.now in
    table_there stops.closed.model.now stops.d stops.v stops.of_dimension.now.visits c.requires.stops.are.visits c.requires.stops.vehicle

pub invariant_of-of : goal.invariant_of-of
invariant_of-of c = record { dimension = c.requires.stops.dimension; vehicle = c.requires.stops.vehicle; used = c.requires.used }

pub invariant_of-result : goal.invariant_of-result
invariant_of-result c = record {
  ends_are = (ends_for c.requires.stops c.index-ends.ensures).sets;
  sets_are = c.of-visits.ensures c.args.stops.now.closed.model.now c.args.stops.now.d c.requires.stops.are.visits;
}

pub returns : goal.returns
returns c = record {
  model_is = refl;
  d_is = refl;
  v_is = refl;
  list_is = refl;
  ends_are = ends_for c.requires.stops c.index-ends.ensures;
}

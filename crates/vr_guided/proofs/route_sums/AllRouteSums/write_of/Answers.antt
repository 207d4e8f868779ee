use Rattle.vr_guided.proofs.ListLemmas.{few_nodes, has_list}
use Rattle.vr_guided.proofs.route_sums.AllRouteSums.write_of.Goals as goal

pub list-requires : goal.list-requires
list-requires c = record { vehicle = has_list c.args.weights.closed.model.now c.args.routes.now.lists c.requires.valid c.if-v-len.true c.len.ensures }

pub invariant_of-list : goal.invariant_of-list
invariant_of-list c = record {
  few = few_nodes c.args.weights.closed.model.now c.args.routes.now.lists c.requires.valid c.args.weights.closed.well_formed c.args.v c.list.ensures.value;
}

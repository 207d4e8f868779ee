use Rattle.vr_rules.specs.Placing.{item_nodes}
use Rattle.vr_rules.proofs.FrontLemmas.{visits_after, visits_before}
use Rattle.vr_rules.proofs.fronts.Fronts.append.Goals as goal

pub invariant_of-longer : goal.invariant_of-longer
invariant_of-longer c =
    let model = c.args.closed.model.now in
    let nodes = item_nodes c.args.item in
    record {
      visits = visits_before model c.args.list.now nodes c.requires.driven.visits;
      item_visits = visits_after model c.args.list.now nodes c.requires.driven.visits;
    }

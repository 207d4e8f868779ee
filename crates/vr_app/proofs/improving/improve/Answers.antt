use Rattle.std.proofs.Common.{refl}
use Rattle.std.proofs.lemmas.Result.{IfOk-weaker}
use Rattle.vr_app.proofs.ImproveLemmas.{as_named}
use Rattle.vr_app.proofs.improving.improve.Goals as goal

pub returns-in-None : goal.returns-in-None
returns-in-None g c = as_named c.args.lookups.now.closed.model.now c.args.first.routes.lists
    c.in-None.is (record { ends = c.untried.ensures; told = record { heard = λ later. refl } })

pub returns-in-GreedyDescent : goal.returns-in-GreedyDescent
returns-in-GreedyDescent g c = IfOk-weaker c.descend_from.result _ _
    (λ best. as_named c.args.lookups.now.closed.model.now c.args.first.routes.lists c.in-GreedyDescent.is) c.descend_from.ensures

pub returns-in-GuidedLocalSearch : goal.returns-in-GuidedLocalSearch
returns-in-GuidedLocalSearch g c = IfOk-weaker c.guide_from.result _ _
    (λ best. as_named c.args.lookups.now.closed.model.now c.args.first.routes.lists c.in-GuidedLocalSearch.is) c.guide_from.ensures

pub returns-in-PathLns : goal.returns-in-PathLns
returns-in-PathLns g c = IfOk-weaker c.rebuild_from.result _ _
    (λ best. as_named c.args.lookups.now.closed.model.now c.args.first.routes.lists c.in-PathLns.is) c.rebuild_from.ensures

pub returns-in-TabuSearch : goal.returns-in-TabuSearch
returns-in-TabuSearch g c =
    IfOk-weaker c.tabu_from.result _ _ (λ best. as_named c.args.lookups.now.closed.model.now c.args.first.routes.lists c.in-TabuSearch.is) c.tabu_from.ensures

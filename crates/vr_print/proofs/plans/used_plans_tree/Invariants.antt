use Rattle.std.proofs.Common.{◌≡◌, map}
use Rattle.serde_json.specs.View.{view}
use Rattle.vr_model.specs.tables.Numbers.{below}
use Rattle.vr_model.specs.routes.Costs.{assigned}
use Rattle.vr_print.specs.Solution.{dimension_tree}
use Rattle.vr_print.proofs.plans.used_plans_tree.Given as goal

abbrev pub invariant-loop-d : goal.invariant-loop-d
invariant-loop-d l = map view l.trees.items
    ≡ map (dimension_tree l.of.closed.model.now (assigned l.of.closed.model.now l.of.routes.now.lists) l.of.v) (below l.d)

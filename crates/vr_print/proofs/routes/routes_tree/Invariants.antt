use Rattle.std.proofs.Common.{◌≡◌, map}
use Rattle.serde_json.specs.View.{view}
use Rattle.vr_model.specs.tables.Numbers.{below}
use Rattle.vr_model.specs.routes.Costs.{assigned}
use Rattle.vr_print.specs.Solution.{route_tree}
use Rattle.vr_print.proofs.routes.routes_tree.Given as goal

abbrev pub invariant-loop-v : goal.invariant-loop-v
invariant-loop-v l = map view l.trees.items ≡ map (route_tree l.closed.model.now (assigned l.closed.model.now l.routes.lists)) (below l.v)

use Rattle.std.proofs.Common.{arith}
use Rattle.std.proofs.lemmas.Grind.{common_steps}
use Rattle.vr_model.specs.routes.Costs.{assigned}
use Rattle.vr_print.specs.Solution.{route_tree}
use Rattle.vr_model.proofs.tables.Ranges.{map-below_more}
use Rattle.vr_print.proofs.routes.routes_tree.Goals as goal

pub loop-v-preserved : goal.loop-v-preserved
loop-v-preserved c =
    let more = map-below_more (route_tree c.args.closed.model.now (assigned c.args.closed.model.now c.args.routes.now.lists)) c.loop-v.v in
    grind (arith, common_steps)

use Rattle.std.proofs.Common.{arith}
use Rattle.std.proofs.lemmas.Grind.{common_steps}
use Rattle.vr_model.specs.routes.Costs.{assigned}
use Rattle.vr_print.specs.Solution.{dimension_tree}
use Rattle.vr_model.proofs.tables.Ranges.{map-below_more}
use Rattle.vr_print.proofs.plans.used_plans_tree.Goals as goal

pub loop-d-preserved : goal.loop-d-preserved
loop-d-preserved c =
    let more = map-below_more
    (dimension_tree c.args.of.now.closed.model.now (assigned c.args.of.now.closed.model.now c.args.of.now.routes.now.lists) c.args.of.now.v) c.loop-d.d in
    grind (arith, common_steps)

use Rattle.std.proofs.Common.{◌≡◌, ◌^◌, arith}
use Rattle.vr_check.proofs.Totalling.{one_more}
use Rattle.vr_printed.specs.Printed.{assignment_of}
use Rattle.vr_check.specs.Terms.{global_cost}
use Rattle.vr_check.proofs.spans.global_of.Goals as goal

pub loop-d-preserved : goal.loop-d-preserved
loop-d-preserved c =
    let value : c.global_cost-total.result ≡ global_cost c.args.solution.now.closed.model.now (assignment_of c.args.solution.now.routes.now) c.loop-d.d =
    c.global_cost-total.ensures.value in
    let few = c.args.solution.now.closed.well_formed.number_of_dimensions in
    one_more (global_cost c.args.solution.now.closed.model.now (assignment_of c.args.solution.now.routes.now)) (2 ^ 106) c.loop-d.d
    c.global_cost-total.result c.loop-d.invariant value c.global_cost-total.ensures.range (omega (arith, few, c.loop-d-test.true, c.len-d-end.ensures))

use Rattle.std.proofs.Common.{◌≡◌, ◌∙◌, ◌<◌, ◌^◌, arith, ap₂}
use Rattle.vr_check.proofs.Totalling.{one_more}
use Rattle.vr_check.specs.Asked.{stop_rows_of}
use Rattle.vr_check.specs.Terms.{soft_at}
use Rattle.vr_model.specs.routes.Costs.{row_cost}
use Rattle.vr_check.proofs.Widths.{narrow}
use Rattle.vr_check.proofs.softs.soft_of_plan.Goals as goal

pub loop-k-preserved : goal.loop-k-preserved
loop-k-preserved c =
    let value : c.row_cost-total.result ≡ soft_at (stop_rows_of c.args.of.now.asked) c.args.of.now.plan.now.cumuls c.loop-k.k =
    c.row_cost-total.ensures.value ∙ ap₂ row_cost c.row.ensures.value (narrow c.cumul_at.result c.cumul_at.type_inv ∙ c.cumul_at.ensures) in
    let few : c.loop-k.k < 1002 = omega (arith, c.loop-k-test.true, c.len-k-end.ensures, c.args.of.now.asked.known.few, c.args.of.now.fits.cumuls) in
    one_more (soft_at (stop_rows_of c.args.of.now.asked) c.args.of.now.plan.now.cumuls) (2 ^ 106) c.loop-k.k
    c.row_cost-total.result c.loop-k.invariant value c.row_cost-total.ensures.range (omega (arith, few))

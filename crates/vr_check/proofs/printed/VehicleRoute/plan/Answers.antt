use Rattle.std.proofs.Common.{sym, ap₂}
use Rattle.vr_printed.specs.Shape.{no_printed_plan}
use Rattle.vr_check.proofs.KeptLemmas.{line_kept, plan_fits}
use Rattle.vr_check.proofs.printed.VehicleRoute.plan.Goals as goal

pub invariant_of-asked : goal.invariant_of-asked
invariant_of-asked c =
    let on = c.args.self.now in
    record { known = line_kept on.closed.model.now on.v on.list.now on.route.now on.sound c.args.d c.requires on.closed.well_formed }

pub invariant_of-result : goal.invariant_of-result
invariant_of-result c =
    let on = c.args.self.now in
    record {
      fits =
          plan_fits on.closed.model.now on.v on.list.now on.route.now on.sound c.args.d c.requires c.get.result.now (c.get.ensures.value no_printed_plan);
    }

pub returns : goal.returns
returns c =
    let on = c.args.self.now in
    ap₂ (λ list plan. record { model = on.closed.model.now; d = c.args.d; v = on.v; list = list; printed = plan })
    on.sound.same (sym (c.get.ensures.value no_printed_plan))

use Rattle.std.proofs.Common.{◌≡◌, Some, sym, ◌∙◌, ap}
use Rattle.std.specs.Prelude.{unwrap_or}
use Rattle.std.specs.Option.{option_map}
use Rattle.vr_model.specs.routes.Costs.{no_plan}
use Rattle.vr_model.specs.schedules.Lines.{Line, line}
use Rattle.vr_model.specs.schedules.Narrowed.{chosen_under}
use Rattle.vr_model.specs.tables.Tables.{no_vehicle}
use Rattle.vr_plan.specs.Plans.{as_defined}
use Rattle.vr_print.proofs.plans.chosen_plan.Goals as goal

pub returns-in-Some : goal.returns-in-Some
returns-in-Some c =
    let defined : Line = line c.args.closed.model.now c.args.d c.args.v c.args.list.now in
    let found : option_map as_defined (Some c.in-Some.plan) ≡ chosen_under c.get.result.now.schedule defined =
    ap (option_map as_defined) (sym c.in-Some.is) ∙ c.in_ok-plan.ensures.chosen defined c.in_ok-line.ensures.exact in
    let rule = ap (λ vehicle. vehicle.schedule) (sym (c.get.ensures.value no_vehicle)) in
    ap (λ plan. unwrap_or plan no_plan) (found ∙ ap (λ rule. chosen_under rule defined) rule)

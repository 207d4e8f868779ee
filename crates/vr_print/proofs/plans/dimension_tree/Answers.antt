use Rattle.std.proofs.Common.{◌∙◌, sym, ap, ap₂}
use Rattle.std.proofs.lemmas.Result.{IfOk-weaker}
use Rattle.std.specs.List.{list_all}
use Rattle.vr_model.specs.routes.Routes.{is_distinct}
use Rattle.vr_model.specs.tables.Tables.{is_visit, no_dimension}
use Rattle.vr_model.specs.routes.Costs.{no_plan}
use Rattle.vr_model.specs.schedules.Choices.{chosen}
use Rattle.vr_model.specs.schedules.Narrowed.{chosen_line}
use Rattle.std.specs.Prelude.{unwrap_or}
use Rattle.vr_model.proofs.routes.Lists.{route-visits, route-distinct}
use Rattle.vr_print.specs.Solution.{plan_tree}
use Rattle.vr_print.proofs.TreeLemmas.{plan-at}
use Rattle.vr_print.proofs.plans.dimension_tree.Goals as goal

pub chosen_plan-requires-clause-visits : goal.chosen_plan-requires-clause-visits
chosen_plan-requires-clause-visits c =
    ap (list_all (is_visit c.args.of.now.closed.model.now)) c.list.ensures.value
    ∙ route-visits c.args.of.now.closed.model.now c.args.of.now.routes.now.lists c.args.of.now.v c.args.of.now.lists

pub chosen_plan-requires-clause-distinct : goal.chosen_plan-requires-clause-distinct
chosen_plan-requires-clause-distinct c =
    ap is_distinct c.list.ensures.value ∙ route-distinct c.args.of.now.closed.model.now c.args.of.now.routes.now.lists c.args.of.now.v c.args.of.now.lists

pub returns : goal.returns
returns c =
    let model = c.args.of.now.closed.model.now in
    let plan = c.in_ok-plan.ensures ∙ ap (λ list. unwrap_or (chosen (chosen_line model c.args.d c.args.of.now.v list)) no_plan) c.list.ensures.value
    ∙ sym (plan-at model c.args.of.now.routes.now.lists c.args.d c.args.of.now.v c.requires.dimension c.args.of.now.vehicle c.requires.used) in
    IfOk-weaker c.plan_tree.result _ _ (λ tree is. is ∙ ap₂ plan_tree (sym (c.get.ensures.value no_dimension)) plan) c.plan_tree.ensures

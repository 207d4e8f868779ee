use Rattle.std.proofs.Common.{◌≡◌, ◌∙◌, ℕ, List, ap, arith, length, w64, to_z, of_z}
use Rattle.std.specs.Prelude.{filter, not}
use Rattle.std.proofs.lemmas.Int.{ints, to_z-of_z}
use Rattle.vr_model.specs.routes.Costs.{cost}
use Rattle.vr_model.specs.routes.Routes.{is_active}
use Rattle.vr_model.specs.tables.Tables.{visits}
use Rattle.vr_model.proofs.routes.CostFits.{costs_are_bounded}
use Rattle.vr_app.specs.Texts.{used}
use Rattle.vr_app.proofs.SolutionLemmas.{summary-is}
use Rattle.vr_app.proofs.numbered.summary_of.Goals as goal

pub returns : goal.returns
returns c = λ found is.
    let model = c.args.lookups.now.closed.model.now in
    let lists : List (List ℕ) = c.args.best.now.routes.lists in
    let bounds = costs_are_bounded model c.args.lookups.now.closed.well_formed lists c.requires.valid in
    let total : to_z w64 (of_z w64 c.in_ok-cost.cost) ≡ cost model lists = omega (arith, ints, c.in_ok-cost.ensures, bounds.least, bounds.greatest) in
    let idle : List ℕ → List (List ℕ) → List ℕ = λ nodes lists. filter (λ node. not (is_active lists node)) nodes in
    let dropped = ap length (c.inactive.ensures.value ∙ ap (λ nodes. idle nodes lists) is.ends.visits_are ∙ ap (idle (visits model)) is.ends.best_is) in
    summary-is c.args.number model found _ _ _ _ _ (total ∙ ap (cost model) is.ends.best_is)
    (to_z-of_z w64 c.args.first_cost c.ranges.first_cost ∙ is.first_cost_is) dropped
    (c.used.ensures ∙ ap used is.ends.best_is) (ap (λ report. report.tries) is.ends.report_is)

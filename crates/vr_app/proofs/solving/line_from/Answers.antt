use Rattle.std.proofs.Common.{◌≡◌, ◌∙◌, ap, arith, w64, to_z, of_z}
use Rattle.std.proofs.lemmas.Int.{ints}
use Rattle.std.proofs.lemmas.Result.{IfOk-weaker}
use Rattle.vr_json.specs.Trees.{text_line}
use Rattle.vr_model.specs.routes.Costs.{cost}
use Rattle.vr_model.specs.routes.Rules.{is_valid}
use Rattle.vr_model.proofs.routes.CostFits.{costs_are_bounded}
use Rattle.vr_print.specs.Solution.{solution_tree}
use Rattle.vr_app.specs.Found.{line_of_found, searched}
use Rattle.vr_app.proofs.SolutionLemmas.{searched-sound}
use Rattle.vr_app.proofs.solving.line_from.Goals as goal

pub search-requires-clause-first_cost : goal.search-requires-clause-first_cost
search-requires-clause-first_cost g c =
    let model = c.args.lookups.now.closed.model.now in
    let lists = c.args.first.lists in
    let bounds = costs_are_bounded model c.args.lookups.now.closed.well_formed lists c.requires.valid in
    omega (arith, ints, c.in_ok-first_cost.ensures, bounds.least, bounds.greatest)

pub solution_line_over-requires : goal.solution_line_over-requires
solution_line_over-requires g c =
    let model = c.args.lookups.now.closed.model.now in
    let sound = searched-sound c.args.mode model c.args.first.lists c.args.lookups.now.closed.well_formed c.requires.valid in
    record { valid = ap (is_valid model) c.in_ok-found.ensures.ends.best_is ∙ sound.valid }

pub returns-clause-line : goal.returns-clause-line
unfolding line_of_found
returns-clause-line g c =
    let model = c.args.lookups.now.closed.model.now in
    let first = c.args.first.lists in
    let end = searched c.args.mode model first in
    let found = c.in_ok-found.found in
    let ends = c.in_ok-found.ensures.ends in
    let bounds = costs_are_bounded model c.args.lookups.now.closed.well_formed first c.requires.valid in
    let sum : to_z w64 (of_z w64 c.in_ok-first_cost.first_cost) ≡ cost model first =
    omega (arith, ints, c.in_ok-first_cost.ensures, bounds.least, bounds.greatest) in
    IfOk-weaker c.solution_line_over.result _ _ (λ line is. is
    ∙ ap (λ lists. text_line (solution_tree model lists (to_z w64 (of_z w64 c.in_ok-first_cost.first_cost)) found.report)) ends.best_is
    ∙ ap (λ z. text_line (solution_tree model end.best z found.report)) sum
    ∙ ap (λ report. text_line (solution_tree model end.best (cost model first) report)) ends.report_is) c.solution_line_over.ensures.text

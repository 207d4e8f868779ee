use Rattle.std.proofs.Common.{◌≡◌, ◌∙◌, ap, arith, w64, to_z, of_z}
use Rattle.std.proofs.lemmas.Int.{ints}
use Rattle.vr_model.specs.routes.Costs.{cost}
use Rattle.vr_model.specs.routes.Rules.{is_valid}
use Rattle.vr_model.proofs.routes.CostFits.{costs_are_bounded}
use Rattle.vr_app.specs.Found.{found_from}
use Rattle.vr_app.specs.declared.words.Mode.TheVariants as mode
use Rattle.vr_given.proofs.BeginLemmas.{first_lists-valid}
use Rattle.vr_app.proofs.SolutionLemmas.{improved-sound}
use Rattle.vr_app.proofs.demo.summary_of_first.Goals as goal

pub total_over-requires : goal.total_over-requires
total_over-requires c = first_lists-valid c.args.lookups.now.closed.model.now c.args.first.lists c.requires.first

pub search_unwatched-requires-clause-valid : goal.search_unwatched-requires-clause-valid
search_unwatched-requires-clause-valid c = first_lists-valid c.args.lookups.now.closed.model.now c.args.first.lists c.requires.first

pub search_unwatched-requires-clause-first_cost : goal.search_unwatched-requires-clause-first_cost
search_unwatched-requires-clause-first_cost c =
    let model = c.args.lookups.now.closed.model.now in
    let lists = c.args.first.lists in
    let bounds = costs_are_bounded model c.args.lookups.now.closed.well_formed lists (first_lists-valid model lists c.requires.first) in
    omega (arith, ints, c.in_ok-first_cost.ensures, bounds.least, bounds.greatest)

pub summarised-requires : goal.summarised-requires
summarised-requires c =
    let model = c.args.lookups.now.closed.model.now in
    let sound = improved-sound model.search.improve model c.args.first.lists
    c.args.lookups.now.closed.well_formed (first_lists-valid model c.args.first.lists c.requires.first) in
    record { valid = ap (is_valid model) c.in_ok-best.ensures.ends.best_is ∙ sound.valid }

pub returns-clause-reply : goal.returns-clause-reply
returns-clause-reply c =
    let model = c.args.lookups.now.closed.model.now in
    let first = c.args.first.lists in
    let ends = c.in_ok-best.ensures.ends in
    let bounds = costs_are_bounded model c.args.lookups.now.closed.well_formed first (first_lists-valid model first c.requires.first) in
    let first_cost : to_z w64 (of_z w64 c.in_ok-first_cost.first_cost) ≡ cost model first =
    omega (arith, ints, c.in_ok-first_cost.ensures, bounds.least, bounds.greatest) in
    c.summarised.ensures.reply (found_from mode.Solve model first) (record {
      ends = record { best_is = ends.best_is; report_is = ends.report_is; visits_are = ends.visits_are ∙ c.requires.of_model };
      first_cost_is = first_cost;
    })

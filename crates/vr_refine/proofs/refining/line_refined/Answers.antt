use Rattle.std.proofs.Common.{◌≡◌, ◌∙◌, ap, arith, of_z, subst, to_z, w64}
use Rattle.std.specs.Prelude.{option_map}
use Rattle.std.proofs.lemmas.Int.{ints}
use Rattle.vr_json.specs.Trees.{text_line}
use Rattle.vr_model.proofs.routes.CostFits.{costs_are_bounded}
use Rattle.vr_model.specs.routes.Rules.{is_valid}
use Rattle.vr_print.specs.Solution.{solution_tree}
use Rattle.vr_watch.specs.Told.{Reported}
use Rattle.vr_app.specs.Improved.{limit_of}
use Rattle.vr_ruin.specs.Answers.{answer_of}
use Rattle.vr_ruin.specs.Refining.{refined, refined_search}
use Rattle.vr_ruin.proofs.AnswerLemmas.{refining_is_sound}
use Rattle.vr_refine.specs.Wishes.{asked_for}
use Rattle.vr_refine.proofs.RefineLemmas.{line_is, of_answer}
use Rattle.vr_refine.proofs.refining.line_refined.Goals as goal

pub solution_line_over-requires : goal.solution_line_over-requires
solution_line_over-requires g c =
    let model = c.args.lookups.now.closed.model.now in
    let lists = c.args.routes.now.lists in
    let limit = limit_of model in
    let asked = asked_for c.args.wish in
    let well_formed = c.args.lookups.now.closed.well_formed in
    let is = of_answer model (refined model lists limit asked) c.in_ok-refine_over.field-0 c.in-Some.found c.in-Some.is
    (c.in_ok-refine_over.ensures.answer
    ∙ (λ i. option_map (answer_of model) (refined model lists (c.limit_of-limit.ensures.limit i) (c.asked_for.ensures i)))) in
    record {
      valid = ap (is_valid model) is.best
          ∙ (refining_is_sound model lists limit asked is.rest well_formed c.requires.routes.built
          well_formed.search_in_range.solutions_in_range.0 is.is).best_valid;
    }

pub returns-in-None-clause-told : goal.returns-in-None-clause-told
returns-in-None-clause-told g c =
    let model = c.args.lookups.now.closed.model.now in
    subst (Reported (λ w. (goal.Watch-dyn g (w.vtable, w.value)).after w.value) c.args.watch.now.items c.refine_over.new.watch.items)
    (λ i. (refined_search model c.args.routes.now.lists (c.limit_of-limit.ensures.limit i) (c.asked_for.ensures i)).outcome.events)
    c.in_ok-refine_over.ensures.told

pub returns-in_ok-line-in-Some-clause-told : goal.returns-in_ok-line-in-Some-clause-told
returns-in_ok-line-in-Some-clause-told g c =
    let model = c.args.lookups.now.closed.model.now in
    subst (Reported (λ w. (goal.Watch-dyn g (w.vtable, w.value)).after w.value) c.args.watch.now.items c.refine_over.new.watch.items)
    (λ i. (refined_search model c.args.routes.now.lists (c.limit_of-limit.ensures.limit i) (c.asked_for.ensures i)).outcome.events)
    c.in_ok-refine_over.ensures.told

pub returns-in_ok-line-in-Some-clause-line : goal.returns-in_ok-line-in-Some-clause-line
returns-in_ok-line-in-Some-clause-line g c =
    let model = c.args.lookups.now.closed.model.now in
    let lists = c.args.routes.now.lists in
    let limit = limit_of model in
    let asked = asked_for c.args.wish in
    let well_formed = c.args.lookups.now.closed.well_formed in
    let answer = c.in-Some.found in
    let is = of_answer model (refined model lists limit asked) c.in_ok-refine_over.field-0 answer c.in-Some.is
    (c.in_ok-refine_over.ensures.answer
    ∙ (λ i. option_map (answer_of model) (refined model lists (c.limit_of-limit.ensures.limit i) (c.asked_for.ensures i)))) in
    let first_valid = (refining_is_sound model lists limit asked is.rest well_formed
    c.requires.routes.built well_formed.search_in_range.solutions_in_range.0 is.is).first_valid in
    let bounds = costs_are_bounded model well_formed is.rest.first first_valid in
    let read : to_z w64 (of_z w64 answer.first_cost) ≡ answer.first_cost = omega (arith, ints, is.first_cost, bounds.least, bounds.greatest) in
    line_is model (refined model lists limit asked) answer c.in_ok-line-in-Some.line is
    (c.in_ok-line-in-Some.ensures.text ∙ ap (λ z. text_line (solution_tree model answer.routes.lists z answer.report)) read)

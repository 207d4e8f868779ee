use Rattle.std.proofs.Common.{◌≡◌, ◌∙◌, ◌≤◌, [], sym, subst}
use Rattle.std.specs.Prelude.{◌≤ℤ◌, IfOk, IsTrue, OnErr}
use Rattle.std.proofs.lemmas.Result.{IfOk-weaker}
use Rattle.vr_model.specs.declared.records.Report.{Report}
use Rattle.vr_model.specs.routes.Costs.{cost}
use Rattle.vr_model.specs.routes.Rules.{is_valid}
use Rattle.vr_model.proofs.tables.Refusals.{on_err}
use Rattle.vr_watch.specs.Told.{ReportedInPart}
use Rattle.vr_watch.proofs.ToldLemmas.{none_behind, told_nothing}
use Rattle.vr_descent.specs.Ending.{HasEnded}
use Rattle.vr_lns.specs.Answering.{IsSoundAtLast}
use Rattle.vr_lns.specs.Ending.{SearchEndsAs}
use Rattle.vr_lns.specs.PathLns.{path_lns}
use Rattle.vr_lns.proofs.AnswerLemmas.{path_lns_is_sound}
use Rattle.vr_lns.proofs.searching.lns_over.Given.{Over}
use Rattle.vr_lns.proofs.searching.lns_over.Goals.{After-search}
use Rattle.vr_lns.proofs.searching.lns_over.Goals as goal

-- the search ends as the definition does
abbrev Ends : (g : Over) (c : After-search g) → Report → Type 0
Ends g c = SearchEndsAs (λ w. (goal.Watch-dyn g (w.vtable, w.value)).after w.value)
    (path_lns c.args.lookups.now.closed.model.now c.args.routes.now.lists c.args.limit c.args.cut)
    c.search.new.routes.lists c.args.watch.now.items c.search.new.watch.items

ends : (g : Over) (c : After-search g) → IfOk c.search.result (Ends g c)
ends g c = subst (λ k. IfOk c.search.result
    (SearchEndsAs (λ w. (goal.Watch-dyn g (w.vtable, w.value)).after w.value) (path_lns k.model c.args.routes.now.lists c.args.limit k.most)
    c.search.new.routes.lists c.args.watch.now.items c.search.new.watch.items)) c.in_ok-cutting.ensures c.search.ensures.ends

-- what the definition gives is sound
sound : (g : Over) (c : After-search g) → IsSoundAtLast c.args.lookups.now.closed.model.now c.args.routes.now.lists
    c.args.limit (path_lns c.args.lookups.now.closed.model.now c.args.routes.now.lists c.args.limit c.args.cut)
sound g c = path_lns_is_sound c.args.lookups.now.closed.model.now c.args.routes.now.lists c.args.limit c.args.cut c.requires.valid c.requires.limit.one_solution

pub returns-in_err-cutting-clause-told_in_part : goal.returns-in_err-cutting-clause-told_in_part
returns-in_err-cutting-clause-told_in_part g c =
    on_err c.from_residual.result (none_behind (λ w. (goal.Watch-dyn g (w.vtable, w.value)).after w.value) _ _ [] _ (told_nothing _ _))

pub returns-clause-ended : goal.returns-clause-ended
returns-clause-ended g c =
    let here = (goal.at.returns-clause-ended g c).After-search in
    let model = c.args.lookups.now.closed.model.now in
    let lists = c.args.routes.now.lists in
    let limit = c.args.limit in
    let at = sound g here in
    IfOk-weaker c.search.result (Ends g here)
    (λ report. HasEnded (λ w. (goal.Watch-dyn g (w.vtable, w.value)).after w.value) model limit (path_lns model lists limit c.args.cut)
    c.args.routes.now c.search.new.routes c.args.watch.now.items c.search.new.watch.items report c.search.new.routes)
    (λ report e. let best = e.lists_are ∙ at.last_is_best in record {
      report = e.report_is;
      last = e.lists_are;
      best = best;
      told = e.told;
      no_more_tries = subst (λ r. r.tries ≤ limit.tries) (sym e.report_is) at.sound.tries;
      some_solution = subst (λ r. 1 ≤ r.solutions) (sym e.report_is) at.sound.some_solution;
      no_more_solutions = subst (λ r. r.solutions ≤ limit.solutions) (sym e.report_is) at.sound.solutions;
      best_is_valid = subst (λ ls. IsTrue (is_valid model ls)) (sym best) at.sound.best_valid;
      same_visits = c.search.ensures.of_model;
      no_dearer = subst (λ ls. cost model ls ≤ℤ cost model lists) (sym best) at.sound.no_dearer;
    }) (ends g here)

pub returns-clause-told_in_part : goal.returns-clause-told_in_part
returns-clause-told_in_part g c =
    subst (λ k. OnErr c.search.result
    (ReportedInPart (λ w. (goal.Watch-dyn g (w.vtable, w.value)).after w.value) c.args.watch.now.items c.search.new.watch.items
    (path_lns k.model c.args.routes.now.lists c.args.limit k.most).events)) c.in_ok-cutting.ensures c.search.ensures.told_in_part

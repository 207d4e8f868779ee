use Rattle.std.proofs.Common.{◌≡◌, ◌∙◌, ◌+◌, ◌-◌, [], ◌∷◌, refl, sym, ap, ap₂, subst, arith}
use Rattle.vr_model.specs.moves.Moves.{apply}
use Rattle.std.specs.Prelude.{IsTrue}
use Rattle.vr_model.specs.moves.MoveTests.{is_move}
use Rattle.vr_model.specs.routes.Costs.{cost}
use Rattle.vr_model.specs.routes.Rules.{is_valid}
use Rattle.vr_routes.specs.Changes.{IsChange}
use Rattle.vr_routes.specs.Judging.{cost_change}
use Rattle.vr_model.proofs.routes.Lists.{are-lists}
use Rattle.vr_descent.specs.declared.progress.Progress.{Progress}
use Rattle.vr_model.specs.search.Outcomes.{cheaper}
use Rattle.vr_model.proofs.tables.Refusals.{on_err}
use Rattle.vr_model.proofs.tables.Tests.{apart}
use Rattle.vr_descent.specs.Incumbents.{kept}
use Rattle.vr_descent.specs.Searching.{after_move, move_event}
use Rattle.vr_descent.proofs.AskingLemmas.{on_by, on_same}
use Rattle.vr_descent.proofs.IncumbentLemmas.{kept_lists}
use Rattle.vr_watch.specs.Told.{Reported, ReportedInPart}
use Rattle.vr_watch.proofs.ToldLemmas.{none_behind, told_nothing}
use Rattle.vr_tabu.specs.Rounds.{tries_of, IsChangeOfBest}
use Rattle.vr_tabu.specs.TabuSearches.{next_round}
use Rattle.vr_tabu.proofs.PartFacts.{change_keeps_lists}
use Rattle.vr_tabu.specs.Standing.{next_events, next_of}
use Rattle.vr_tabu.specs.Tabus.{tabus_of}
use Rattle.vr_tabu.specs.TabuSearches.TabuRound.{Best}
use Rattle.vr_tabu.proofs.AdvanceLemmas.{after_best, after_cut, after_stuck, events_are, of_best, of_cut, of_stuck}
use Rattle.vr_tabu.proofs.SearchLemmas.{IsLeastCandidate, best_where}
use Rattle.vr_tabu.proofs.searching.State.advance.Given.{Over}
use Rattle.vr_tabu.proofs.searching.State.advance.Goals.{After-follow, In-Best, In_ok-take-in-Best}
use Rattle.vr_tabu.proofs.searching.State.advance.Goals as goal

-- the best candidate is that of the round, and it is the least
best : (g : Over) (c : In-Best g)
    → (next_of c.args.closed.model.now c.args.parameters c.args.routes.now.lists c.args.self.now) ≡ Best c.in-Best.length c.in-Best.candidate.mv
best g c =
    (of_best c.args.closed.model.now c.args.routes.now.lists (next_of c.args.closed.model.now c.args.parameters c.args.routes.now.lists c.args.self.now)
    c.in-Best.length c.in-Best.candidate (sym c.in-Best.is ∙ c.in_ok-ended.ensures.ends)).0

least : (g : Over) (c : In-Best g) → IsLeastCandidate c.args.closed.model.now (tabus_of c.args.self.now.tabus) c.args.self.now.best.routes.lists
    c.args.routes.now.lists (c.args.parameters.limit.tries - c.args.self.now.at.used) c.in-Best.length c.in-Best.candidate.mv
least g c = best_where c.args.closed.model.now (tabus_of c.args.self.now.tabus) c.args.self.now.best.routes.lists
    c.args.routes.now.lists (c.args.parameters.limit.tries - c.args.self.now.at.used) c.in-Best.length c.in-Best.candidate.mv (best g c)

pub returns-in_err-ended-clause-told_in_part : goal.returns-in_err-ended-clause-told_in_part
returns-in_err-ended-clause-told_in_part g c =
    on_err c.from_residual.result (none_behind (λ w. (goal.Watch-dyn g (w.vtable, w.value)).after w.value) _ _ [] _ (told_nothing _ _))

-- what the best candidate changes, and where that is made
changes : (g : Over) (c : In-Best g) → IsChange c.args.closed.model.now c.args.routes.now.lists c.in-Best.candidate.mv c.run_round.new.kept
changes g c = subst (λ ended. IsChangeOfBest c.args.closed.model.now c.args.routes.now.lists ended c.run_round.new.kept) c.in-Best.is c.in_ok-ended.ensures.kept

pub invariant_of-lists : goal.invariant_of-lists
invariant_of-lists g c =
    let here = (goal.at.invariant_of-lists g c).In-Best in
    let model = c.args.closed.model.now in
    let lists = c.args.routes.now.lists in
    let valid = c.requires.stands.going.holds.valid in
    record {
      before = are-lists model lists valid;
      after = change_keeps_lists model lists c.run_round.new.kept c.args.closed.well_formed valid c.in-Best.candidate.mv (least g here).is_one (changes g here);
    }

pub follow-requires-clause-made : goal.follow-requires-clause-made
follow-requires-clause-made g c =
    let here = (goal.at.follow-requires-clause-made g c).In-Best in
    record {
      model = c.args.closed.model.now;
      mv = c.in-Best.candidate.mv;
      well_formed = c.args.closed.well_formed;
      visits_are = sym c.requires.stands.going.holds.of_model;
      is_one = (least g here).is_one;
      makes = changes g here;
    }

pub take-requires-clause-mv : goal.take-requires-clause-mv
take-requires-clause-mv g c =
    let same = c.in_ok-ended.ensures.keeps.model ∙ c.requires.judge_model in
    subst (λ m. IsTrue (is_move m c.args.routes.now.lists c.in-Best.candidate.mv)) (sym same) (least g (goal.at.take-requires-clause-mv g c).In-Best).is_one

pub take-requires-clause-change : goal.take-requires-clause-change
take-requires-clause-change g c =
    let same = c.in_ok-ended.ensures.keeps.model ∙ c.requires.judge_model in
    subst (λ m. IsChange m c.args.routes.now.lists c.in-Best.candidate.mv c.run_round.new.kept)
    (sym same) (changes g (goal.at.take-requires-clause-change g c).In-Best)

pub take-requires-clause-valid : goal.take-requires-clause-valid
take-requires-clause-valid g c =
    let same = c.in_ok-ended.ensures.keeps.model ∙ c.requires.judge_model in
    subst (λ m. IsTrue (is_valid m (apply m c.args.routes.now.lists c.in-Best.candidate.mv)))
    (sym same) (least g (goal.at.take-requires-clause-valid g c).In-Best).valid

pub take-requires-clause-known : goal.take-requires-clause-known
take-requires-clause-known g c =
    let same = c.in_ok-ended.ensures.keeps.model ∙ c.requires.judge_model in
    (of_best c.args.closed.model.now c.args.routes.now.lists (next_of c.args.closed.model.now c.args.parameters c.args.routes.now.lists c.args.self.now)
    c.in-Best.length c.in-Best.candidate (sym c.in-Best.is ∙ c.in_ok-ended.ensures.ends)).1
    ∙ ap (λ m. cost_change m c.args.routes.now.lists c.in-Best.candidate.mv) (sym same)

-- what is told of the move are the events of the round
event : (g : Over) (c : After-follow g)
    → next_of c.args.closed.model.now c.args.parameters c.args.routes.now.lists c.args.self.now ≡ Best c.in-Best.length c.in-Best.candidate.mv
    → move_event (g.J.Judge.model c.run_round.new.judge) c.args.routes.now.lists c.in-Best.candidate.mv (c.args.self.now.at.used + c.in-Best.length) ∷ []
    ≡ next_events c.args.closed.model.now c.args.parameters c.args.routes.now.lists c.args.self.now
event g c is =
    ap (λ m. move_event m c.args.routes.now.lists c.in-Best.candidate.mv (c.args.self.now.at.used + c.in-Best.length) ∷ [])
    (c.in_ok-ended.ensures.keeps.model ∙ c.requires.judge_model)
    ∙ events_are c.args.closed.model.now c.args.parameters c.args.routes.now.lists c.args.self.now (Best c.in-Best.length c.in-Best.candidate.mv) is

-- where the search stands then
stands : (g : Over) (c : In_ok-take-in-Best g)
    → c.take.new.self.at ≡ after_move c.args.closed.model.now c.args.routes.now.lists c.in-Best.candidate.mv c.in-Best.length c.args.self.now.at
stands g c =
    let same = c.in_ok-ended.ensures.keeps.model ∙ c.requires.judge_model in
    c.in_ok-take-in-Best.ensures.at ∙ ap (λ m. after_move m c.args.routes.now.lists c.in-Best.candidate.mv c.in-Best.length c.args.self.now.at) same

pub returns-in_err-take-in-Best-clause-told_in_part : goal.returns-in_err-take-in-Best-clause-told_in_part
returns-in_err-take-in-Best-clause-told_in_part g c =
    let at = goal.at.returns-in_err-take-in-Best-clause-told_in_part g c in
    on_err c.from_residual-in_err-take-in-Best.result
    (subst (λ es. ReportedInPart (λ w. (goal.Watch-dyn g (w.vtable, w.value)).after w.value) c.args.watch.now.items c.take.new.watch.items es)
    (event g at.After-follow (best g at.In-Best)) c.in_err-take-in-Best.ensures.told_in_part)

pub returns-in_ok-take-in-Best-clause-told : goal.returns-in_ok-take-in-Best-clause-told
returns-in_ok-take-in-Best-clause-told g c =
    let at = goal.at.returns-in_ok-take-in-Best-clause-told g c in
    subst (λ es. Reported (λ w. (goal.Watch-dyn g (w.vtable, w.value)).after w.value) c.args.watch.now.items c.take.new.watch.items es)
    (event g at.After-follow (best g at.In-Best)) c.in_ok-take-in-Best.ensures.told

pub returns-in_ok-take-in-Best-clause-outcome : goal.returns-in_ok-take-in-Best-clause-outcome
returns-in_ok-take-in-Best-clause-outcome g c =
    let at = goal.at.returns-in_ok-take-in-Best-clause-outcome g c in
    let model = c.args.closed.model.now in
    let lists = c.args.routes.now.lists in
    let state = c.args.self.now in
    let mv = c.in-Best.candidate.mv in
    let new = c.take.new.self in
    let taken = c.in_ok-take-in-Best.ensures in
    let same = c.in_ok-ended.ensures.keeps.model ∙ c.requires.judge_model in
    let lists_new : c.take.new.routes.lists ≡ apply model lists mv = ap (λ r. r.lists) taken.routes ∙ ap (λ m. apply m lists mv) same in
    let tabus_new = ap tabus_of taken.tabus
    ∙ (c.follow.ensures.next
    ∙ ap (λ after. next_round model c.args.parameters.tenure lists after (tabus_of state.tabus)) (changes g at.In-Best).lists_are) in
    let best_new : new.best ≡ kept state.best c.take.new.routes (cost model c.take.new.routes.lists) = taken.best
    ∙ ap (λ m. kept state.best c.take.new.routes (cost m c.take.new.routes.lists)) same in
    let kept_new : new.best.routes.lists ≡ cheaper model state.best.routes.lists (apply model lists mv)
    = ap (λ b. b.routes.lists) best_new
    ∙ (kept_lists model state.best c.take.new.routes (cost model c.take.new.routes.lists) c.requires.stands.going.best.costs refl
    ∙ ap (cheaper model state.best.routes.lists) lists_new) in
    after_best model c.args.parameters lists state (apart c.args.self.now.at.found c.args.parameters.limit.solutions c.requires.more)
    c.in-Best.length mv (best g at.In-Best) new c.take.new.routes.lists tabus_new lists_new kept_new (stands g at.In_ok-take-in-Best)

pub returns-in-Stuck-clause-outcome : goal.returns-in-Stuck-clause-outcome
returns-in-Stuck-clause-outcome g c =
    after_stuck c.args.closed.model.now c.args.parameters c.args.routes.now.lists c.args.self.now
    (apart c.args.self.now.at.found c.args.parameters.limit.solutions c.requires.more) c.in-Stuck.length
    (of_stuck c.args.closed.model.now c.args.routes.now.lists (next_of c.args.closed.model.now c.args.parameters c.args.routes.now.lists c.args.self.now)
    c.in-Stuck.length (sym c.in-Stuck.is ∙ c.in_ok-ended.ensures.ends))

pub returns-in-Cut-clause-outcome : goal.returns-in-Cut-clause-outcome
returns-in-Cut-clause-outcome g c =
    after_cut c.args.closed.model.now c.args.parameters c.args.routes.now.lists c.args.self.now
    (apart c.args.self.now.at.found c.args.parameters.limit.solutions c.requires.more)
    (of_cut c.args.closed.model.now c.args.routes.now.lists (next_of c.args.closed.model.now c.args.parameters c.args.routes.now.lists c.args.self.now)
    (sym c.in-Cut.is ∙ c.in_ok-ended.ensures.ends)) c.requires.stands.going.used

-- ---- how often the judge was asked

pub returns-in_err-ended-clause-asked_at_most : goal.returns-in_err-ended-clause-asked_at_most
returns-in_err-ended-clause-asked_at_most g c =
    on_err c.from_residual.result (on_by _ _ _ _ _ c.in_err-ended.ensures.asked_at_most (omega (arith, c.requires.stands.going.used)))

pub returns-in_err-take-in-Best-clause-asked_at_most : goal.returns-in_err-take-in-Best-clause-asked_at_most
returns-in_err-take-in-Best-clause-asked_at_most g c =
    let within = (least g (goal.at.returns-in_err-take-in-Best-clause-asked_at_most g c).In-Best).within in
    let tries = ap (tries_of (c.args.parameters.limit.tries - c.args.self.now.at.used)) c.in-Best.is in
    on_err c.from_residual-in_err-take-in-Best.result
    (on_same _ _ _ _ _ (on_by _ _ _ _ _ c.in_ok-ended.ensures.asked (omega (arith, tries, within, c.requires.stands.going.used)))
    c.in_err-take-in-Best.ensures.asked c.in_err-take-in-Best.ensures.looked)

pub returns-in_ok-take-in-Best-clause-asked : goal.returns-in_ok-take-in-Best-clause-asked
returns-in_ok-take-in-Best-clause-asked g c =
    let taken = c.in_ok-take-in-Best.ensures in
    let tries = ap (tries_of (c.args.parameters.limit.tries - c.args.self.now.at.used)) c.in-Best.is in
    let used = ap (λ p. p.used) (stands g (goal.at.returns-in_ok-take-in-Best-clause-asked g c).In_ok-take-in-Best) in
    on_same _ _ _ _ _ (on_by _ _ _ _ _ c.in_ok-ended.ensures.asked (omega (arith, tries, used))) taken.asked taken.looked

pub returns-in-Stuck-clause-asked : goal.returns-in-Stuck-clause-asked
returns-in-Stuck-clause-asked g c =
    on_by _ _ _ _ _ c.in_ok-ended.ensures.asked (omega (arith, ap (tries_of (c.args.parameters.limit.tries - c.args.self.now.at.used)) c.in-Stuck.is))

pub returns-in-Cut-clause-asked : goal.returns-in-Cut-clause-asked
returns-in-Cut-clause-asked g c =
    on_by _ _ _ _ _ c.in_ok-ended.ensures.asked
    (omega (arith, c.requires.stands.going.used, ap (tries_of (c.args.parameters.limit.tries - c.args.self.now.at.used)) c.in-Cut.is))

use Rattle.std.proofs.Common.{[], refl, ap, arith}
use Rattle.std.proofs.lemmas.Int.{ints}
use Rattle.vr_model.specs.declared.records.End.TheVariants.{Solutions}
use Rattle.vr_model.specs.deciding.Testing.{test_of_eq}
use Rattle.vr_model.proofs.tables.Refusals.{on_err}
use Rattle.vr_watch.proofs.ToldLemmas.{told_nothing}
use Rattle.vr_descent.proofs.AskingLemmas.{on_none, on_then}
use Rattle.vr_descent.proofs.EndingLemmas.{stops}
use Rattle.vr_descent.proofs.GoingOn.{Goes, breaks_off, goes_as, goes_more}
use Rattle.vr_tabu.specs.Standing.{tabu_from_state, left_of, next_events}
use Rattle.vr_tabu.specs.Tabus.{tabus_of}
use Rattle.vr_model.proofs.tables.Tests.{apart}
use Rattle.vr_tabu.proofs.AdvanceLemmas.{left_behind, on_next}
use Rattle.vr_tabu.proofs.SearchLemmas.{enough}
use Rattle.vr_tabu.proofs.searching.search.Given.{Over}
use Rattle.vr_tabu.proofs.searching.search.Goals.{In_ok-stop}
use Rattle.vr_tabu.proofs.searching.search.Goals as goal

-- what is left after a round, behind what was told
left : (g : Over) (c : In_ok-stop g) → Goes (λ w. (goal.Watch-dyn g (w.vtable, w.value)).after w.value)
    (tabu_from_state c.args.closed.model.now c.args.parameters c.args.routes.now.lists c.args.state.now)
    (left_of c.args.closed.model.now c.args.parameters c.advance.new.routes.lists c.advance.new.self c.in_ok-stop.stop)
    c.args.watch.now.items c.advance.new.watch.items
left g c =
    let on = goes_as (λ w. (goal.Watch-dyn g (w.vtable, w.value)).after w.value)
    (tabu_from_state c.args.closed.model.now c.args.parameters c.args.routes.now.lists c.args.state.now)
    _ _ _ _ c.in_ok-stop.ensures.outcome c.rounds.invariant.goes in
    goes_more (λ w. (goal.Watch-dyn g (w.vtable, w.value)).after w.value)
    (tabu_from_state c.args.closed.model.now c.args.parameters c.args.routes.now.lists c.args.state.now)
    (left_of c.args.closed.model.now c.args.parameters c.advance.new.routes.lists c.advance.new.self c.in_ok-stop.stop)
    (next_events c.args.closed.model.now c.args.parameters c.rounds.routes.lists c.rounds.state) _ _ _ on c.in_ok-stop.ensures.told

pub returns-in_err-stop-clause-told_in_part : goal.returns-in_err-stop-clause-told_in_part
returns-in_err-stop-clause-told_in_part g c =
    let on = goes_as (λ w. (goal.Watch-dyn g (w.vtable, w.value)).after w.value)
    (tabu_from_state c.args.closed.model.now c.args.parameters c.args.routes.now.lists c.args.state.now) _ _ _
    _ (on_next c.args.closed.model.now c.args.parameters c.rounds.routes.lists c.rounds.state
    (apart c.rounds.state.at.found c.args.parameters.limit.solutions c.rounds-test.true)) c.rounds.invariant.goes in
    on_err c.from_residual.result
    (breaks_off (λ w. (goal.Watch-dyn g (w.vtable, w.value)).after w.value)
    (tabu_from_state c.args.closed.model.now c.args.parameters c.args.routes.now.lists c.args.state.now)
    (left_behind c.args.closed.model.now c.args.parameters c.rounds.routes.lists c.rounds.state)
    (next_events c.args.closed.model.now c.args.parameters c.rounds.routes.lists c.rounds.state) _ _ _ on c.in_err-stop.ensures.told_in_part)

pub returns-in-Some-clause-stopped : goal.returns-in-Some-clause-stopped
returns-in-Some-clause-stopped g c =
    stops (λ w. (goal.Watch-dyn g (w.vtable, w.value)).after w.value)
    (tabu_from_state c.args.closed.model.now c.args.parameters c.args.routes.now.lists c.args.state.now)
    c.advance.new.routes.lists c.advance.new.self.at c.advance.new.self.best _ _
    c.in-Some.end (goes_as (λ w. (goal.Watch-dyn g (w.vtable, w.value)).after w.value)
    (tabu_from_state c.args.closed.model.now c.args.parameters c.args.routes.now.lists c.args.state.now) _ _ _ _
    (ap (left_of c.args.closed.model.now c.args.parameters c.advance.new.routes.lists c.advance.new.self) c.in-Some.is)
    (left g (goal.at.returns-in-Some-clause-stopped g c).In_ok-stop))

pub returns-in-Some-clause-asked : goal.returns-in-Some-clause-asked
returns-in-Some-clause-asked g c = on_then _ _ _ _ _ _ c.rounds.invariant.asked c.in_ok-stop.ensures.asked

pub returns-in_err-stop-clause-asked_at_most : goal.returns-in_err-stop-clause-asked_at_most
returns-in_err-stop-clause-asked_at_most g c = on_err c.from_residual.result (on_then _ _ _ _ _ _ c.rounds.invariant.asked c.in_err-stop.ensures.asked_at_most)

pub rounds-init : goal.rounds-init
rounds-init g c =
    record {
      model = c.requires.judge_model;
      stands = c.requires.stands;
      asked = on_none _ _;
      no_dearer = omega (arith, ints);
      goes = record { told = []; outcome = refl; heard = told_nothing (λ w. (goal.Watch-dyn g (w.vtable, w.value)).after w.value) _ };
    }

pub rounds-preserved : goal.rounds-preserved
rounds-preserved g c =
    record {
      model = c.in_ok-stop.ensures.judge_model;
      stands = c.in_ok-stop.ensures.stands;
      asked = on_then _ _ _ _ _ _ c.rounds.invariant.asked c.in_ok-stop.ensures.asked;
      no_dearer = (let less = c.in_ok-stop.ensures.no_dearer in let before = c.rounds.invariant.no_dearer in omega (arith, ints, less, before));
      goes = goes_as (λ w. (goal.Watch-dyn g (w.vtable, w.value)).after w.value)
          (tabu_from_state c.args.closed.model.now c.args.parameters c.args.routes.now.lists c.args.state.now) _ _ _ _
          (ap (left_of c.args.closed.model.now c.args.parameters c.advance.new.routes.lists c.advance.new.self) c.in_default.is)
          (left g (goal.at.rounds-preserved g c).In_ok-stop);
    }

pub returns-clause-stopped : goal.returns-clause-stopped
returns-clause-stopped g c =
    stops (λ w. (goal.Watch-dyn g (w.vtable, w.value)).after w.value)
    (tabu_from_state c.args.closed.model.now c.args.parameters c.args.routes.now.lists c.args.state.now)
    c.rounds.routes.lists c.rounds.state.at c.rounds.state.best _ _ Solutions
    (goes_as (λ w. (goal.Watch-dyn g (w.vtable, w.value)).after w.value)
    (tabu_from_state c.args.closed.model.now c.args.parameters c.args.routes.now.lists c.args.state.now) _ _ _ _
    (enough c.args.closed.model.now c.args.parameters (tabus_of c.rounds.state.tabus) c.rounds.routes.lists c.rounds.state.best.routes.lists
    c.rounds.state.at.used c.rounds.state.at.found (test_of_eq c.rounds.state.at.found c.args.parameters.limit.solutions c.rounds-test.false))
    c.rounds.invariant.goes)

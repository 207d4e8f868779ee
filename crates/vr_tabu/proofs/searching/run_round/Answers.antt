use Rattle.std.proofs.Common.{◌≡◌, subst}
use Rattle.std.specs.Prelude.{IfOk}
use Rattle.vr_model.specs.declared.records.Model.{Model}
use Rattle.vr_routes.specs.Tours.{Tours}
use Rattle.vr_tabu.specs.Rounds.{tabu_round_end, IsChangeOfBest}
use Rattle.vr_tabu.specs.Tabus.{tabus_of}
use Rattle.vr_tabu.specs.TabuSearches.{round_of}
use Rattle.vr_tabu.specs.declared.searching.State.{State}
use Rattle.vr_tabu.proofs.searching.run_round.Goals as goal

pub returns-clause-ends : goal.returns-clause-ends
returns-clause-ends g c =
    let told = c.run.result in
    let at = c.open-round.result.state.now in
    let here = c.open-round.result.routes.now in
    let model = c.args.model.now in
    let rest = c.args.rest in
    subst (λ (s : State). IfOk told
    (λ ended. ended ≡ tabu_round_end model c.args.routes.now.lists (round_of model (tabus_of s.tabus) s.best.routes.lists c.args.routes.now.lists rest)))
    c.open-round.ensures.state
    (subst (λ (r : Tours). IfOk told (λ ended. ended ≡ tabu_round_end model r.lists (round_of model (tabus_of at.tabus) at.best.routes.lists r.lists rest)))
    c.open-round.ensures.routes
    (subst (λ (m : Model). IfOk told (λ ended. ended ≡ tabu_round_end m here.lists (round_of m (tabus_of at.tabus) at.best.routes.lists here.lists rest)))
    c.open-round.ensures.model c.run.ensures.ends))

pub returns-clause-kept : goal.returns-clause-kept
returns-clause-kept g c =
    let told = c.run.result in
    let kept = c.run.new.kept in
    let here = c.open-round.result.routes.now in
    subst (λ (r : Tours). IfOk told (λ ended. IsChangeOfBest c.args.model.now r.lists ended kept)) c.open-round.ensures.routes
    (subst (λ (m : Model). IfOk told (λ ended. IsChangeOfBest m here.lists ended kept)) c.open-round.ensures.model c.run.ensures.kept)

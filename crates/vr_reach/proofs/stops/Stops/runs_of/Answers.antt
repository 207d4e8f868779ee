use Rattle.std.proofs.Common.{◌∙◌, ℕ, None, ap, sym, subst, arith}
use Rattle.std.specs.Prelude.{is_some}
use Rattle.vr_model.specs.declared.records.Model.{Model}
use Rattle.vr_steps.proofs.LawLemmas.{runs_are_counted}
use Rattle.vr_reach.specs.Stops.{AreStops}
use Rattle.vr_reach.specs.VisitRuns.{AreVisitRuns}
use Rattle.vr_reach.specs.VisitSets.{IsTableOf}
use Rattle.vr_reach.proofs.RunLemmas.{known_here, runs_here}
use Rattle.vr_reach.proofs.stops.Stops.runs_of.Goals.{After-get-k}
use Rattle.vr_reach.proofs.stops.Stops.runs_of.Goals as goal

-- the table is that of the vehicle
there : (c : After-get-k) (model : Model) (d : ℕ) → AreStops model d c.args.self.now
    → IsTableOf model d c.args.v c.args.self.now.visits.capacities c.get-k.result.now
there c model d are =
    subst (IsTableOf model d c.args.v c.args.self.now.visits.capacities) (c.get-k.ensures.value 0)
    (are.visits.each c.args.v (let n = are.visits.one_of_each in let low = c.requires.vehicle in omega (arith, n, low)))

pub returns-in-Some-clause-runs : goal.returns-in-Some-clause-runs
returns-in-Some-clause-runs c = λ model d are.
    let is = there (goal.at.returns-in-Some-clause-runs c).After-get-k model d are in
    subst (AreVisitRuns model d c.args.v) (sym c.as_slice.ensures)
    (runs_here model d c.args.v c.get-k.result.now c.args.self.now are is c.in-Some.runs (c.get.ensures.value None ∙ c.in-Some.is))

pub returns-in-Some-clause-known : goal.returns-in-Some-clause-known
returns-in-Some-clause-known c = λ model d are.
    sym (ap is_some (c.get.ensures.value None ∙ c.in-Some.is)) ∙ known_here runs_are_counted model d c.args.v
    c.get-k.result.now c.args.self.now are (there (goal.at.returns-in-Some-clause-known c).After-get-k model d are)

pub returns-in-None-clause-known : goal.returns-in-None-clause-known
returns-in-None-clause-known c = λ model d are.
    sym (ap is_some (c.get.ensures.value None ∙ c.in-None.is)) ∙ known_here runs_are_counted model d c.args.v
    c.get-k.result.now c.args.self.now are (there (goal.at.returns-in-None-clause-known c).After-get-k model d are)

use Rattle.std.proofs.Common.{◌≡◌, ℕ, List, Result, sym, subst}
use Rattle.std.proofs.lemmas.Result.{IfOk-weaker}
use Rattle.std.specs.Prelude.{IfOk}
use Rattle.vr_model.specs.first.FirstSolutions.{build, build_by}
use Rattle.vr_model.specs.declared.records.First.{First}
use Rattle.vr_model.specs.declared.records.Model.{Model}
use Rattle.vr_app.proofs.first.built_routes.Goals as goal

-- the lists of the construction that a model names are those at which it ends
of_named : {A E : Type 0} (lists : A → List (List ℕ)) (m : Model) {strategy : First} (answer : Result A E) → m.search.first ≡ strategy
    → IfOk answer (λ routes. lists routes ≡ build_by strategy m) → IfOk answer (λ routes. lists routes ≡ build m)
unfolding build
of_named {A} {E} lists m answer is h =
    let P : First → Type 0 = λ strategy. IfOk answer (λ routes. lists routes ≡ build_by strategy m) in
    subst P (sym is) h

pub returns-in-PathCheapestArc-clause-lists : goal.returns-in-PathCheapestArc-clause-lists
returns-in-PathCheapestArc-clause-lists c =
    of_named (λ routes. routes.lists) c.args.lookups.now.closed.model.now c.built_over.result c.in-PathCheapestArc.is c.built_over.ensures.lists

pub returns-in-ParallelCheapestInsertion-clause-lists : goal.returns-in-ParallelCheapestInsertion-clause-lists
returns-in-ParallelCheapestInsertion-clause-lists c = of_named (λ routes. routes.lists) c.args.lookups.now.closed.model.now
    c.inserted_routes.result c.in-ParallelCheapestInsertion.is c.inserted_routes.ensures.lists

pub returns-in-Savings-clause-lists : goal.returns-in-Savings-clause-lists
returns-in-Savings-clause-lists c =
    of_named (λ routes. routes.lists) c.args.lookups.now.closed.model.now c.built_over-in-Savings.result c.in-Savings.is c.built_over-in-Savings.ensures.savings

use Rattle.std.proofs.Common.{◌≡◌, ℕ, List, Option, Result, sym, subst, cond, Some, None}
use Rattle.std.specs.Prelude.{IfOk}
use Rattle.vr_model.specs.first.FirstSolutions.{build, build_by, first_lists}
use Rattle.vr_model.specs.routes.Rules.{is_valid}
use Rattle.vr_model.specs.declared.records.First.{First}
use Rattle.vr_model.specs.declared.records.Model.{Model}
use Rattle.vr_rules.specs.Placing.{lists_in}
use Rattle.vr_app.proofs.first.first_routes.Goals as goal

-- what the construction that a model names found is its first solution
of_named : {A E : Type 0} (found : A → Option (List (List ℕ))) (m : Model) {strategy : First} (answer : Result A E) → m.search.first ≡ strategy
    → IfOk answer (λ first. found first ≡ cond (is_valid m (build_by strategy m)) (Some (build_by strategy m)) None)
    → IfOk answer (λ first. found first ≡ first_lists m)
unfolding first_lists build
of_named {A} {E} found m answer is h =
    let P : First → Type 0 = λ strategy. IfOk answer (λ first. found first ≡ cond (is_valid m (build_by strategy m)) (Some (build_by strategy m)) None) in
    subst P (sym is) h

pub returns-in-PathCheapestArc-clause-lists : goal.returns-in-PathCheapestArc-clause-lists
returns-in-PathCheapestArc-clause-lists c =
    of_named lists_in c.args.lookups.now.closed.model.now c.first_over.result c.in-PathCheapestArc.is c.first_over.ensures.first

pub returns-in-ParallelCheapestInsertion-clause-lists : goal.returns-in-ParallelCheapestInsertion-clause-lists
returns-in-ParallelCheapestInsertion-clause-lists c =
    of_named lists_in c.args.lookups.now.closed.model.now c.first_over-in-ParallelCheapestInsertion.result
    c.in-ParallelCheapestInsertion.is c.first_over-in-ParallelCheapestInsertion.ensures.first

pub returns-in-Savings-clause-lists : goal.returns-in-Savings-clause-lists
returns-in-Savings-clause-lists c =
    of_named lists_in c.args.lookups.now.closed.model.now c.first_over-in-Savings.result c.in-Savings.is c.first_over-in-Savings.ensures.first

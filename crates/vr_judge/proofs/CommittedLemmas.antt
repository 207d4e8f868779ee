-- Where a judge has committed the lists of routes.
use Rattle.std.proofs.Common.{◌≡◌, ◌∙◌, ℕ, Bool, List, subst}
use Rattle.std.specs.Prelude.{IsTrue}
use Rattle.vr_filter.specs.Filters.{IsSameRule, IsSameWeight}
use Rattle.vr_model.specs.moves.Moves.{apply}
use Rattle.vr_model.specs.moves.MoveTests.{is_move}
use Rattle.vr_model.specs.routes.Rules.{is_valid}
use Rattle.vr_model.specs.tables.WellFormed.{IsWellFormed}
use Rattle.vr_model.specs.declared.records.Model.{Model}
use Rattle.vr_model.specs.declared.neighbours.Move.{Move}
use Rattle.vr_routes.specs.Tours.{Tours}
use Rattle.vr_judge.specs.Costs.{KeptCosts, StandsCosts}
use Rattle.vr_judge.specs.Standing.{IsJudging}
use Rattle.vr_judge.proofs.VerdictLemmas.{tested_as_valid}

-- a judge of this model has committed the lists of these routes, with a filter and costs
module _ {model : Model} {routes : Tours} {holds : List (List ℕ) → Bool}
    {weight : List (List ℕ) → List (List ℕ) → ℕ} {stands_at : Tours → Type 0} {costs : KeptCosts}
    (judging : IsJudging model routes holds weight stands_at costs) where
  -- after a move the rule of its filter holds exactly where the lists are valid
  pub holds_as_valid : IsTrue (is_valid model routes.lists) → IsWellFormed model → (mv : Move) → IsTrue (is_move model routes.lists mv)
      → (after : List (List ℕ)) → after ≡ apply model routes.lists mv → holds after ≡ is_valid model after
  holds_as_valid valid well_formed mv is_one after makes = judging.rules after ∙ tested_as_valid model routes.lists after mv makes well_formed valid is_one

  -- a filter and costs that have the same rule, weights and model stand at the routes of then
  pub stands_on : {later at : Tours} {holds_later : List (List ℕ) → Bool}
      {weight_later : List (List ℕ) → List (List ℕ) → ℕ} {stands_later : Tours → Type 0} {costs_later : KeptCosts}
      → later.visits ≡ routes.visits → at ≡ later → IsSameRule holds holds_later → IsSameWeight weight weight_later
      → stands_later at → costs_later.model ≡ costs.model → StandsCosts costs_later at → IsJudging model later holds_later weight_later stands_later costs_later
  stands_on {stands_later = stands_later} {costs_later = costs_later} visits_are same rule weighs filters of_model costs_stand = record {
    of_model = visits_are ∙ judging.of_model;
    rules = λ lists. rule lists ∙ judging.rules lists;
    weights = λ before after. weighs before after ∙ judging.weights before after;
    filters = subst stands_later same filters;
    costs_model = of_model ∙ judging.costs_model;
    costs_stand = subst (StandsCosts costs_later) same costs_stand;
  }

-- what costs stand at are valid lists of a well-formed model
pub stand_at_valid : {costs : KeptCosts} {tours : Tours} → StandsCosts costs tours → IsWellFormed costs.model × IsTrue (is_valid costs.model tours.lists)
stand_at_valid {tours} stands =
    (subst IsWellFormed stands.fixed_model stands.fixed.well_formed, subst (λ m. IsTrue (is_valid m tours.lists)) stands.fixed_model stands.fixed.valid)

-- What the parts of the cost know of the lists that they are in sync with.
use Rattle.std.specs.Prelude.{◌≡◌, ℕ, ℤ, Bool, not, ◌&&◌, ◌||◌, IsTrue, List}
use Rattle.std.specs.Prelude.{pos, ◌*◌, ◌+ℤ◌, ◌-ℤ◌}
use Rattle.vr_model.specs.tables.Numbers.{is_same_number}
use Rattle.vr_model.specs.routes.Costs.{arcs_part, cost, penalty_part}
use Rattle.vr_model.specs.declared.neighbours.Neighbourhood.{Neighbourhood}
use Rattle.vr_model.specs.moves.Kinds.{changes_activity}
use Rattle.vr_model.specs.moves.MoveTests.{is_move}
use Rattle.vr_model.specs.routes.Rules.{is_valid}
use Rattle.vr_model.specs.declared.neighbours.Move.{Move}
use Rattle.vr_model.specs.declared.records.Model.{Model}
use Rattle.vr_routes.specs.Judging.{IsDifferenceBound}
use Rattle.vr_routes.specs.Runs.{with_last}
use Rattle.vr_routes.specs.Tours.{Tours}
use Rattle.vr_bounds.specs.Kept.{KeptBounded, StandsBounded}
use Rattle.vr_arccosts.specs.ArcMoves.{arcs_added}
use Rattle.vr_usecosts.specs.Fixed.{is_some_fixed, KeptFixed, StandsFixed}
use Rattle.vr_costfilter.specs.GlobalCosts.{is_some_spanned, KeptSpans, StandsSpans}
use Rattle.vr_usecosts.specs.Groups.{KeptGroups, StandsGroups}
use Rattle.vr_costfilter.specs.PlanCosts.{pays_no_plan, IsPlanChange, KeptPlans, StandsPlans}
use Rattle.vr_plan.specs.Bounds.{cumul_cost, IsAround}
use Rattle.vr_parts.specs.Bounds.{IsAddedByChange}
use Rattle.vr_earliest.specs.Kept.{KeptEarly, StandsEarliest}

-- valid lists of the model differ in cost by exactly what their arcs and the penalties of their groups differ by
abbrev pub PaysArcsAndGroups : Model → Type 0
PaysArcsAndGroups model =
    (lists later : List (List ℕ)) → IsTrue (is_valid model lists) → IsTrue (is_valid model later)
    → cost model later -ℤ cost model lists
    ≡ (arcs_part model later -ℤ arcs_part model lists) +ℤ (penalty_part model later -ℤ penalty_part model lists)

-- arcs and groups alone are paid: no vehicle has a fixed cost, no span or global span a coefficient, no stop a soft
-- upper bound
abbrev pub pays_arcs_and_groups : Model → Bool
pays_arcs_and_groups model = (not (is_some_fixed model) && pays_no_plan model) && not (is_some_spanned model)

-- arcs and groups alone are paid, and either the lists have no penalty to pay or the moves change no activity
abbrev pub is_least_by_arcs : Model → List (List ℕ) → Neighbourhood → Bool
is_least_by_arcs model lists kind =
    pays_arcs_and_groups model && (is_same_number (penalty_part model lists) (pos 0) || not (changes_activity kind))

-- each move of a run adds to the cost of lists at least what it adds to their arcs, less what it saves. The moves of a
-- run differ in their last number.
abbrev pub AddArcsBut : Model → List (List ℕ) → Move → ℤ → Type 0
AddArcsBut model lists mv saved =
    (k : ℕ) → IsTrue (is_move model lists (with_last mv k))
    → IsDifferenceBound model lists (with_last mv k) (arcs_added model lists (with_last mv k) -ℤ saved)

-- what arcs, fixed costs, groups, plans and global spans add is within the ranges of these cost terms
pub record AreChangesInRange (arcs fixed groups plans spans : ℤ) : Type 0 where
  pub arcs_are : IsAddedByChange arcs
  pub fixed_are : IsAddedByChange fixed
  pub groups_are : IsAddedByChange groups
  pub plans_are : IsPlanChange plans
  pub spans_are : IsAround (cumul_cost * 8) spans

-- what contracts see of the parts of the cost, and whether arcs and groups alone are paid
pub record KeptCosts : Type 0 where
  pub model : Model
  pub arcs : KeptBounded
  pub fixed : KeptFixed
  pub groups : KeptGroups
  pub plans : KeptPlans
  pub spans : KeptSpans
  pub earliest : KeptEarly
  pub arcs_and_groups : Bool

-- each part, and what is kept of early ends, is of the model and has committed these lists. It is told whether arcs and
-- groups alone are paid. If they are, valid lists differ by them alone.
pub record StandsCosts (kept : KeptCosts) (tours : Tours) : Type 0 where
  pub arcs_model : kept.arcs.model ≡ kept.model
  pub fixed_model : kept.fixed.model ≡ kept.model
  pub groups_model : kept.groups.model ≡ kept.model
  pub plans_model : kept.plans.model ≡ kept.model
  pub spans_model : kept.spans.model ≡ kept.model
  pub earliest_model : kept.earliest.model ≡ kept.model
  pub arcs : StandsBounded kept.arcs tours
  pub fixed : StandsFixed kept.fixed tours
  pub groups : StandsGroups kept.groups tours
  pub plans : StandsPlans kept.plans tours
  pub spans : StandsSpans kept.spans tours
  pub earliest : StandsEarliest kept.earliest tours.lists
  pub arcs_and_groups_is : kept.arcs_and_groups ≡ pays_arcs_and_groups kept.model
  pub arcs_and_groups : IsTrue kept.arcs_and_groups → PaysArcsAndGroups kept.model

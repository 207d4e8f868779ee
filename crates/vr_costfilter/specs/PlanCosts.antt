-- What the chosen schedules of a list cost by soft upper bounds and spans.
use Rattle.std.specs.Prelude.{◌≡◌, ◌<◌, ◌+◌, ◌*◌, IsTrue, ℕ, Bool, true, cond, List, length}
use Rattle.std.specs.List.{list_all}
use Rattle.std.specs.Prelude.{ℤ, pos, neg_ℤ, ◌+ℤ◌, ◌*ℤ◌, ◌≤ℤ◌}
use Rattle.vr_model.specs.tables.Numbers.{number_at, total_by, below}
use Rattle.vr_model.specs.tables.Tables.{dimension_at, visits}
use Rattle.vr_model.specs.tables.WellFormed.{IsWellFormed}
use Rattle.vr_model.specs.routes.Routes.{is_empty, route}
use Rattle.vr_model.specs.routes.Costs.{assigned, soft_part, span_part}
use Rattle.vr_model.specs.routes.Rules.{is_valid}
use Rattle.vr_model.specs.declared.records.Model.{Model}
use Rattle.vr_plan.specs.Bounds.{IsAround}
use Rattle.vr_plan.specs.Paying.{is_free}
use Rattle.vr_plan.specs.Timings.{soft_with, span_with}
use Rattle.vr_earliest.specs.Earlies.{AreEarlies}
use Rattle.vr_earliest.specs.Ways.{least_span}
use Rattle.vr_earliest.specs.declared.earlies.Early.{Early}
use Rattle.vr_costfilter.specs.Kept.{AreAllKept}
use Rattle.vr_costfilter.specs.declared.kept.KeptList.{KeptList}
use Rattle.vr_routes.specs.Changes.{IsMadeOn}
use Rattle.vr_routes.specs.Tours.{Tours}
use Rattle.vr_routes.specs.Pieces.{ListAfter, part_at, joined}
use Rattle.vr_parts.specs.Sums.{part_less}

-- what the list of vehicle v costs by soft upper bounds and spans, in all dimensions
abbrev pub plans_cost : Model → ℕ → List ℕ → ℤ
plans_cost model v list = cond (is_empty list) (pos 0)
    (total_by (λ d. soft_with model d v list +ℤ span_with model d v list) (below (length model.dimensions)))

-- what the spans of the list of vehicle v cost at least
abbrev pub spans_least : Model → ℕ → List ℕ → ℤ
spans_least model v list = cond (is_empty list) (pos 0)
    (total_by (λ d. number_at (dimension_at model d).span_costs v *ℤ least_span model d v list)
    (below (length model.dimensions)))

-- what soft upper bounds and spans cost at the chosen schedules of lists
abbrev pub soft_and_span : Model → List (List ℕ) → ℤ
soft_and_span model lists = soft_part model (assigned model lists) +ℤ span_part model (assigned model lists)

-- what one list costs at most in one dimension: what 1003 cumuls cost, rounded up, for its stops and its span
abbrev pub plan_paid : ℕ
plan_paid = 690000000000000000

-- what it saves at most in one dimension: what one cumul costs, rounded up, for a span that is negative
abbrev pub plan_saved : ℕ
plan_saved = 690000000000000

-- a number lies in -least..=most
pub record IsFrom (least most : ℕ) (x : ℤ) : Type 0 where
  pub low : neg_ℤ (pos least) ≤ℤ x
  pub high : x ≤ℤ pos most

-- a number that one list may cost in one dimension
abbrev pub IsPlanCostIn : ℤ → Type 0
IsPlanCostIn = IsFrom plan_saved plan_paid

-- a number that one list may cost in four dimensions
abbrev pub IsPlanCost : ℤ → Type 0
IsPlanCost = IsFrom (plan_saved * 4) (plan_paid * 4)

-- what two lists of a vehicle differ by at most
abbrev pub list_change : ℕ
list_change = (plan_saved + plan_paid) * 4

-- a number that a change may add: two vehicles get another list
abbrev pub IsPlanChange : ℤ → Type 0
IsPlanChange = IsAround (list_change * 2)

-- what a change adds at least. It is what the spans of the lists that parts give cost at least, less what the lists of
-- their vehicles cost now.
abbrev pub plans_least : Model → List (List ℕ) → List ListAfter → ℤ
plans_least model lists parts = total_by (part_less (spans_least model) (plans_cost model) lists) parts

-- in no dimension has a span a coefficient or a stop a soft upper bound
abbrev pub pays_no_plan : Model → Bool
pays_no_plan model = list_all is_free model.dimensions

-- what contracts see of what is kept: what each list costs, and cumuls of the chosen schedules. Of a change that is
-- ready they see what its lists cost.
pub record KeptPlans : Type 0 where
  pub model : Model
  pub costs : List ℤ
  pub next : List ℤ
  pub is_prepared : Bool
  pub cumuls : List (List KeptList)

-- these are valid lists of the model, and the costs and the cumuls are theirs
pub record StandsPlans (kept : KeptPlans) (tours : Tours) : Type 0 where
  pub well_formed : IsWellFormed kept.model
  pub of_model : tours.visits ≡ visits kept.model
  pub valid : IsTrue (is_valid kept.model tours.lists)
  pub as_many : length tours.lists ≡ length kept.model.vehicles
  pub many : length kept.costs ≡ length kept.model.vehicles
  pub costs : (v : ℕ) → v < length tours.lists → number_at kept.costs v ≡ plans_cost kept.model v (route tours.lists v)
  pub range : (v : ℕ) → v < length tours.lists → IsPlanCost (number_at kept.costs v)
  pub cumuls : AreAllKept kept.model tours.lists kept.cumuls

-- a change was made on routes of which it is kept what each list costs, and these rows tell of the lists after it
pub record ArePlansKnown (kept : KeptPlans) (rows : List (List Early)) (parts : List ListAfter) (tours : Tours) : Type 0
  where
    pub stands : StandsPlans kept tours
    pub made : IsMadeOn tours parts
    pub earlies : AreEarlies kept.model tours.lists parts rows

-- these are the costs of the first n lists
pub record AreCosts (model : Model) (lists : List (List ℕ)) (n : ℕ) (costs : List ℤ) : Type 0 where
  pub many : length costs ≡ n
  pub each : (v : ℕ) → v < n → number_at costs v ≡ plans_cost model v (route lists v)
  pub range : (v : ℕ) → v < n → IsPlanCost (number_at costs v)

-- what a list costs that a part of a change gives its vehicle
abbrev pub cost_after : Model → List (List ℕ) → ListAfter → ℤ
cost_after model lists part = plans_cost model part.vehicle (joined lists part.pieces)

-- these are the costs of the lists that the first n parts of a change give their vehicles
pub record AreCostsAfter (model : Model) (lists : List (List ℕ)) (parts : List ListAfter) (n : ℕ) (costs : List ℤ) :
    Type 0 where
  pub many : length costs ≡ n
  pub next : (k : ℕ) → k < n → number_at costs k ≡ cost_after model lists (part_at parts k)
  pub range : (k : ℕ) → k < n → IsPlanCost (number_at costs k)

-- the costs of the lists after a change are there
abbrev pub AreNextCosts : KeptPlans → Tours → List ListAfter → Type 0
AreNextCosts kept tours parts = AreCostsAfter kept.model tours.lists parts (length parts) kept.next

-- the model is the same, and what is kept of the lists too
pub record ArePlansLike (before later : KeptPlans) : Type 0 where
  pub model : later.model ≡ before.model
  pub costs : later.costs ≡ before.costs
  pub cumuls : later.cumuls ≡ before.cumuls

-- they are there, and were made ready
pub record ArePlansReady (kept : KeptPlans) (tours : Tours) (parts : List ListAfter) : Type 0 where
  pub prepared : kept.is_prepared ≡ true
  pub costed : AreNextCosts kept tours parts

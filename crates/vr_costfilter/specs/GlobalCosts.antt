-- What the global spans cost, by the sorted ends of the used vehicles and what is told of the lists after a change.
use Rattle.std.specs.Prelude.{◌≡◌, ◌<◌, ◌≤◌, ◌*◌, Bool, IsTrue, IfSome, ℕ, not, true, fold}
use Rattle.std.specs.Prelude.{List, [], length, map, slice_index_or, ℤ, pos, ◌*ℤ◌, Option, None}
use Rattle.std.specs.List.{list_any}
use Rattle.vr_model.specs.tables.Numbers.{below, is_same_number, total_by}
use Rattle.vr_model.specs.tables.Tables.{dimension_at, visits}
use Rattle.vr_model.specs.tables.WellFormed.{IsWellFormed}
use Rattle.vr_model.specs.routes.Costs.{assigned, global_part}
use Rattle.vr_model.specs.routes.Rules.{is_valid}
use Rattle.vr_model.specs.declared.records.Dimension.{Dimension}
use Rattle.vr_model.specs.declared.records.Model.{Model}
use Rattle.vr_plan.specs.Bounds.{cumul_cost, IsAround}
use Rattle.vr_plan.specs.Extents.{length_of}
use Rattle.vr_plan.specs.declared.extents.Extent.{Extent}
use Rattle.vr_plan.specs.declared.timings.Timing.{Timing}
use Rattle.vr_costfilter.specs.Kept.{AreAllKept}
use Rattle.vr_costfilter.specs.declared.kept.KeptList.{KeptList}
use Rattle.vr_earliest.specs.Earlies.{AreEarlies}
use Rattle.vr_earliest.specs.declared.earlies.Early.{Early}
use Rattle.vr_routes.specs.Changes.{AreParts, IsMadeOn}
use Rattle.vr_routes.specs.Tours.{Tours}
use Rattle.vr_routes.specs.Pieces.{ListAfter, changed, joined, part_at}
use Rattle.vr_costfilter.specs.SortedEnds.{beside, extent_but, AreInRange, AreOrders, IsInRange, IsTimedIfUsed}
use Rattle.vr_costfilter.specs.declared.orders.SortedEnds.{SortedEnds}

-- what the global spans cost at the chosen schedules of lists
abbrev pub global_cost_of : Model → List (List ℕ) → ℤ
global_cost_of model lists = global_part model (assigned model lists)

-- the global span of a dimension has a coefficient
abbrev pub Pays : Model → ℕ → Type 0
Pays model d = (dimension_at model d).global_span_cost ≡ pos 0 → ⊥

-- the global span of a dimension has a coefficient, as a test
abbrev pub has_global_span : Dimension → Bool
has_global_span dimension = not (is_same_number dimension.global_span_cost (pos 0))

-- some global span has one
abbrev pub is_some_spanned : Model → Bool
is_some_spanned model = list_any has_global_span model.dimensions

-- if the dimension pays, what the chosen schedule of a list comes to is there, and none is of the empty list. If it
-- does not pay, none is there.
pub record IsTimedIfPaid (model : Model) (d v : ℕ) (list : List ℕ) (timing : Option Timing) : Type 0 where
  pub told : Pays model d → IsTimedIfUsed model d v list timing
  pub untold : (dimension_at model d).global_span_cost ≡ pos 0 → timing ≡ None

-- the same of each dimension
pub record IsRow (model : Model) (v : ℕ) (list : List ℕ) (row : List (Option Timing)) : Type 0 where
  pub many : length row ≡ 4
  pub each : (d : ℕ) → d < length model.dimensions → IsTimedIfPaid model d v list (slice_index_or row d None)

-- the sorted ends that are read if there are none
abbrev pub no_orders : SortedEnds
no_orders = record { starts = []; ends = [] }

-- the sorted ends of dimension d
abbrev pub orders_at : List SortedEnds → ℕ → SortedEnds
orders_at orders d = slice_index_or orders d no_orders

-- in each dimension that pays, the used vehicles of lists are sorted by their starts and by their ends
pub record AreAllOrders (model : Model) (lists : List (List ℕ)) (orders : List SortedEnds) : Type 0 where
  pub many : length orders ≡ length model.dimensions
  pub each : (d : ℕ) → d < length model.dimensions → Pays model d → AreOrders model d lists (orders_at orders d)

-- what a row tells in dimension d
abbrev pub timing_in : ℕ → List (Option Timing) → Option Timing
timing_in d row = slice_index_or row d None

-- the extent of lists, if these vehicles get the lists of which these rows tell
abbrev pub extent_after : ℕ → List ℕ → List (List (Option Timing)) → SortedEnds → Option Extent
extent_after d vehicles next orders =
    fold (λ extent row. beside extent (timing_in d row)) (extent_but vehicles orders) next

-- what the global span of dimension d costs then
abbrev pub span_cost_after : Model → List SortedEnds → List ℕ → List (List (Option Timing)) → ℕ → ℤ
span_cost_after model orders vehicles next d =
    (dimension_at model d).global_span_cost *ℤ length_of (extent_after d vehicles next (orders_at orders d))

-- what all of them cost then
abbrev pub spans_cost_after : Model → List SortedEnds → List ℕ → List (List (Option Timing)) → ℤ
spans_cost_after model orders vehicles next =
    total_by (span_cost_after model orders vehicles next) (below (length model.dimensions))

-- the cumuls that rows tell in dimension d are in their range
abbrev pub AreTimingsInRange : ℕ → List (List (Option Timing)) → Type 0
AreTimingsInRange d next = (k : ℕ) → k < length next → IfSome (timing_in d (slice_index_or next k [])) IsInRange

-- if a dimension pays, all cumuls that the sorted ends and the rows tell are in their range
pub record AreRanged (model : Model) (orders : List SortedEnds) (next : List (List (Option Timing))) : Type 0 where
  pub many : length orders ≡ length model.dimensions
  pub in_orders : (d : ℕ) → d < length model.dimensions → Pays model d → AreInRange (orders_at orders d)
  pub in_rows : (d : ℕ) → d < length model.dimensions → Pays model d → AreTimingsInRange d next

-- all cumuls that they tell of one of the first four dimensions are in their range, whether it pays or not
pub record AreRangedIn (d : ℕ) (orders : SortedEnds) (next : List (List (Option Timing))) : Type 0 where
  pub dimension : d < 4
  pub in_orders : AreInRange orders
  pub in_rows : AreTimingsInRange d next

-- there are orders for each dimension, and no vehicle is in them
pub record AreBlank (model : Model) (orders : List SortedEnds) : Type 0 where
  pub many : length orders ≡ length model.dimensions
  pub starts : (d : ℕ) → (orders_at orders d).starts ≡ []
  pub ends : (d : ℕ) → (orders_at orders d).ends ≡ []

-- what the global spans of a model may cost
abbrev pub IsGlobalCost : ℤ → Type 0
IsGlobalCost = IsAround (cumul_cost * 4)

-- what contracts see of what is kept: the sorted ends, what all costs, and cumuls of the chosen schedules. Of a change
-- that is ready they see the rows, the sorted ends and the cost.
pub record KeptSpans : Type 0 where
  pub model : Model
  pub orders : List SortedEnds
  pub cost : ℤ
  pub next : List (List (Option Timing))
  pub next_orders : List SortedEnds
  pub next_cost : ℤ
  pub is_prepared : Bool
  pub cumuls : List (List KeptList)

-- these are valid lists of the model, and the sorted ends, the cost and the cumuls are theirs
pub record StandsSpans (kept : KeptSpans) (tours : Tours) : Type 0 where
  pub well_formed : IsWellFormed kept.model
  pub of_model : tours.visits ≡ visits kept.model
  pub valid : IsTrue (is_valid kept.model tours.lists)
  pub as_many : length tours.lists ≡ length kept.model.vehicles
  pub orders : AreAllOrders kept.model tours.lists kept.orders
  pub room : length kept.next_orders ≡ length kept.model.dimensions
  pub cost : kept.cost ≡ global_cost_of kept.model tours.lists
  pub range : IsGlobalCost kept.cost
  pub cumuls : AreAllKept kept.model tours.lists kept.cumuls

-- a change was made on routes whose global spans are kept, and these rows tell of the lists after it
pub record AreSpansKnown (kept : KeptSpans) (rows : List (List Early)) (parts : List ListAfter) (tours : Tours) : Type 0
  where
    pub stands : StandsSpans kept tours
    pub made : IsMadeOn tours parts
    pub earlies : AreEarlies kept.model tours.lists parts rows

-- the vehicles of parts
abbrev pub vehicles_of : List ListAfter → List ℕ
vehicles_of parts = map (λ part. part.vehicle) parts

-- these are the rows of the lists that the first n parts of a change give their vehicles
pub record AreRowsAfter (model : Model) (lists : List (List ℕ)) (parts : List ListAfter) (n : ℕ)
    (next : List (List (Option Timing))) : Type 0 where
  pub many : length next ≡ n
  pub rows : (k : ℕ) → k < n
      → IsRow model (part_at parts k).vehicle (joined lists (part_at parts k).pieces) (slice_index_or next k [])

-- what they tell in dimension d is what the chosen schedules of these lists come to
abbrev pub AreTimingsOf : Model → ℕ → List (List ℕ) → List ListAfter → List (List (Option Timing)) → Type 0
AreTimingsOf model d lists parts next = (k : ℕ) → k < length parts → IsTimedIfUsed model d (part_at parts k).vehicle
    (joined lists (part_at parts k).pieces) (timing_in d (slice_index_or next k []))

-- a change gives vehicles of a model lists; these are the sorted ends of the lists before, and the rows of those after
pub record AreNextRows (model : Model) (lists : List (List ℕ)) (parts : List ListAfter) (orders : List SortedEnds)
    (next : List (List (Option Timing))) : Type 0 where
  pub orders_are : AreAllOrders model lists orders
  pub as_many : length lists ≡ length model.vehicles
  pub parts_are : AreParts lists parts
  pub rows : AreRowsAfter model lists parts (length parts) next

-- the same in one of its first four dimensions
pub record AreNextRowsIn (model : Model) (d : ℕ) (lists : List (List ℕ)) (parts : List ListAfter) (orders : SortedEnds)
    (next : List (List (Option Timing))) : Type 0 where
  pub dimension : d < 4
  pub orders_are : AreOrders model d lists orders
  pub few : length lists ≤ 100
  pub parts_are : AreParts lists parts
  pub many : length next ≡ length parts
  pub told : AreTimingsOf model d lists parts next

-- the global span of a dimension of a model has a coefficient
pub record IsPaidIn (model : Model) (d : ℕ) : Type 0 where
  pub dimension : d < length model.dimensions
  pub pays : Pays model d

-- the model is the same, and what is kept of the lists too
pub record AreLike (before later : KeptSpans) : Type 0 where
  pub model : later.model ≡ before.model
  pub orders : later.orders ≡ before.orders
  pub room : length later.next_orders ≡ length before.next_orders
  pub cost : later.cost ≡ before.cost
  pub cumuls : later.cumuls ≡ before.cumuls

-- the sorted ends of the lists after a change are there, and what all cost then
pub record AreSpansReady (kept : KeptSpans) (tours : Tours) (parts : List ListAfter) : Type 0 where
  pub prepared : kept.is_prepared ≡ true
  pub orders : AreAllOrders kept.model (changed tours.lists parts) kept.next_orders
  pub cost : kept.next_cost ≡ global_cost_of kept.model (changed tours.lists parts)
  pub range : IsGlobalCost kept.next_cost

-- Global spans by the orders of the used vehicles and what is told of the lists after a change.
use Rattle.std.proofs.Common.{◌≡◌, ◌≢◌, ◌∙◌, ◌+◌, ◌<◌, ◌⊎◌, ◌++◌, ℕ, zero, suc, Bool, true, false, true≢false, not, List, [], ◌∷◌, length, length-append, take}
use Rattle.std.proofs.Common.{Option, Some, None, refl, ap, sym, subst, arith, inl, inr}
use Rattle.std.specs.Prelude.{pos, ◌==◌, ◌||◌, All, IsTrue, IfSome, fold, slice_index_or}
use Rattle.std.specs.List.{AllPairs}
use Rattle.std.proofs.lemmas.Bool.{not-false, not-true}
use Rattle.std.proofs.lemmas.Bool.Decides.{eqb_tells}
use Rattle.std.proofs.lemmas.List.{map-append, take_more}
use Rattle.vr_model.specs.deciding.Testing.{eq_of_tests}
use Rattle.vr_model.specs.tables.Numbers.{is_same_number}
use Rattle.vr_model.specs.tables.Tables.{dimension_at, no_dimension, visits}
use Rattle.vr_model.specs.tables.WellFormed.{IsWellFormed}
use Rattle.vr_model.specs.routes.Costs.{assigned, global_span}
use Rattle.vr_model.specs.routes.Rules.{is_valid}
use Rattle.vr_model.proofs.tables.Bounds.{none_at}
use Rattle.vr_model.proofs.tables.Totals.{sum_nothing, sum_same}
use Rattle.vr_model.specs.routes.Routes.{route}
use Rattle.vr_model.specs.declared.records.Model.{Model}
use Rattle.vr_plan.specs.Extents.{global_in}
use Rattle.vr_plan.specs.declared.timings.Timing.{Timing}
use Rattle.vr_plan.specs.declared.extents.Extent.{Extent}
use Rattle.vr_plan.proofs.ExtentLemmas.{global-cost, times-none}
use Rattle.vr_routes.specs.Pieces.{ListAfter, joined, no_part, part_at, changed}
use Rattle.vr_routes.specs.Changes.{AreParts}
use Rattle.vr_routes.specs.Tours.{Tours}
use Rattle.vr_costfilter.specs.Kept.{AreAllKept}
use Rattle.vr_costfilter.specs.SortedEnds.{beside, extent_but, AreOrders, IsInRange, IsReach, IsTimedIfUsed}
use Rattle.vr_costfilter.specs.SortedVehicles.{names}
use Rattle.vr_costfilter.specs.declared.orders.SortedEnds.{SortedEnds}
use Rattle.vr_costfilter.proofs.ReachLemmas.{is-not, extent-but-is, reach-all, reach-more, reach-same}
use Rattle.vr_costfilter.specs.GlobalCosts.{extent_after, global_cost_of, has_global_span, is_some_spanned, orders_at, span_cost_after, spans_cost_after}
use Rattle.vr_costfilter.specs.GlobalCosts.{timing_in, vehicles_of, AreAllOrders, IsRow, AreLike, AreNextRows, AreNextRowsIn, AreRanged, AreRowsAfter}
use Rattle.vr_costfilter.specs.GlobalCosts.{IsGlobalCost, KeptSpans, Pays, StandsSpans}
use Rattle.vr_costfilter.specs.Known.{IsValidChange}
use Rattle.vr_parts.proofs.RowLemmas.{rows-push}
use Rattle.vr_parts.proofs.SumLemmas.{part-list, route-kept}

-- ---- tests of vehicles

pub test-same : (x y : ℕ) → x ≡ y → (x == y) ≡ true
test-same x y e = elim (eqb_tells x y) [
  | inl at ↦ at.0
  | inr other ↦ absurd (other.1 e)
]

pub test-other : (x y : ℕ) → x ≢ y → (x == y) ≡ false
test-other x y e = elim (eqb_tells x y) [
  | inl at ↦ absurd (e at.1)
  | inr other ↦ other.0
]

both-fail : (a b : Bool) → (a || b) ≡ false → (a ≡ false) × (b ≡ false)
both-fail true b e = absurd (true≢false e)
both-fail false b e = (refl, e)

-- a vehicle that is none of those of parts is that of no part
pub away : (parts : List ListAfter) (v : ℕ) → names (vehicles_of parts) v ≡ false → All (λ part. v ≢ part.vehicle) parts
away [] v none k d low = absurd (omega (arith, low))
away (p ∷ ps) v none zero d low =
    λ same. absurd (true≢false (sym (test-same p.vehicle v (sym same)) ∙ (both-fail (p.vehicle == v) (names (vehicles_of ps) v) none).0))
away (p ∷ ps) v none (suc k) d low = away ps v (both-fail (p.vehicle == v) (names (vehicles_of ps) v) none).1 k d (omega (arith, low))

-- the converse
not-named : (parts : List ListAfter) (v : ℕ) → All (λ part. v ≢ part.vehicle) parts → names (vehicles_of parts) v ≡ false
not-named [] v apart = refl
not-named (p ∷ ps) v apart =
    ap (λ b. b || names (vehicles_of ps) v) (test-other p.vehicle v (λ is. apart 0 p (omega arith) (sym is)))
    ∙ not-named ps v (λ k d low. apart (suc k) d (omega (arith, low)))

-- the vehicle of one part more
pub vehicles-more : (parts : List ListAfter) (k : ℕ) → k < length parts
    → vehicles_of (take (k + 1) parts) ≡ vehicles_of (take k parts) ++ (part_at parts k).vehicle ∷ []
vehicles-more parts k low =
    ap vehicles_of (take_more parts k no_part low) ∙ map-append (λ (part : ListAfter). part.vehicle) (take k parts) (part_at parts k ∷ [])

-- ---- from where to where lists reach after a change

-- the rows of the parts, one after another
reach-fold : (model : Model) (d : ℕ) (lists : List (List ℕ)) (parts : List ListAfter) (next : List (List (Option Timing))) (extent : Option Extent)
    → length next ≡ length parts → AllPairs (λ p q. p.vehicle ≢ q.vehicle) parts
    → ((k : ℕ) → k < length parts
    → IsTimedIfUsed model d (part_at parts k).vehicle (route lists (part_at parts k).vehicle) (timing_in d (slice_index_or next k [])))
    → IsReach model d lists (λ v. not (names (vehicles_of parts) v)) extent
    → IsReach model d lists (λ v. true) (fold (λ extent row. beside extent (timing_in d row)) extent next)
reach-fold model d lists [] [] extent many apart told h = h
reach-fold model d lists [] (row ∷ next) extent many apart told h = absurd (omega (arith, many))
reach-fold model d lists (p ∷ ps) [] extent many apart told h = absurd (omega (arith, many))
reach-fold model d lists (p ∷ ps) (row ∷ next) extent many apart told h =
    reach-fold model d lists ps next (beside extent (timing_in d row)) (omega (arith, many))
    (λ i j e less low. apart (suc i) (suc j) e (omega (arith, less)) (omega (arith, low))) (λ k low. told (suc k) (omega (arith, low)))
    (reach-more model d lists (λ v. not (names (vehicles_of (p ∷ ps)) v)) (λ v. not (names (vehicles_of ps) v)) p.vehicle
    (λ u is. ap not (both-fail (p.vehicle == u) (names (vehicles_of ps) u) (is-not (names (vehicles_of (p ∷ ps)) u) is)).1)
    (ap not (not-named ps p.vehicle (λ k e low. apart 0 (suc k) e (omega arith) (omega (arith, low)))))
    only extent h (timing_in d row) (told 0 (omega arith)))
  where
    only : (u : ℕ) → not (names (vehicles_of ps) u) ≡ true → (u ≡ p.vehicle) ⊎ (not (names (vehicles_of (p ∷ ps)) u) ≡ true)
    only u is = elim (eqb_tells p.vehicle u) [
      | inl at ↦ inl (sym at.1)
      | inr other ↦ inr (ap (λ b. not (b || names (vehicles_of ps) u)) other.0 ∙ is)
    ]

-- what a row tells is in its range
pub told-ranged : (model : Model) (d v : ℕ) (list : List ℕ) (timing : Option Timing) → IsTimedIfUsed model d v list timing → IfSome timing IsInRange
told-ranged model d v list None unused = tt
told-ranged model d v list (Some timing) is = is.range

module _ (model : Model) (lists : List (List ℕ)) (orders : List SortedEnds) (are : AreAllOrders model lists orders) where
  -- the cumuls of orders are in their range, without rows
  pub ranged-alone : AreRanged model orders []
  ranged-alone = record {
    many = are.many;
    in_orders = λ d low pays. record { starts = (are.each d low pays).starts.range; ends = (are.each d low pays).ends.range };
    in_rows = λ d low pays k less. absurd (omega (arith, less));
  }

  module _ (parts : List ListAfter) (next : List (List (Option Timing))) (rows : AreRowsAfter model lists parts (length parts) next) where
    -- with the rows of a change too
    pub ranged-after : AreRanged model orders next
    ranged-after = record {
      many = are.many;
      in_orders = λ d low pays. record { starts = (are.each d low pays).starts.range; ends = (are.each d low pays).ends.range };
      in_rows = λ d low pays k less. (
          let known : k < length parts = omega (arith, rows.many, less) in
          told-ranged model d (part_at parts k).vehicle (joined lists (part_at parts k).pieces)
          (timing_in d (slice_index_or next k [])) (((rows.rows k known).each d low).told pays));
    }

    -- how far the lists reach after the change
    reach-after : AreParts lists parts → (d : ℕ) → d < length model.dimensions → Pays model d
        → IsReach model d (changed lists parts) (λ v. true) (extent_after d (vehicles_of parts) next (orders_at orders d))
    reach-after parts_are d low pays =
        reach-fold model d (changed lists parts) parts next (extent_but (vehicles_of parts) (orders_at orders d)) rows.many parts_are.apart
        (λ k known. subst (λ l. IsTimedIfUsed model d (part_at parts k).vehicle l (timing_in d (slice_index_or next k [])))
        (sym (part-list lists parts parts_are k known)) (((rows.rows k known).each d low).told pays))
        (reach-same model d lists (changed lists parts) (λ v. not (names (vehicles_of parts) v))
        (λ v is. route-kept lists parts lists v (away parts v (is-not (names (vehicles_of parts) v) is)))
        (extent_but (vehicles_of parts) (orders_at orders d)) (extent-but-is model d lists (orders_at orders d) (are.each d low pays) (vehicles_of parts)))

-- the cumuls that the sorted ends of lists and the rows of a change of them tell are in their range
pub ranged-next : (model : Model) (lists : List (List ℕ)) (parts : List ListAfter) (orders : List SortedEnds) (next : List (List (Option Timing)))
    → AreNextRows model lists parts orders next → AreRanged model orders next
ranged-next model lists parts orders next rows = ranged-after model lists orders rows.orders_are parts next rows.rows

-- the same sorted ends and rows in a dimension that pays
pub rows-in : (model : Model) → IsWellFormed model
    → (lists : List (List ℕ)) (parts : List ListAfter) (orders : List SortedEnds) (next : List (List (Option Timing)))
    → AreNextRows model lists parts orders next
    → (d : ℕ) → d < length model.dimensions → Pays model d → (read : SortedEnds) → read ≡ orders_at orders d → AreNextRowsIn model d lists parts read next
rows-in model well lists parts orders next rows d low pays read same = record {
  dimension = omega (arith, well.number_of_dimensions, low);
  orders_are = subst (AreOrders model d lists) (sym same) (rows.orders_are.each d low pays);
  few = omega (arith, well.number_of_vehicles.at_most, rows.as_many);
  parts_are = rows.parts_are;
  many = rows.rows.many;
  told = λ k under. ((rows.rows.rows k under).each d low).told pays;
}

-- what the global spans cost where the extents are those of lists
cost-told : (model : Model) (lists : List (List ℕ)) (orders : List SortedEnds) (vehicles : List ℕ) (next : List (List (Option Timing)))
    → ((d : ℕ) → d < length model.dimensions → Pays model d → IsReach model d lists (λ v. true) (extent_after d vehicles next (orders_at orders d)))
    → spans_cost_after model orders vehicles next ≡ global_cost_of model lists
cost-told model lists orders vehicles next h =
    sum_same (span_cost_after model orders vehicles next) (global_in model lists) 0 (length model.dimensions) (λ d _ high.
    let low : d < length model.dimensions = omega (arith, high) in
    global-cost model lists d low (extent_after d vehicles next (orders_at orders d))
    (λ pays. reach-all model d lists (extent_after d vehicles next (orders_at orders d)) (h d low pays)))

-- what they cost with lists
pub cost-alone : (model : Model) (lists : List (List ℕ)) (orders : List SortedEnds)
    → AreAllOrders model lists orders → spans_cost_after model orders [] [] ≡ global_cost_of model lists
cost-alone model lists orders are =
    cost-told model lists orders [] [] (λ d low pays. extent-but-is model d lists (orders_at orders d) (are.each d low pays) [])

-- what they cost after a change of lists
pub cost-after : (model : Model) (lists : List (List ℕ)) (orders : List SortedEnds)
    → AreAllOrders model lists orders → (parts : List ListAfter) → AreParts lists parts
    → (next : List (List (Option Timing))) → AreRowsAfter model lists parts (length parts) next
    → spans_cost_after model orders (vehicles_of parts) next ≡ global_cost_of model (changed lists parts)
cost-after model lists orders are parts parts_are next rows =
    cost-told model (changed lists parts) orders (vehicles_of parts) next (reach-after model lists orders are parts next rows parts_are)

-- no global span has a coefficient
abbrev pub NonePays : Model → Type 0
NonePays model = (d : ℕ) → d < length model.dimensions → (dimension_at model d).global_span_cost ≡ pos 0

-- that is so where the test says it
pub none-pays : (model : Model) → not (is_some_spanned model) ≡ true → NonePays model
none-pays model none d low =
    let here = none_at has_global_span model.dimensions d no_dimension (not-true (is_some_spanned model) none) low in
    eq_of_tests (dimension_at model d).global_span_cost (pos 0) (not-false (is_same_number (dimension_at model d).global_span_cost (pos 0)) here)

-- where no global span pays, none costs anything
pub none-costs : (model : Model) → NonePays model → (lists : List (List ℕ)) → global_cost_of model lists ≡ pos 0
none-costs model none lists = sum_nothing (global_in model lists) 0 (length model.dimensions)
    (λ d _ low. times-none (dimension_at model d).global_span_cost (global_span (assigned model lists) d) (none d (omega (arith, low))))

-- a list of which nothing is told, where no global span pays
pub none-kept : (model : Model) → NonePays model → (v : ℕ) (list : List ℕ) → IsRow model v list (None ∷ None ∷ None ∷ None ∷ [])
none-kept model none v list = record { many = refl; each = λ d low. record { told = λ pays. absurd (pays (none d low)); untold = λ zero. untold d } }
  where
    untold : (d : ℕ) → slice_index_or {A = Option Timing} (None ∷ None ∷ None ∷ None ∷ []) d None ≡ None
    untold zero = refl
    untold (suc zero) = refl
    untold (suc (suc zero)) = refl
    untold (suc (suc (suc zero))) = refl
    untold (suc (suc (suc (suc d)))) = refl

-- ---- what is kept

-- what is like what stands, stands
pub stands-like : (before later : KeptSpans) (tours : Tours) → StandsSpans before tours → AreLike before later → StandsSpans later tours
stands-like before later tours stands like = record {
  well_formed = subst IsWellFormed (sym like.model) stands.well_formed;
  of_model = stands.of_model ∙ ap visits (sym like.model);
  valid = subst (λ m. IsTrue (is_valid m tours.lists)) (sym like.model) stands.valid;
  as_many = stands.as_many ∙ ap (λ m. length m.vehicles) (sym like.model);
  orders = subst (λ (m : Model). AreAllOrders m tours.lists later.orders) (sym like.model)
      (subst (λ os. AreAllOrders before.model tours.lists os) (sym like.orders) stands.orders);
  room = like.room ∙ stands.room ∙ ap (λ (m : Model). length m.dimensions) (sym like.model);
  cost = like.cost ∙ stands.cost ∙ ap (λ m. global_cost_of m tours.lists) (sym like.model);
  range = subst IsGlobalCost (sym like.cost) stands.range;
  cumuls = subst (λ (m : Model). AreAllKept m tours.lists later.cumuls) (sym like.model)
      (subst (λ ks. AreAllKept before.model tours.lists ks) (sym like.cumuls) stands.cumuls);
}

-- the rows of the lists that the first parts give, and that of the next one
pub rows-after-push : (model : Model) (lists : List (List ℕ)) (parts : List ListAfter) (k : ℕ)
    (rows more : List (List (Option Timing))) (row : List (Option Timing)) → AreRowsAfter model lists parts k rows
    → IsRow model (part_at parts k).vehicle (joined lists (part_at parts k).pieces) row → more ≡ rows ++ row ∷ [] → AreRowsAfter model lists parts (k + 1) more
rows-after-push model lists parts k rows more row h new is = record {
  many = ap length is ∙ length-append rows (row ∷ []) ∙ ap (λ n. n + 1) h.many;
  rows = rows-push (λ j x. IsRow model (part_at parts j).vehicle (joined lists (part_at parts j).pieces) x) [] rows more row k h.many h.rows new is;
}

-- the same orders and rows, as code reads them
pub ranged-same : (m n : Model) (os os' : List SortedEnds) (rows rows' : List (List (Option Timing)))
    → n ≡ m → os' ≡ os → rows' ≡ rows → AreRanged m os rows → AreRanged n os' rows'
ranged-same m n os os' rows rows' model_is orders_are rows_are h =
    subst (λ x. AreRanged x os' rows') (sym model_is) (subst (λ x. AreRanged m x rows') (sym orders_are) (subst (λ x. AreRanged m os x) (sym rows_are) h))

-- and what they tell
pub cost-same : (m n : Model) (os os' : List SortedEnds) (us us' : List ℕ) (rows rows' : List (List (Option Timing)))
    → n ≡ m → os' ≡ os → us' ≡ us → rows' ≡ rows → spans_cost_after n os' us' rows' ≡ spans_cost_after m os us rows
cost-same m n os os' us us' rows rows' model_is orders_are vehicles_are rows_are =
    ap (λ x. spans_cost_after x os' us' rows') model_is ∙ ap (λ x. spans_cost_after m x us' rows') orders_are
    ∙ ap (λ x. spans_cost_after m os x rows') vehicles_are ∙ ap (λ x. spans_cost_after m os us x) rows_are

-- and the rows of the lists after a change
pub rows-same : (m n : Model) (lists : List (List ℕ)) (parts : List ListAfter) (os os' : List SortedEnds) (rows rows' : List (List (Option Timing)))
    → n ≡ m → os' ≡ os → rows' ≡ rows → AreNextRows m lists parts os rows → AreNextRows n lists parts os' rows'
rows-same m n lists parts os os' rows rows' model_is orders_are rows_are h =
    subst (λ (x : Model). AreNextRows x lists parts os' rows') (sym model_is)
    (subst (λ x. AreNextRows m lists parts x rows') (sym orders_are) (subst (λ x. AreNextRows m lists parts os x) (sym rows_are) h))

-- its rows of the lists after a change are of these orders, where it is like one that stands at the lists before
pub rows-like : (before later : KeptSpans) (tours : Tours) (parts : List ListAfter) → IsValidChange (StandsSpans before) before.model tours parts
    → AreLike before later → AreRowsAfter later.model tours.lists parts (length parts) later.next
    → AreNextRows later.model tours.lists parts later.orders later.next
rows-like before later tours parts h like rows =
    let stands = stands-like before later tours h.stands like in
    record { orders_are = stands.orders; as_many = stands.as_many; parts_are = h.made.makes.parts_are; rows = rows }

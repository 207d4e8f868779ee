-- Soft bounds and spans as a sum over the lists of vehicles.
use Rattle.std.proofs.Common.{◌≡◌, ◌∙◌, ℕ, suc, ◌<◌, ◌+◌, ◌*◌, Bool, true, false, cond, List, [], ◌∷◌, length, refl, ap, ap₂, sym, subst, arith, to_z, of_z}
use Rattle.std.proofs.Common.{w64}
use Rattle.std.specs.Prelude.{IsTrue, ℤ, pos, ◌+ℤ◌, ◌-ℤ◌, ◌*ℤ◌, ◌&&◌, slice_index_or}
use Rattle.std.specs.List.{list_all, range_with_len}
use Rattle.std.proofs.lemmas.Int.{ints}
use Rattle.vr_model.specs.tables.Numbers.{number_at, total_by, below}
use Rattle.vr_model.specs.tables.Tables.{dimension_at, no_dimension, visits}
use Rattle.vr_model.specs.tables.WellFormed.{IsWellFormed}
use Rattle.vr_model.specs.routes.Rules.{is_valid}
use Rattle.vr_routes.specs.Tours.{Tours}
use Rattle.vr_costfilter.specs.Kept.{AreAllKept}
use Rattle.vr_model.specs.routes.Routes.{route, is_empty}
use Rattle.vr_model.specs.schedules.Schedules.{Plan, cumul}
use Rattle.vr_model.specs.routes.Costs.{plan_at, assigned, over_plans, soft_part, span_part}
use Rattle.vr_model.specs.declared.records.Model.{Model}
use Rattle.vr_model.proofs.tables.Tests.{all-from_list_all}
use Rattle.vr_model.proofs.tables.Totals.{sum_range, sum_nothing, sum_same, total_by-failing, total_by-more, total_by-plus}
use Rattle.vr_plan.specs.Paying.{is_free, PaysNothing}
use Rattle.vr_plan.specs.Tables.{AreTables}
use Rattle.vr_plan.specs.declared.tables.Table.{Table}
use Rattle.vr_plan.proofs.PayingLemmas.{free_pays, pays_nothing_where}
use Rattle.vr_plan.specs.Timings.{chosen_plan_of, soft_of, soft_with, span_with, start_with, last_with}
use Rattle.vr_plan.proofs.ExtentLemmas.{times-none}
use Rattle.vr_plan.proofs.PlanCostLemmas.{plan-at}
use Rattle.vr_parts.specs.Sums.{sum_over_routes}
use Rattle.vr_earliest.specs.Ways.{least_span}
use Rattle.vr_costfilter.specs.PlanCosts.{pays_no_plan, plan_paid, plan_saved, plans_cost, spans_least, ArePlansLike, IsFrom, IsPlanCost, IsPlanCostIn}
use Rattle.vr_costfilter.specs.PlanCosts.{KeptPlans, StandsPlans}

-- ---- a sum over the lists

module _ (model : Model) (lists : List (List ℕ)) where
  -- a sum over used vehicles and dimensions is one over lists
  over-lists : (f : ℕ → ℕ → Plan → ℤ) → over_plans model (assigned model lists) (λ d v. f d v (plan_at (assigned model lists) d v))
      ≡ sum_range
      (λ v. cond (is_empty (route lists v)) (pos 0) (total_by (λ d. f d v (chosen_plan_of model d v (route lists v))) (below (length model.dimensions))))
      0 (length lists)
  over-lists f =
      total_by-failing (λ v. total_by (λ d. f d v (plan_at (assigned model lists) d v)) (below (length model.dimensions)))
      (λ v. is_empty (route lists v)) (below (length lists))
      ∙ sum_same _ _ 0 (length lists) (λ v low known. at v (omega (arith, known)) (is_empty (route lists v)) refl)
    where
      at : (v : ℕ) → v < length lists → (b : Bool) → is_empty (route lists v) ≡ b
          → cond (is_empty (route lists v)) (pos 0) (total_by (λ d. f d v (plan_at (assigned model lists) d v)) (below (length model.dimensions)))
          ≡ cond (is_empty (route lists v)) (pos 0) (total_by (λ d. f d v (chosen_plan_of model d v (route lists v))) (below (length model.dimensions)))
      at v known true e = ap (λ b. cond b (pos 0) (total_by (λ d. f d v (plan_at (assigned model lists) d v)) (below (length model.dimensions)))) e
          ∙ ap (λ b. cond b (pos 0) (total_by (λ d. f d v (chosen_plan_of model d v (route lists v))) (below (length model.dimensions)))) (sym e)
      at v known false e = ap (λ s. cond (is_empty (route lists v)) (pos 0) s)
          (sum_same (λ d. f d v (plan_at (assigned model lists) d v)) (λ d. f d v (chosen_plan_of model d v (route lists v)))
          0 (length model.dimensions) (λ d low under. ap (f d v) (plan-at model lists d v (omega (arith, under)) known e)))

  -- what soft bounds and spans cost is a sum over the lists
  pub plans-over : soft_part model (assigned model lists) +ℤ span_part model (assigned model lists) ≡ sum_over_routes (plans_cost model) lists
  plans-over =
      let dims : List ℕ = below (length model.dimensions) in
      let f : ℕ → ℤ = λ v. total_by (λ d. soft_with model d v (route lists v)) dims in
      let g : ℕ → ℤ = λ v. total_by (λ d. span_with model d v (route lists v)) dims in
      let a : soft_part model (assigned model lists) ≡ sum_range (λ v. cond (is_empty (route lists v)) (pos 0) (f v)) 0 (length lists) =
      over-lists (λ d v plan. soft_of (dimension_at model d) v (route lists v) plan.cumuls) in
      let b : span_part model (assigned model lists) ≡ sum_range (λ v. cond (is_empty (route lists v)) (pos 0) (g v)) 0 (length lists) =
      over-lists (λ d v plan. number_at (dimension_at model d).span_costs v *ℤ (cumul plan (suc (length (route lists v))) -ℤ cumul plan 0)) in
      let s = both f g 0 (length lists) in
      let t : sum_range (λ v. cond (is_empty (route lists v)) (pos 0) (f v +ℤ g v)) 0 (length lists) ≡ sum_over_routes (plans_cost model) lists =
      sum_same (λ v. cond (is_empty (route lists v)) (pos 0) (f v +ℤ g v)) (λ v. plans_cost model v (route lists v)) 0 (length lists)
      (λ v _ _. ap (λ z. cond (is_empty (route lists v)) (pos 0) z)
      (sym (total_by-plus (λ d. soft_with model d v (route lists v)) (λ d. span_with model d v (route lists v)) dims))) in
      omega (arith, ints, a, b, s, t)
    where
      each : (b : Bool) (x y : ℤ) → cond b (pos 0) x +ℤ cond b (pos 0) y ≡ cond b (pos 0) (x +ℤ y)
      each true x y = omega (arith, ints)
      each false x y = refl

      both : (f g : ℕ → ℤ) (a n : ℕ)
          → sum_range (λ v. cond (is_empty (route lists v)) (pos 0) (f v)) a n +ℤ sum_range (λ v. cond (is_empty (route lists v)) (pos 0) (g v)) a n
          ≡ sum_range (λ v. cond (is_empty (route lists v)) (pos 0) (f v +ℤ g v)) a n
      both f g a n =
          sym (total_by-plus (λ v. cond (is_empty (route lists v)) (pos 0) (f v)) (λ v. cond (is_empty (route lists v)) (pos 0) (g v)) (range_with_len a n))
          ∙ sum_same _ _ a n (λ v _ _. each (is_empty (route lists v)) (f v) (g v))

-- ---- where nothing is paid

-- where a list pays nothing in any dimension, it costs nothing
pub idle-all : (model : Model) (v : ℕ) (list : List ℕ)
    → ((d : ℕ) → d < length model.dimensions → PaysNothing (dimension_at model d) v list) → plans_cost model v list ≡ pos 0
idle-all model v list nothing = by (is_empty list)
  where
    none : total_by (λ d. soft_with model d v list +ℤ span_with model d v list) (below (length model.dimensions)) ≡ pos 0
    none = sum_nothing (λ d. soft_with model d v list +ℤ span_with model d v list) 0 (length model.dimensions) (λ d _ low.
        let here = nothing d (omega (arith, low)) in
        let soft = here.soft (chosen_plan_of model d v list).cumuls in
        let span = times-none (number_at (dimension_at model d).span_costs v) (last_with model d v list -ℤ start_with model d v list) here.span in
        omega (arith, ints, soft, span))

    by : (b : Bool) → cond b (pos 0) (total_by (λ d. soft_with model d v list +ℤ span_with model d v list) (below (length model.dimensions))) ≡ pos 0
    by true = refl
    by false = none

-- where it pays nothing in any dimension, its spans cost nothing
pub idle-spans : (model : Model) (v : ℕ) (list : List ℕ)
    → ((d : ℕ) → d < length model.dimensions → PaysNothing (dimension_at model d) v list) → spans_least model v list ≡ pos 0
idle-spans model v list nothing = by (is_empty list)
  where
    none : total_by (λ d. number_at (dimension_at model d).span_costs v *ℤ least_span model d v list) (below (length model.dimensions)) ≡ pos 0
    none = sum_nothing (λ d. number_at (dimension_at model d).span_costs v *ℤ least_span model d v list) 0 (length model.dimensions) (λ d _ low.
        times-none (number_at (dimension_at model d).span_costs v) (least_span model d v list) (nothing d (omega (arith, low))).span)

    by : (b : Bool)
        → cond b (pos 0) (total_by (λ d. number_at (dimension_at model d).span_costs v *ℤ least_span model d v list) (below (length model.dimensions))) ≡ pos 0
    by true = refl
    by false = none

-- two tests that agree at each place of two lists agree on the lists
all-same : {A B : Type 0} (p : A → Bool) (q : B → Bool) (other : B) (xs : List A) (ys : List B) → length xs ≡ length ys
    → ((k : ℕ) (first : A) → k < length xs → p (slice_index_or xs k first) ≡ q (slice_index_or ys k other)) → list_all p xs ≡ list_all q ys
all-same p q other [] [] many same = refl
all-same p q other [] (y ∷ ys) many same = absurd (omega (arith, many))
all-same p q other (x ∷ xs) [] many same = absurd (omega (arith, many))
all-same p q other (x ∷ xs) (y ∷ ys) many same =
    ap₂ (λ a b. a && b) (same 0 x (omega arith)) (all-same p q other xs ys (omega (arith, many)) (λ k first low. same (suc k) first (omega (arith, low))))

-- the tables of a model's dimensions say whether a plan is paid
pub free-tables : (model : Model) (tables : List Table) → AreTables model tables → list_all (λ table. table.is_free) tables ≡ pays_no_plan model
free-tables model tables are =
    all-same (λ table. table.is_free) is_free no_dimension tables model.dimensions are.one_of_each (λ d other low. (are.each d other low).is_free)

-- no list costs anything, and no span does
pub record IsIdle (model : Model) : Type 0 where
  pub plans : (v : ℕ) (list : List ℕ) → plans_cost model v list ≡ pos 0
  pub spans : (v : ℕ) (list : List ℕ) → spans_least model v list ≡ pos 0

-- that is so where no plan is paid
pub idle-where : (model : Model) → pays_no_plan model ≡ true → IsIdle model
idle-where model none = record {
  plans = λ v list. idle-all model v list (λ d low. nothing d low v list);
  spans = λ v list. idle-spans model v list (λ d low. nothing d low v list);
}
  where
    nothing : (d : ℕ) → d < length model.dimensions → (v : ℕ) (list : List ℕ) → PaysNothing (dimension_at model d) v list
    nothing d low v list = pays_nothing_where (dimension_at model d) v list
        (free_pays (dimension_at model d) (all-from_list_all is_free model.dimensions none d no_dimension low) v list)

pub idle-sum : (model : Model) → IsIdle model → (lists : List (List ℕ)) → sum_over_routes (plans_cost model) lists ≡ pos 0
idle-sum model idle lists = sum_nothing (λ v. plans_cost model v (route lists v)) 0 (length lists) (λ v _ _. idle.plans v (route lists v))

-- a cost is read as it is
pub read-cost : (x : ℤ) → IsPlanCost x → to_z w64 (of_z w64 x) ≡ x
read-cost x h = omega (arith, ints, h.low, h.high)

-- nothing is a cost that a list may have
pub nothing-is-cost : IsPlanCost (pos 0)
nothing-is-cost = record { low = omega (arith, ints); high = omega (arith, ints) }

-- ---- dimension by dimension

-- what a list costs in the first n dimensions
pub record IsCostIn (model : Model) (v : ℕ) (list : List ℕ) (n : ℕ) (cost : ℤ) : Type 0 where
  pub sum : cost ≡ total_by (λ d. soft_with model d v list +ℤ span_with model d v list) (below n)
  pub range : IsFrom (plan_saved * n) (plan_paid * n) cost

-- in one dimension more
pub cost-in-more : (model : Model) (v : ℕ) (list : List ℕ) (n : ℕ) (cost one next : ℤ) → IsCostIn model v list n cost
    → one ≡ soft_with model n v list +ℤ span_with model n v list → IsPlanCostIn one → next ≡ cost +ℤ one → IsCostIn model v list (n + 1) next
cost-in-more model v list n cost one next h value small is =
    let f : ℕ → ℤ = λ d. soft_with model d v list +ℤ span_with model d v list in
    let more = total_by-more f n in
    let here : one ≡ f n = value in
    record {
      sum = omega (arith, ints, more, h.sum, here, is);
      range = record { low = omega (arith, ints, is, small.low, h.range.low); high = omega (arith, ints, is, small.high, h.range.high) };
    }

-- in all of them
pub cost-in-all : (model : Model) (v : ℕ) (list : List ℕ) → is_empty list ≡ false → (n : ℕ)
    → n ≡ length model.dimensions → (cost : ℤ) → IsCostIn model v list n cost → cost ≡ plans_cost model v list
cost-in-all model v list some n all cost h =
    let f : ℕ → ℤ = λ d. soft_with model d v list +ℤ span_with model d v list in
    h.sum ∙ ap (λ k. total_by f (below k)) all ∙ sym (ap (λ b. cond b (pos 0) (total_by f (below (length model.dimensions)))) some)

-- ---- what is kept

-- what is like what stands, stands
pub plans-like : (before later : KeptPlans) (tours : Tours) → StandsPlans before tours → ArePlansLike before later → StandsPlans later tours
plans-like before later tours stands like =
    let same = sym like.model in
    record {
      well_formed = subst IsWellFormed same stands.well_formed;
      of_model = stands.of_model ∙ ap visits same;
      valid = subst (λ m. IsTrue (is_valid m tours.lists)) same stands.valid;
      as_many = stands.as_many ∙ ap (λ (m : Model). length m.vehicles) same;
      many = ap (λ (l : List ℤ). length l) like.costs ∙ stands.many ∙ ap (λ (m : Model). length m.vehicles) same;
      costs = λ v known. ap (λ l. number_at l v) like.costs ∙ stands.costs v known ∙ ap (λ (m : Model). plans_cost m v (route tours.lists v)) same;
      range = λ v known. subst (λ l. IsPlanCost (number_at l v)) (sym like.costs) (stands.range v known);
      cumuls = subst (λ (m : Model). AreAllKept m tours.lists later.cumuls) same
          (subst (λ ks. AreAllKept before.model tours.lists ks) (sym like.cumuls) stands.cumuls);
    }

-- The costs of lists that are kept, as they are read.
use Rattle.std.proofs.Common.{◌≡◌, ◌∙◌, ◌<◌, ◌+◌, ◌++◌, ◌∷◌, [], ℕ, List, length, length-append, ap, sym, subst}
use Rattle.std.proofs.lemmas.List.{get_or_default}
use Rattle.std.specs.Prelude.{ℤ, pos, slice_index_or}
use Rattle.vr_model.specs.tables.Numbers.{number_at}
use Rattle.vr_model.specs.routes.Routes.{route}
use Rattle.vr_model.specs.declared.records.Model.{Model}
use Rattle.vr_routes.specs.Pieces.{ListAfter, joined, no_part, part_at}
use Rattle.vr_routes.specs.Changes.{AreParts}
use Rattle.vr_routes.specs.Tours.{Tours}
use Rattle.vr_parts.proofs.RowLemmas.{rows-push}
use Rattle.vr_costfilter.specs.PlanCosts.{cost_after, plans_cost, AreCostsAfter, AreNextCosts, IsPlanCost, KeptPlans, StandsPlans}

-- a cost is that of a list of vehicle v
pub record IsCostOf (model : Model) (v : ℕ) (list : List ℕ) (cost : ℤ) : Type 0 where
  pub value : cost ≡ plans_cost model v list
  pub range : IsPlanCost cost

-- the cost of the list of vehicle v, as it stands in what is kept
pub kept-cost : (kept : KeptPlans) (tours : Tours) → StandsPlans kept tours → (inside : List ℤ)
    → inside ≡ kept.costs → (v : ℕ) → v < length tours.lists → (cost : ℤ) → cost ≡ slice_index_or inside v cost
    → IsCostOf kept.model v (route tours.lists v) cost
kept-cost kept tours h inside same v known cost read =
    let within : v < length inside = subst (λ n. v < n) (sym (ap length same ∙ h.many ∙ sym h.as_many)) known in
    let is : cost ≡ number_at kept.costs v = read ∙ get_or_default inside v cost (pos 0) within ∙ ap (λ l. number_at l v) same in
    record { value = is ∙ h.costs v known; range = subst IsPlanCost (sym is) (h.range v known) }

-- that of the vehicle of part k of a change
pub old-cost : (kept : KeptPlans) (tours : Tours) (parts : List ListAfter) → StandsPlans kept tours → AreParts tours.lists parts
    → (k : ℕ) → k < length parts → (inside : List ℤ) → inside ≡ kept.costs → (v : ℕ) → v ≡ (part_at parts k).vehicle
    → (cost : ℤ) → cost ≡ slice_index_or inside v cost → IsCostOf kept.model v (route tours.lists v) cost
old-cost kept tours parts h are k low inside same v vehicle cost read =
    kept-cost kept tours h inside same v (subst (λ w. w < length tours.lists) (sym vehicle) (are.each_vehicle k no_part low)) cost read

-- the costs of the lists that the first parts give, and that of the next one
pub costs-after-push : (model : Model) (lists : List (List ℕ)) (parts : List ListAfter) (k : ℕ) (costs more : List ℤ) (cost : ℤ)
    → AreCostsAfter model lists parts k costs → cost ≡ cost_after model lists (part_at parts k) → IsPlanCost cost
    → more ≡ costs ++ cost ∷ [] → AreCostsAfter model lists parts (k + 1) more
costs-after-push model lists parts k costs more cost h value range is = record {
  many = ap length is ∙ length-append costs (cost ∷ []) ∙ ap (λ n. n + 1) h.many;
  next = rows-push (λ j x. x ≡ cost_after model lists (part_at parts j)) (pos 0) costs more cost k h.many h.next value is;
  range = rows-push (λ j x. IsPlanCost x) (pos 0) costs more cost k h.many h.range range is;
}

-- the cost of the list that part k of a change gives its vehicle v
pub next-cost : (kept : KeptPlans) (tours : Tours) (parts : List ListAfter) → AreNextCosts kept tours parts
    → (model : Model) → kept.model ≡ model → (k : ℕ) → k < length parts → (v : ℕ) → v ≡ (part_at parts k).vehicle
    → (cost : ℤ) → cost ≡ number_at kept.next k → IsCostOf model v (joined tours.lists (part_at parts k).pieces) cost
next-cost kept tours parts next model same k low v vehicle cost is =
    let list : List ℕ = joined tours.lists (part_at parts k).pieces in
    record {
      value = is ∙ next.next k low ∙ ap (λ m. plans_cost m (part_at parts k).vehicle list) same ∙ ap (λ w. plans_cost model w list) (sym vehicle);
      range = subst IsPlanCost (sym is) (next.range k low);
    }

-- The plans of routes at their chosen schedules.
use Rattle.std.proofs.Common.{◌≡◌, ◌∙◌, ◌<◌, ◌≤◌, ◌+◌, ℕ, zero, suc, List, [], ◌∷◌, Bool, true, false, cond, not, length, map, refl, ap, ap₂, sym, subst, arith}
use Rattle.std.specs.Prelude.{ℤ, ◌+ℤ◌, filter, All, slice_index_or, unwrap_or}
use Rattle.std.specs.List.{range_with_len}
use Rattle.std.proofs.lemmas.List.FromFn.{get_or-map-range_with_len}
use Rattle.std.proofs.lemmas.List.Elements.{All-nil, All-cons}
use Rattle.vr_model.specs.declared.records.Model.{Model}
use Rattle.vr_model.specs.tables.Numbers.{total_by}
use Rattle.vr_model.specs.routes.Routes.{route, is_empty, used_vehicles}
use Rattle.vr_model.specs.routes.Costs.{no_plan, plan_at, chosen_plans, assigned}
use Rattle.vr_model.specs.schedules.Narrowed.{chosen_line}
use Rattle.vr_model.specs.schedules.Choices.{chosen}
use Rattle.vr_plan.specs.Timings.{chosen_plan_of}

-- ---- what holds of all used vehicles

pub total_by-within : {A : Type 0} (f g : A → ℤ) (xs : List A) → All (λ x. f x ≡ g x) xs → total_by f xs ≡ total_by g xs
total_by-within f g [] h = refl
total_by-within f g (x ∷ xs) h = ap₂ (λ a b. a +ℤ b) (h 0 x (omega arith)) (total_by-within f g xs (λ k d low. h (suc k) d (omega (arith, low))))

pub map-within : {A B : Type 0} (f g : A → B) (xs : List A) → All (λ x. f x ≡ g x) xs → map f xs ≡ map g xs
map-within f g [] h = refl
map-within f g (x ∷ xs) h = ap₂ (λ y ys. y ∷ ys) (h 0 x (omega arith)) (map-within f g xs (λ k d low. h (suc k) d (omega (arith, low))))

-- what holds of each used vehicle holds of all
pub used-all : (P : ℕ → Type 0) (lists : List (List ℕ)) → ((v : ℕ) → v < length lists → is_empty (route lists v) ≡ false → P v) → All P (used_vehicles lists)
used-all P lists h = go 0 (length lists) (omega arith)
  where
    go : (a n : ℕ) → a + n ≤ length lists → All P (filter (λ v. not (is_empty (route lists v))) (range_with_len a n))
    go a zero within = All-nil P
    go a (suc n) within = by (is_empty (route lists a)) refl (go (a + 1) n (omega (arith, within)))
      where
        by : (b : Bool) → is_empty (route lists a) ≡ b → All P (filter (λ v. not (is_empty (route lists v))) (range_with_len (a + 1) n))
            → All P
            (cond (not (is_empty (route lists a))) (a ∷ filter (λ v. not (is_empty (route lists v))) (range_with_len (a + 1) n))
            (filter (λ v. not (is_empty (route lists v))) (range_with_len (a + 1) n)))
        by true e rest = subst (λ b. All P
            (cond (not b) (a ∷ filter (λ v. not (is_empty (route lists v))) (range_with_len (a + 1) n))
            (filter (λ v. not (is_empty (route lists v))) (range_with_len (a + 1) n)))) (sym e) rest
        by false e rest = subst (λ b. All P
            (cond (not b) (a ∷ filter (λ v. not (is_empty (route lists v))) (range_with_len (a + 1) n))
            (filter (λ v. not (is_empty (route lists v))) (range_with_len (a + 1) n)))) (sym e)
            (All-cons P a (filter (λ v. not (is_empty (route lists v))) (range_with_len (a + 1) n)) (h a (omega (arith, within)) e) rest)

-- ---- the plans of an assignment

module _ (model : Model) where
  chosen-at : (d v : ℕ) (list : List ℕ) → d < length model.dimensions → is_empty list ≡ false
      → slice_index_or (chosen_plans model v list) d no_plan ≡ chosen_plan_of model d v list
  chosen-at d v [] low some = absurd (cc)
  chosen-at d v (x ∷ xs) low some =
      get_or-map-range_with_len (λ d. unwrap_or (chosen (chosen_line model d v (x ∷ xs))) no_plan) 0 (length model.dimensions) d d no_plan low (omega arith)

  module _ (lists : List (List ℕ)) where
    -- the plan of a used vehicle
    pub plan-at : (d v : ℕ) → d < length model.dimensions → v < length lists → is_empty (route lists v) ≡ false
        → plan_at (assigned model lists) d v ≡ chosen_plan_of model d v (route lists v)
    plan-at d v low known some =
        ap (λ plans. slice_index_or plans d no_plan)
        (get_or-map-range_with_len (λ v. chosen_plans model v (route lists v)) 0 (length lists) v v [] known (omega arith))
        ∙ chosen-at d v (route lists v) low some

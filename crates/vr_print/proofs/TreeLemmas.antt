-- Trees that are printed.
use Rattle.std.proofs.Common.{◌≡◌, ◌∙◌, ◌≤◌, ◌<◌, ◌+◌, ◌++◌, ◌&&◌, ℕ, ℤ, pos, negsuc, max, List, [], ◌∷◌, Bool, true, false, cond, refl, ap, arith, map, length}
use Rattle.std.specs.Prelude.{filter, slice_index_or, unwrap_or}
use Rattle.std.proofs.lemmas.List.Elements.{filter-append}
use Rattle.std.proofs.lemmas.List.FromFn.{get_or-map-range_with_len}
use Rattle.serde_json.specs.Data.{Data, array, no_items, depth, items_depth}
use Rattle.serde_json.specs.Find.{of_integer, is_float}
use Rattle.serde_json.specs.Read.{max_depth}
use Rattle.serde_json.specs.View.{items_of}
use Rattle.serde_json.specs.Written.{has_float, items_have_float}
use Rattle.vr_model.specs.tables.Numbers.{below}
use Rattle.vr_model.specs.declared.records.Dimension.{Dimension}
use Rattle.vr_model.specs.declared.records.Model.{Model}
use Rattle.vr_model.specs.declared.records.Parts.{Parts}
use Rattle.vr_model.specs.declared.records.Report.{Report}
use Rattle.vr_model.specs.routes.Costs.{Assignment, assigned, chosen_plans, no_plan, parts_at, plan_at}
use Rattle.vr_model.specs.routes.Routes.{inactive, is_empty, route, vehicles}
use Rattle.vr_model.specs.schedules.Choices.{chosen}
use Rattle.vr_model.specs.schedules.Narrowed.{chosen_line}
use Rattle.vr_model.specs.schedules.Schedules.{Plan}
use Rattle.vr_model.proofs.tables.Ranges.{below-more}
use Rattle.vr_print.specs.Numbers.{whole}
use Rattle.vr_json.specs.Trees.{count}
use Rattle.vr_print.specs.Solution.{assignment_tree, tree_of, dimension_tree, used_plans_tree, plans_tree, parts_tree, plan_tree, route_nodes, route_tree}

-- ---- numbers below another

filter-one : (p q : ℕ → Bool) (n : ℕ) → filter p (filter q (n ∷ [])) ≡ cond (q n && p n) (n ∷ []) []
filter-one p q n = elim (q n) as (λ b. filter p (cond b (n ∷ []) []) ≡ cond (b && p n) (n ∷ []) []) [ true ↦ refl | false ↦ refl ]

-- of one number more, those that pass both tests
pub filter-below_more : (p q : ℕ → Bool) (n : ℕ) → filter p (filter q (below (n + 1))) ≡ filter p (filter q (below n)) ++ cond (q n && p n) (n ∷ []) []
filter-below_more p q n =
    ap (λ ns. filter p (filter q ns)) (below-more n) ∙ ap (filter p) (filter-append q (below n) (n ∷ []))
    ∙ filter-append p (filter q (below n)) (filter q (n ∷ [])) ∙ ap (λ ns. filter p (filter q (below n)) ++ ns) (filter-one p q n)

-- ---- the plans of an assignment

chosen-at : (model : Model) (d v : ℕ) (list : List ℕ) → d < length model.dimensions → is_empty list ≡ false
    → slice_index_or (chosen_plans model v list) d no_plan ≡ unwrap_or (chosen (chosen_line model d v list)) no_plan
chosen-at model d v [] low some = absurd (cc)
chosen-at model d v (x ∷ xs) low some =
    get_or-map-range_with_len (λ d. unwrap_or (chosen (chosen_line model d v (x ∷ xs))) no_plan) 0 (length model.dimensions) d d no_plan low (omega arith)

-- the plan of a used vehicle
pub plan-at : (model : Model) (lists : List (List ℕ)) (d v : ℕ) → d < length model.dimensions → v < length lists → is_empty (route lists v) ≡ false
    → plan_at (assigned model lists) d v ≡ unwrap_or (chosen (chosen_line model d v (route lists v))) no_plan
plan-at model lists d v low known some =
    ap (λ plans. slice_index_or plans d no_plan)
    (get_or-map-range_with_len (λ v. chosen_plans model v (route lists v)) 0 (length lists) v v [] known (omega arith))
    ∙ chosen-at model d v (route lists v) low some

-- ---- no float stands in a tree, and it is not deep

pub is_float-whole : (z : ℤ) → is_float (of_integer z) ≡ false
is_float-whole (pos n) = refl
is_float-whole (negsuc n) = refl

no_float_counts : (numbers : List ℕ) → items_have_float (items_of (map count numbers)) ≡ false
no_float_counts [] = refl
no_float_counts (n ∷ numbers) = no_float_counts numbers

pub no_float_wholes : (numbers : List ℤ) → items_have_float (items_of (map whole numbers)) ≡ false
no_float_wholes [] = refl
no_float_wholes (n ∷ numbers) = rw (is_float-whole n) (no_float_wholes numbers)

flat_counts : (numbers : List ℕ) → items_depth (items_of (map count numbers)) ≡ 0
flat_counts [] = refl
flat_counts (n ∷ numbers) = ap (max 0) (flat_counts numbers)

pub flat_wholes : (numbers : List ℤ) → items_depth (items_of (map whole numbers)) ≡ 0
flat_wholes [] = refl
flat_wholes (n ∷ numbers) = ap (max 0) (flat_wholes numbers)

-- items that each have no float, and are no deeper than n
no_float_items : {A : Type 0} (f : A → Data) → ((x : A) → has_float (f x) ≡ false) → (xs : List A) → items_have_float (items_of (map f xs)) ≡ false
no_float_items f h [] = refl
no_float_items f h (x ∷ xs) = rw (h x) (no_float_items f h xs)

depth_items : {A : Type 0} (f : A → Data) (n : ℕ) → ((x : A) → depth (f x) ≤ n) → (xs : List A) → items_depth (items_of (map f xs)) ≤ n
depth_items f n h [] = omega arith
depth_items f n h (x ∷ xs) = omega (arith, h x, depth_items f n h xs)

no_float_plan : (dimension : Dimension) (plan : Plan) → has_float (plan_tree dimension plan) ≡ false
unfolding plan_tree
no_float_plan dimension plan = simp no_float_wholes

depth_plan : (dimension : Dimension) (plan : Plan) → depth (plan_tree dimension plan) ≤ 2
unfolding plan_tree
depth_plan dimension plan = omega (arith, flat_wholes plan.breaks, flat_wholes plan.cumuls, flat_wholes plan.slacks)

no_float_plans : (model : Model) (assignment : Assignment) (v : ℕ) → has_float (plans_tree model assignment v) ≡ false
no_float_plans model assignment v = by (is_empty (route assignment.lists v))
  where
    by : (b : Bool) → has_float (cond b (array no_items) (used_plans_tree model assignment v)) ≡ false
    by true = refl
    by false = no_float_items (dimension_tree model assignment v) (λ d. no_float_plan _ (plan_at assignment d v)) (below (length model.dimensions))

depth_plans : (model : Model) (assignment : Assignment) (v : ℕ) → depth (plans_tree model assignment v) ≤ 3
depth_plans model assignment v = by (is_empty (route assignment.lists v))
  where
    by : (b : Bool) → depth (cond b (array no_items) (used_plans_tree model assignment v)) ≤ 3
    by true = omega arith
    by false =
        let h = depth_items (dimension_tree model assignment v) 2 (λ d. depth_plan _ (plan_at assignment d v)) (below (length model.dimensions)) in
        omega (arith, h)

no_float_route : (model : Model) (assignment : Assignment) (v : ℕ) → has_float (route_tree model assignment v) ≡ false
unfolding route_tree
no_float_route model assignment v =
    let plans = no_float_plans model assignment v in
    let nodes = no_float_counts (route_nodes model v (route assignment.lists v)) in
    rw (plans, nodes) refl

depth_route : (model : Model) (assignment : Assignment) (v : ℕ) → depth (route_tree model assignment v) ≤ 4
unfolding route_tree
depth_route model assignment v =
    let plans = depth_plans model assignment v in
    let nodes = flat_counts (route_nodes model v (route assignment.lists v)) in
    omega (arith, plans, nodes)

no_float_parts : (parts : Parts) → has_float (parts_tree parts) ≡ false
unfolding parts_tree
no_float_parts parts = simp is_float-whole

depth_parts : (parts : Parts) → depth (parts_tree parts) ≤ 1
unfolding parts_tree
depth_parts parts = omega arith

-- a tree that may be printed as a line: no float stands in it, and it is not too deep
pub record IsPrintable (d : Data) : Type 0 where
  pub whole : has_float d ≡ false
  pub nested : depth d ≤ max_depth

pub assignment-printable : (model : Model) (assignment : Assignment) (first_cost : ℤ) (report : Report)
    → IsPrintable (assignment_tree model assignment first_cost report)
unfolding assignment_tree tree_of
assignment-printable model assignment first_cost report =
    let routes = no_float_items (route_tree model assignment) (no_float_route model assignment) (vehicles assignment.lists) in
    let parts = no_float_parts (parts_at model assignment) in
    let deep = depth_items (route_tree model assignment) 4 (depth_route model assignment) (vehicles assignment.lists) in
    let flat = flat_counts (inactive model assignment.lists) in
    let low = depth_parts (parts_at model assignment) in record {
      whole = simp (is_float-whole, no_float_counts, routes, parts);
      nested = omega (arith, deep, flat, low);
    }

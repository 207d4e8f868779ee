-- No rule on printed nodes finds anything in valid lists.
use Rattle.std.proofs.Common.{◌≡◌, ◌∙◌, ℕ, zero, suc, ◌+◌, ◌<◌, ◌++◌, Bool, true, false, not, ◌||◌, List, [], ◌∷◌, length, take, get_or, None, refl, sym, ap}
use Rattle.std.proofs.Common.{ap₂, inl, inr, arith, length-append}
use Rattle.std.specs.Prelude.{◌==◌, IsTrue, slice_index, if◌then◌else◌}
use Rattle.std.specs.List.{list_all, concat}
use Rattle.std.proofs.Math.Seq.{get_or-append_seam}
use Rattle.std.proofs.lemmas.Bool.{cases_lt, eqb-true}
use Rattle.std.proofs.lemmas.List.{get_or_append_left}
use Rattle.std.proofs.lemmas.List.Folds.{list_any_at}
use Rattle.vr_model.specs.tables.Tables.{is_visit, vehicle_at}
use Rattle.vr_model.specs.deciding.Testing.{and_left, and_right, test_of_eq}
use Rattle.vr_model.specs.routes.Routes.{route, holds, is_active, is_distinct, inactive}
use Rattle.vr_model.specs.routes.Rules.{is_valid}
use Rattle.vr_model.specs.declared.records.Model.{Model}
use Rattle.vr_model.proofs.tables.Tests.{clash, fails, fails_not, eq_turned, apart, all-from_list_all}
use Rattle.vr_model.proofs.routes.Lists.{is_active-concat, is_distinct-right, held_at, is_same-self, route-distinct}
use Rattle.vr_rules.proofs.PlacingLemmas.{is_distinct-apart}
use Rattle.vr_print.specs.Solution.{route_nodes}
use Rattle.vr_check.specs.Findings.{spot, nowhere, where_wrong}
use Rattle.vr_check.specs.Lists.{node_at, is_right_node, ends_broken_at, ends_broken_of, once_broken_at, once_broken_in, once_broken}
use Rattle.vr_check.specs.Visits.{dropped_broken}
use Rattle.vr_check.proofs.ValidLists.{nothing, right, are}

-- a test that passes is not wrong where no place is said
pub right_nowhere : (b : Bool) → b ≡ true → where_wrong (not b) nowhere ≡ None
right_nowhere b e = ap (λ b. where_wrong (not b) nowhere) e

-- ---- ends

not_first : (j : ℕ) → (suc j == 0) ≡ false
not_first j = apart (suc j) 0 (λ e. omega (arith, e))

right_nodes : (model : Model) (v : ℕ) (list : List ℕ) → IsTrue (list_all (is_visit model) list) → (k : ℕ)
    → k < length (route_nodes model v list) → IsTrue (is_right_node model v (route_nodes model v list) k)
right_nodes model v [] visits k low = absurd (omega (arith, low))
right_nodes model v (x ∷ xs) visits zero low = test_of_eq (vehicle_at model v).start (vehicle_at model v).start refl
right_nodes model v (x ∷ xs) visits (suc j) low =
    ap (λ b. if b then (node_at nodes (suc j) == (vehicle_at model v).start) else behind (suc j + 1 == length nodes)) (not_first j)
    ∙ by (suc j + 1 == length nodes) refl
  where
    list : List ℕ
    list = x ∷ xs

    final : ℕ
    final = (vehicle_at model v).end

    nodes : List ℕ
    nodes = route_nodes model v (x ∷ xs)

    behind : Bool → Bool
    behind b = if b then (node_at nodes (suc j) == (vehicle_at model v).end) else is_visit model (node_at nodes (suc j))

    count : length (list ++ final ∷ []) ≡ length list + 1
    count = omega (arith, length-append list (final ∷ []))

    by : (b : Bool) → (suc j + 1 == length nodes) ≡ b → IsTrue (behind b)
    by true e =
        let last : length list ≡ j = omega (arith, eqb-true (suc j + 1) (length nodes) e, count) in
        test_of_eq (get_or (list ++ final ∷ []) j 0) final (ap (λ k. get_or (list ++ final ∷ []) k 0) (sym last) ∙ get_or-append_seam list final [] 0)
    by false e =
        let inside : j < length list = elim (cases_lt j (length list)) [
          | inl low ↦ low
          | inr high ↦ absurd (clash (suc j + 1 == length nodes) (test_of_eq (suc j + 1) (length nodes) (omega (arith, high, low, count))) e)
        ] in
        ap (is_visit model) (get_or_append_left list (final ∷ []) 0 j inside) ∙ all-from_list_all (is_visit model) list visits j 0 inside

pub no_wrong_end : (model : Model) (v : ℕ) (list : List ℕ) → IsTrue (list_all (is_visit model) list) → ends_broken_of model v (route_nodes model v list) ≡ None
no_wrong_end model v list visits =
    let nodes : List ℕ = route_nodes model v list in
    nothing (ends_broken_at model v nodes) (length nodes) (λ k low. right (is_right_node model v nodes k) v k (right_nodes model v list visits k low))

-- ---- no visit twice

held_none : (xs : List ℕ) (x k : ℕ) → holds xs x ≡ false → k < length xs → (get_or xs k 0 == x) ≡ false
held_none xs x k none low = eq_turned (get_or xs k 0) x ∙ fails (x == get_or xs k 0) (λ t. clash (holds xs x) (list_any_at (λ y. x == y) xs k 0 low t) none)

none_before_in_list : (xs : List ℕ) (k : ℕ) → is_distinct xs ≡ true → k < length xs → holds (take k xs) (get_or xs k 0) ≡ false
none_before_in_list [] k d low = absurd (omega (arith, low))
none_before_in_list (x ∷ xs) zero d low = refl
none_before_in_list (x ∷ xs) (suc k) d low =
    ap₂ (λ a b. a || b) (held_none xs x k (fails_not (holds xs x) (and_left (not (holds xs x)) (is_distinct xs) d)) (omega (arith, low)))
    (none_before_in_list xs k (and_right (not (holds xs x)) (is_distinct xs) d) (omega (arith, low)))

none_before : (lists : List (List ℕ)) (v k : ℕ) → is_distinct (concat lists) ≡ true → v < length lists
    → k < length (route lists v) → is_active (take v lists) (get_or (route lists v) k 0) ≡ false
none_before [] v k d low here = absurd (omega (arith, low))
none_before (list ∷ lists) zero k d low here = refl
none_before (list ∷ lists) (suc v) k d low here =
    let x : ℕ = get_or (route lists v) k 0 in
    let held : holds (concat lists) x ≡ true = sym (is_active-concat lists x)
    ∙ list_any_at (λ l. holds l x) lists v [] (omega (arith, low)) (held_at (route lists v) x k here (held_default (route lists v) k here)) in
    ap₂ (λ a b. a || b) (fails (holds list x) (λ t. clash (holds (concat lists) x) held (is_distinct-apart list (concat lists) d x t)))
    (none_before lists v k (is_distinct-right list (concat lists) d) (omega (arith, low)) here)
  where
    held_default : (xs : List ℕ) (k : ℕ) → k < length xs → slice_index xs k ≡ get_or xs k 0
    held_default xs k low = refl

pub none_twice : (lists : List (List ℕ)) → is_distinct (concat lists) ≡ true → ((v : ℕ) → is_distinct (route lists v) ≡ true) → once_broken lists ≡ None
none_twice lists d each = nothing (once_broken_in lists) (length lists) (λ v low.
    nothing (once_broken_at lists v (route lists v)) (length (route lists v)) (λ k here. ap (λ b. where_wrong b (spot v (k + 1)))
    (ap₂ (λ a b. a || b) (none_before lists v k d low here) (none_before_in_list (route lists v) k (each v) here))))

-- ---- what valid lists keep

module _ (model : Model) (lists : List (List ℕ)) (valid : IsTrue (is_valid model lists)) where
  pub nothing_dropped : dropped_broken model lists (inactive model lists) ≡ None
  nothing_dropped = right_nowhere _ (is_same-self (inactive model lists))

  pub nothing_twice : once_broken lists ≡ None
  nothing_twice =
      none_twice lists (and_right (list_all (is_visit model) (concat lists)) _ (and_right (length lists == length model.vehicles) _ (are model lists valid)))
      (λ v. route-distinct model lists v (are model lists valid))

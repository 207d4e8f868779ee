-- What is known of the lists of a model, of a list with one more visit, and of lists with another list for one vehicle.
use Rattle.std.proofs.Common.{ap, eq-eqb, ◌≢◌, get_or, replicate, inl, inr, ◌≡◌, ◌∙◌, ◌<◌, ◌≤◌, ◌++◌, ℕ, zero, suc, List, [], ◌∷◌, Bool, true, false, not, refl}
use Rattle.std.proofs.Common.{ap₂, sym, arith, length}
use Rattle.std.specs.Prelude.{IsTrue, ◌&&◌, ◌||◌, ◌==◌, All, nat_eq, slice_index, slice_index_or}
use Rattle.std.specs.List.{list_all, concat, IsDistinct, AllByRecursion}
use Rattle.std.proofs.lemmas.Bool.{eqb-true}
use Rattle.std.proofs.lemmas.Bool.Decides.{nat_tests}
use Rattle.std.proofs.Math.Bool.{or-false}
use Rattle.std.proofs.lemmas.List.{get_or-set_other, get_or-set_same, get_or_default}
use Rattle.std.proofs.lemmas.List.Elements.{All-weaker, All-contains}
use Rattle.std.proofs.lemmas.List.Folds.{list_all-append, list_any-append}
use Rattle.std.proofs.lemmas.Map.Steps.{length-le_from_distinct_below}
use Rattle.std.proofs.lemmas.Map.Views.{Contains-from_any}
use Rattle.vr_model.specs.declared.records.Model.{Model}
use Rattle.vr_model.specs.tables.Tables.{is_visit}
use Rattle.vr_model.specs.routes.Routes.{route, holds, is_same, is_empty, is_active, is_distinct, are_lists}
use Rattle.vr_model.specs.routes.Rules.{is_valid}
use Rattle.vr_model.specs.moves.Moves.{with_route}
use Rattle.vr_model.specs.deciding.Testing.{and_left, and_right, and_both, or_cases, or_left, or_right, eq_of_test, test_of_eq}
use Rattle.vr_model.proofs.tables.Tests.{clash, fails_not, or-false_left, or-false_right, apart, all-from_list_all}

pub visit_below : (model : Model) (node : ℕ) → is_visit model node ≡ true → node < model.nodes
visit_below model node h = grind (arith, nat_tests)

pub holds-push : (list : List ℕ) (x y : ℕ) → holds (list ++ x ∷ []) y ≡ (holds list y || (y == x))
holds-push list x y = list_any-append (λ z. y == z) list (x ∷ []) ∙ ap (λ b. holds list y || b) (or-false (y == x))

pub is_distinct-push : (list : List ℕ) (x : ℕ) → is_distinct list ≡ true → holds list x ≡ false → is_distinct (list ++ x ∷ []) ≡ true
is_distinct-push [] x d h = refl
is_distinct-push (y ∷ ys) x d h =
    let other : (y == x) ≡ false = apart y x (λ same. absurd (clash (x == y) (eq-eqb x y (sym same)) (or-false_left (x == y) (holds ys x) h))) in
    let absent : holds (ys ++ x ∷ []) y ≡ false = holds-push ys x y
    ∙ ap₂ (λ a b. a || b) (fails_not (holds ys y) (and_left (not (holds ys y)) (is_distinct ys) d)) other in
    ap₂ (λ a b. not a && b) absent (is_distinct-push ys x (and_right (not (holds ys y)) (is_distinct ys) d) (or-false_right (x == y) (holds ys x) h))

pub are_lists-count : (model : Model) (lists : List (List ℕ)) → are_lists model lists ≡ true → length lists ≡ length model.vehicles
are_lists-count model lists h = eqb-true (length lists) (length model.vehicles) (and_left (length lists == length model.vehicles) _ h)

-- a test that passes on all entries of the lists passes on those of each list
pub list_all-route : (p : ℕ → Bool) (lists : List (List ℕ)) (v : ℕ) → list_all p (concat lists) ≡ true → list_all p (route lists v) ≡ true
list_all-route p [] v h = refl
list_all-route p (list ∷ lists) zero h = and_left (list_all p list) (list_all p (concat lists)) (sym (list_all-append p list (concat lists)) ∙ h)
list_all-route p (list ∷ lists) (suc v) h =
    list_all-route p lists v (and_right (list_all p list) (list_all p (concat lists)) (sym (list_all-append p list (concat lists)) ∙ h))

pub is_distinct-left : (xs ys : List ℕ) → is_distinct (xs ++ ys) ≡ true → is_distinct xs ≡ true
is_distinct-left [] ys h = refl
is_distinct-left (x ∷ xs) ys h =
    let nowhere : (holds xs x || holds ys x) ≡ false = sym (list_any-append (λ y. x == y) xs ys)
    ∙ fails_not (holds (xs ++ ys) x) (and_left (not (holds (xs ++ ys) x)) (is_distinct (xs ++ ys)) h) in
    ap₂ (λ a b. not a && b) (or-false_left (holds xs x) (holds ys x) nowhere)
    (is_distinct-left xs ys (and_right (not (holds (xs ++ ys) x)) (is_distinct (xs ++ ys)) h))

pub is_distinct-right : (xs ys : List ℕ) → is_distinct (xs ++ ys) ≡ true → is_distinct ys ≡ true
is_distinct-right [] ys h = h
is_distinct-right (x ∷ xs) ys h = is_distinct-right xs ys (and_right (not (holds (xs ++ ys) x)) (is_distinct (xs ++ ys)) h)

pub is_distinct-route : (lists : List (List ℕ)) (v : ℕ) → is_distinct (concat lists) ≡ true → is_distinct (route lists v) ≡ true
is_distinct-route [] v h = refl
is_distinct-route (list ∷ lists) zero h = is_distinct-left list (concat lists) h
is_distinct-route (list ∷ lists) (suc v) h = is_distinct-route lists v (is_distinct-right list (concat lists) h)

absent : (xs : List ℕ) (x : ℕ) → holds xs x ≡ false → AllByRecursion (λ y. nat_eq x y ≡ false) xs
absent [] x h = tt
absent (y ∷ ys) x h = (or-false_left (x == y) (holds ys x) h, absent ys x (or-false_right (x == y) (holds ys x) h))

pub IsDistinct-from_is_distinct : (xs : List ℕ) → is_distinct xs ≡ true → IsDistinct nat_eq xs
unfolding IsDistinct
IsDistinct-from_is_distinct [] h = tt
IsDistinct-from_is_distinct (x ∷ xs) h = (
  absent xs x (fails_not (holds xs x) (and_left (not (holds xs x)) (is_distinct xs) h)),
  IsDistinct-from_is_distinct xs (and_right (not (holds xs x)) (is_distinct xs) h),
)

-- each entry of a list is a node
pub route-below : (model : Model) (lists : List (List ℕ)) (v : ℕ) → are_lists model lists ≡ true → All (λ node. node < model.nodes) (route lists v)
route-below model lists v h =
    let visits = list_all-route (is_visit model) lists v
    (and_left (list_all (is_visit model) (concat lists)) _ (and_right (length lists == length model.vehicles) _ h)) in
    All-weaker (λ node. is_visit model node ≡ true) (λ node. node < model.nodes)
    (visit_below model) (route lists v) (all-from_list_all (is_visit model) (route lists v) visits)

-- a list has no more entries than there are nodes
pub route-few : (model : Model) (lists : List (List ℕ)) (v : ℕ) → are_lists model lists ≡ true → length (route lists v) ≤ model.nodes
route-few model lists v h =
    let distinct = is_distinct-route lists v (and_right (list_all (is_visit model) (concat lists)) _ (and_right (length lists == length model.vehicles) _ h)) in
    length-le_from_distinct_below (route lists v) model.nodes (IsDistinct-from_is_distinct (route lists v) distinct)
    (λ q a. All-contains (λ node. node < model.nodes) (route lists v) q
    (route-below model lists v h) (Contains-from_any (λ x y e. eqb-true x y e) q (route lists v) a))

-- valid lists are lists of the model
pub are-lists : (model : Model) (lists : List (List ℕ)) → is_valid model lists ≡ true → are_lists model lists ≡ true
unfolding is_valid
are-lists model lists h = and_left (are_lists model lists) _ h

pub route-visits : (model : Model) (lists : List (List ℕ)) (v : ℕ) → are_lists model lists ≡ true → list_all (is_visit model) (route lists v) ≡ true
route-visits model lists v h =
    list_all-route (is_visit model) lists v (and_left (list_all (is_visit model) (concat lists)) _ (and_right (length lists == length model.vehicles) _ h))

pub route-distinct : (model : Model) (lists : List (List ℕ)) (v : ℕ) → are_lists model lists ≡ true → is_distinct (route lists v) ≡ true
route-distinct model lists v h =
    is_distinct-route lists v (and_right (list_all (is_visit model) (concat lists)) _ (and_right (length lists == length model.vehicles) _ h))

-- all lists together have no more entries than there are nodes
pub visits-few : (model : Model) (lists : List (List ℕ)) → are_lists model lists ≡ true → length (concat lists) ≤ model.nodes
visits-few model lists h =
    let rest = and_right (length lists == length model.vehicles) _ h in
    let below = All-weaker (λ node. is_visit model node ≡ true) (λ node. node < model.nodes) (visit_below model) (concat lists)
    (all-from_list_all (is_visit model) (concat lists) (and_left (list_all (is_visit model) (concat lists)) _ rest)) in
    length-le_from_distinct_below (concat lists) model.nodes
    (IsDistinct-from_is_distinct (concat lists) (and_right (list_all (is_visit model) (concat lists)) _ rest))
    (λ q a. All-contains (λ node. node < model.nodes) (concat lists) q below (Contains-from_any (λ x y e. eqb-true x y e) q (concat lists) a))

-- a visit of a list is a node
pub visit_at : (model : Model) (list : List ℕ) (k d : ℕ) → IsTrue (list_all (is_visit model) list) → k < length list → slice_index_or list k d < model.nodes
visit_at model list k d h low = visit_below model (slice_index_or list k d) (all-from_list_all (is_visit model) list h k d low)

-- ---- which nodes are active

pub is_active-concat : (lists : List (List ℕ)) (x : ℕ) → is_active lists x ≡ holds (concat lists) x
is_active-concat [] x = refl
is_active-concat (list ∷ lists) x = ap (λ b. holds list x || b) (is_active-concat lists x) ∙ sym (list_any-append (λ y. x == y) list (concat lists))

pub is_active-none : (n node : ℕ) → is_active (replicate n []) node ≡ false
is_active-none zero node = refl
is_active-none (suc n) node = is_active-none n node

pub route-none : (n v : ℕ) → route (replicate n []) v ≡ []
route-none zero v = refl
route-none (suc n) zero = refl
route-none (suc n) (suc v) = route-none n v

-- where a number that a list holds stands
pub place_of_held : (xs : List ℕ) (x : ℕ) → IsTrue (holds xs x) → (k : ℕ) × (k < length xs) × (slice_index xs k ≡ x)
place_of_held [] x h = absurd (clash false h refl)
place_of_held (y ∷ ys) x h = elim (or_cases (x == y) _ h) [
  | inl here ↦ (0, omega arith, sym (eq_of_test x y here))
  | inr later ↦ (let r = place_of_held ys x later in (suc r.0, omega (arith, r.1), r.2))
]

pub held_at : (xs : List ℕ) (x k : ℕ) → k < length xs → slice_index xs k ≡ x → IsTrue (holds xs x)
held_at [] x k low e = absurd (omega (arith, low))
held_at (y ∷ ys) x zero low e = or_left (x == y) _ (test_of_eq x y (sym e))
held_at (y ∷ ys) x (suc k) low e = or_right (x == y) _ (held_at ys x k (omega (arith, low)) e)

-- ---- empty lists

pub not_empty : (list : List ℕ) → 0 < length list → is_empty list ≡ false
not_empty [] some = absurd (omega arith)
not_empty (x ∷ xs) some = refl

pub empty_where : (list : List ℕ) → length list ≡ 0 → is_empty list ≡ true
empty_where [] e = refl
empty_where (x ∷ xs) e = absurd (omega (arith, e))

-- ---- the same lists

pub same_of_test : (xs ys : List ℕ) → IsTrue (is_same xs ys) → xs ≡ ys
same_of_test [] [] h = refl
same_of_test [] (y ∷ ys) h = absurd (clash false h refl)
same_of_test (x ∷ xs) [] h = absurd (clash false h refl)
same_of_test (x ∷ xs) (y ∷ ys) h = ap₂ (λ z zs. z ∷ zs) (eq_of_test x y (and_left (x == y) _ h)) (same_of_test xs ys (and_right (x == y) _ h))

pub is_same-self : (xs : List ℕ) → IsTrue (is_same xs xs)
is_same-self [] = refl
is_same-self (x ∷ xs) = and_both (x == x) _ (test_of_eq x x refl) (is_same-self xs)

-- ---- lists with another list for vehicle v

pub route_set_same : (lists : List (List ℕ)) (v : ℕ) (list : List ℕ) → v < length lists → route (with_route lists v list) v ≡ list
route_set_same lists v list low = get_or-set_same lists v list [] low

pub route_set_other : (lists : List (List ℕ)) (v w : ℕ) (list : List ℕ) → w ≢ v → route (with_route lists v list) w ≡ route lists w
route_set_other lists v w list other = get_or-set_other lists v w list [] other

-- a list that was read as that of vehicle v
pub list_at : (lists : List (List ℕ)) (v : ℕ) (list read : List ℕ) → list ≡ read → read ≡ get_or lists v read → v < length lists → list ≡ route lists v
list_at lists v list read is at low = is ∙ at ∙ get_or_default lists v read [] low

-- Visits, and the lists of routes.
use Rattle.std.proofs.Common.{◌⊎◌, inl, inr, length-set, ◌≡◌, ◌∙◌, ℕ, zero, suc, ◌+◌, ◌<◌, ◌≤◌, Bool, true, false, List, [], ◌∷◌, ◌++◌, length, refl, sym, ap}
use Rattle.std.proofs.Common.{subst, arith, replicate, append_assoc, cond, add-one}
use Rattle.std.specs.Prelude.{◌==◌, nat_lt, slice_index, IsTrue, All, slice_set, filter}
use Rattle.std.proofs.lemmas.List.Elements.{All-filter, filter_passes}
use Rattle.std.specs.List.Sorted.{IsStrictlyIncreasing}
use Rattle.std.proofs.lemmas.List.Kept.{IsStrictlyIncreasing-filter}
use Rattle.std.proofs.lemmas.List.Sums.{length-filter, count_by-le-length}
use Rattle.std.proofs.lemmas.List.FromFn.{length-range_with_len, get_or-range_with_len}
use Rattle.std.proofs.lemmas.List.{get_or_append_left, get_or_push, length-append}
use Rattle.std.proofs.lemmas.Bool.{cases_lt}
use Rattle.std.proofs.lemmas.Bool.Decides.{eqb_tells}
use Rattle.vr_model.proofs.routes.Lists.{place_of_held, route_set_other, route_set_same}
use Rattle.vr_model.proofs.tables.Members.{In, to_filter, to_below}
use Rattle.vr_model.specs.deciding.Testing.{or_cases, and_left, or_left, or_right, test_of_eq}
use Rattle.vr_model.proofs.tables.Tests.{clash, fails, same_tests}
use Rattle.vr_routes.specs.Seats.{IsSeat, Seated}
use Rattle.vr_model.specs.tables.Numbers.{below}
use Rattle.std.specs.List.{range_with_len}
use Rattle.vr_model.specs.tables.Tables.{visits, is_visit}
use Rattle.vr_model.specs.routes.Routes.{route, holds, is_active}
use Rattle.vr_model.specs.declared.records.Model.{Model}
use Rattle.vr_routes.specs.Tours.{AreSeatedTours, HaveVisits}
use Rattle.vr_model.specs.tables.WellFormed.{IsWellFormed}
use Rattle.vr_routes.proofs.SeatLemmas.{seat_of_active, active_at}

pub set_twice : {A : Type 0} (xs : List A) (i : ℕ) (x y : A) → slice_set (slice_set xs i x) i y ≡ slice_set xs i y
set_twice [] i x y = refl
set_twice (z ∷ zs) zero x y = refl
set_twice (z ∷ zs) (suc i) x y = ap (λ l. z ∷ l) (set_twice zs i x y)

pub set_as_read : (lists : List (List ℕ)) (v : ℕ) → slice_set lists v (route lists v) ≡ lists
set_as_read [] v = refl
set_as_read (l ∷ ls) zero = refl
set_as_read (l ∷ ls) (suc v) = ap (λ r. l ∷ r) (set_as_read ls v)

-- a list that is written shorter and shorter
pub written_again : (old now next : List (List ℕ)) (v : ℕ) (list rest : List ℕ) → now ≡ slice_set old v list
    → next ≡ slice_set now v rest → v < length now → next ≡ slice_set old v (route next v)
written_again old now next v list rest e f low =
    f ∙ ap (λ l. slice_set l v rest) e ∙ set_twice old v list rest ∙ ap (slice_set old v) (sym (ap (λ l. route l v) f ∙ route_set_same now v rest low))

pub visits_below : (model : Model) → All (λ node. node < model.nodes) (visits model)
visits_below model = All-filter (is_visit model) (λ node. node < model.nodes) (below model.nodes)
    (λ k d low. let n = length-range_with_len 0 model.nodes in let here : k < model.nodes = omega (arith, low, n) in
    let e = get_or-range_with_len 0 model.nodes k d here in omega (arith, e, here))

range_ascends : (a n : ℕ) → IsStrictlyIncreasing (range_with_len a n)
range_ascends a n k low =
    let here : k + 1 < n = omega (arith, low, length-range_with_len a n) in
    omega (arith, get_or-range_with_len a n k 0 (omega (arith, here)), get_or-range_with_len a n (k + 1) 0 here)

pub visits_ascend : (model : Model) → IsStrictlyIncreasing (visits model)
visits_ascend model = IsStrictlyIncreasing-filter (is_visit model) (below model.nodes) (range_ascends 0 model.nodes)

pub few_visits : (model : Model) → length (visits model) ≤ model.nodes
few_visits model = omega
    (arith, length-filter (is_visit model) (below model.nodes), count_by-le-length (is_visit model) (below model.nodes), length-range_with_len 0 model.nodes)

pub length_of_empty : (n : ℕ) → length (replicate {A = List ℕ} n []) ≡ n
length_of_empty zero = refl
length_of_empty (suc n) = ap suc (length_of_empty n)

-- ---- a node put at the end of a list

pub active_after_put : (lists : List (List ℕ)) (v x y : ℕ) → v < length lists
    → IsTrue (is_active (slice_set lists v (route lists v ++ x ∷ [])) y) → (y ≡ x) ⊎ IsTrue (is_active lists y)
active_after_put lists v x y low active = by (seat_of_active new y active)
  where
    new : List (List ℕ)
    new = slice_set lists v (route lists v ++ x ∷ [])

    within : (w : ℕ) → w < length new → w < length lists
    within w h = omega (arith, h, length-set lists v (route lists v ++ x ∷ []))

    here : (k : ℕ) → k < length (route lists v ++ x ∷ []) → slice_index (route lists v ++ x ∷ []) k ≡ y → (y ≡ x) ⊎ IsTrue (is_active lists y)
    here k k_low e = elim (cases_lt k (length (route lists v))) [
      | inl before ↦ inr (active_at lists y v k low before (sym (get_or_append_left (route lists v) (x ∷ []) 0 k before) ∙ e))
      | inr past ↦ (let last : length (route lists v) ≡ k = omega (arith, k_low, past, length-append (route lists v) (x ∷ [])) in
          inl (sym e ∙ get_or_push (route lists v) x 0 k last))
    ]

    by : (v : ℕ) × (k : ℕ) × IsSeat new y v k → (y ≡ x) ⊎ IsTrue (is_active lists y)
    by s = elim (eqb_tells s.0 v) [
      | inl same ↦ (
          let row : route new s.0 ≡ route lists v ++ x ∷ [] = ap (route new) same.1 ∙ route_set_same lists v (route lists v ++ x ∷ []) low in
          here s.1 (subst (λ l. s.1 < length l) row s.2.place) (ap (λ l. slice_index l s.1) (sym row) ∙ s.2.found))
      | inr other ↦ (
          let row : route new s.0 ≡ route lists s.0 = route_set_other lists v s.0 (route lists v ++ x ∷ []) other.1 in
          inr (active_at lists y s.0 s.1 (within s.0 s.2.vehicle)
          (subst (λ l. s.1 < length l) row s.2.place) (ap (λ l. slice_index l s.1) (sym row) ∙ s.2.found)))
    ]

pub visits_after_put : (model : Model) (lists : List (List ℕ)) (v x : ℕ) → v < length lists → HaveVisits model lists
    → IsTrue (is_visit model x) → HaveVisits model (slice_set lists v (route lists v ++ x ∷ []))
visits_after_put model lists v x low have visit y active = elim (active_after_put lists v x y low active) [
  | inl same ↦ subst (λ n. IsTrue (is_visit model n)) (sym same) visit
  | inr before ↦ have y before
]

-- lists that are the same one by one
pub lists_agree : (xs ys : List (List ℕ)) → length xs ≡ length ys → ((v : ℕ) → v < length xs → route xs v ≡ route ys v) → xs ≡ ys
lists_agree [] [] e h = refl
lists_agree [] (y ∷ ys) e h = absurd (omega (arith, e))
lists_agree (x ∷ xs) [] e h = absurd (omega (arith, e))
lists_agree (x ∷ xs) (y ∷ ys) e h = ap (λ l. l ∷ xs) (h 0 (omega arith))
    ∙ ap (λ l. y ∷ l) (lists_agree xs ys (omega (arith, e)) (λ v low. h (suc v) (omega (arith, low))))

pub no_visits : (model : Model) (lists : List (List ℕ)) → ((v : ℕ) → route lists v ≡ []) → HaveVisits model lists
no_visits model lists empty node active =
    let s = seat_of_active lists node active in
    absurd (let n : length (route lists s.0) ≡ 0 = ap length (empty s.0) in let k = s.2.place in omega (arith, k, n))

held_of_in : (xs : List ℕ) (x : ℕ) → In xs x → IsTrue (holds xs x)
held_of_in [] x h = absurd h
held_of_in (y ∷ ys) x (inl e) = or_left (x == y) _ (test_of_eq x y e)
held_of_in (y ∷ ys) x (inr h) = or_right (x == y) _ (held_of_in ys x h)

-- a visit is one of the visits
pub visit_held : (model : Model) (x : ℕ) → IsTrue (is_visit model x) → IsTrue (holds (visits model) x)
visit_held model x h =
    let low : x < model.nodes = below_of (and_left (nat_lt x model.nodes) _ h) in
    held_of_in (visits model) x (to_filter (is_visit model) (below model.nodes) x (to_below model.nodes x low) h)
  where
    below_of : IsTrue (nat_lt x model.nodes) → x < model.nodes
    below_of t = Prim.grind arith

pub put_behind : (old now next : List (List ℕ)) (v x : ℕ) (list more : List ℕ) → v < length old → now ≡ slice_set old v (route old v ++ list)
    → next ≡ slice_set now v (route now v ++ x ∷ []) → more ≡ list ++ x ∷ [] → next ≡ slice_set old v (route old v ++ more)
put_behind old now next v x list more low e f m =
    let row : route now v ≡ route old v ++ list = ap (λ l. route l v) e ∙ route_set_same old v (route old v ++ list) low in
    f ∙ ap (λ l. slice_set l v (route now v ++ x ∷ [])) e ∙ set_twice old v (route old v ++ list) (route now v ++ x ∷ [])
    ∙ ap (λ l. slice_set old v (l ++ x ∷ [])) row ∙ ap (slice_set old v) (append_assoc (route old v) list (x ∷ []) ∙ ap (λ l. route old v ++ l) (sym m))

pub held_below : (xs : List ℕ) (n : ℕ) → All (λ x. x < n) xs → (y : ℕ) → IsTrue (holds xs y) → y < n
held_below xs n each y h = let p = place_of_held xs y h in subst (λ x. x < n) p.2 (each p.0 0 p.1)

-- one list, read
pub seen : {lists : List (List ℕ)} {list : List ℕ} → lists ≡ list ∷ [] → route lists 0 ≡ list
seen e = ap (λ l. route l 0) e

-- ---- the visits below a number

range_more : (a n : ℕ) → range_with_len a (suc n) ≡ range_with_len a n ++ (a + n) ∷ []
range_more a zero = ap (λ k. k ∷ []) (omega arith)
range_more a (suc n) = ap (λ l. a ∷ l) (range_more (a + 1) n ∙ ap (λ k. range_with_len (a + 1) n ++ k ∷ []) (omega arith))

filter_last : (p : ℕ → Bool) (xs : List ℕ) (x : ℕ) → filter p (xs ++ x ∷ []) ≡ filter p xs ++ cond (p x) (x ∷ []) []
filter_last p [] x = refl
filter_last p (y ∷ ys) x = by (p y) (filter_last p ys x)
  where
    by : (t : Bool) → filter p (ys ++ x ∷ []) ≡ filter p ys ++ cond (p x) (x ∷ []) []
        → cond t (y ∷ filter p (ys ++ x ∷ [])) (filter p (ys ++ x ∷ [])) ≡ cond t (y ∷ filter p ys) (filter p ys) ++ cond (p x) (x ∷ []) []
    by true e = ap (λ l. y ∷ l) e
    by false e = e

pub filter_below_more : (p : ℕ → Bool) (n : ℕ) → filter p (below (n + 1)) ≡ filter p (below n) ++ cond (p n) (n ∷ []) []
filter_below_more p n =
    ap (λ k. filter p (range_with_len 0 k)) (add-one n) ∙ ap (filter p) (range_more 0 n ∙ ap (λ k. below n ++ k ∷ []) (omega arith)) ∙ filter_last p (below n) n

below_itself : (n : ℕ) → All (λ x. x < n) (below n)
below_itself n k d low =
    let m = length-range_with_len 0 n in
    let here : k < n = omega (arith, low, m) in
    let e = get_or-range_with_len 0 n k d here in
    omega (arith, e, here)

pub next_not_held : (p : ℕ → Bool) (n : ℕ) (lists : List (List ℕ)) → lists ≡ filter p (below n) ∷ [] → is_active lists n ≡ false
next_not_held p n lists e = ap (λ l. is_active l n) e ∙ fails (is_active (filter p (below n) ∷ []) n) (λ h. elim (or_cases (holds (filter p (below n)) n) _ h) [
  | inl held ↦ (let low : n < n = held_below (filter p (below n)) n (All-filter p (λ x. x < n) (below n) (below_itself n)) n held in omega (arith, low))
  | inr nothing ↦ clash false nothing refl
])

pub append_none : (xs : List ℕ) → xs ++ [] ≡ xs
append_none [] = refl
append_none (x ∷ xs) = ap (λ l. x ∷ l) (append_none xs)

-- ---- the test of a visit

pub visit_test : (model : Model) (x : ℕ) → holds (visits model) x ≡ is_visit model x
visit_test model x = same_tests (holds (visits model) x) (is_visit model x)
    (λ h. let p = place_of_held (visits model) x h in subst (λ y. IsTrue (is_visit model y)) p.2 (filter_passes (is_visit model) (below model.nodes) p.0 0 p.1))
    (visit_held model x)

pub inactive_test : (model : Model) (visited : List ℕ) (x : ℕ) → visited ≡ visits model → holds visited x ≡ is_visit model x
inactive_test model visited x e = ap (λ l. holds l x) e ∙ visit_test model x

-- ---- lists of visits

-- the visits of a model, and lists of them for its vehicles
pub tours_of : (model : Model) → IsWellFormed model → (visited seating : Seated) → visited.lists ≡ visits model ∷ [] → visited.nodes ≡ model.nodes
    → seating.nodes ≡ model.nodes → length seating.lists ≡ length model.vehicles → HaveVisits model seating.lists → AreSeatedTours visited seating
tours_of model well visited seating lists nodes there many entries =
    let list : route visited.lists 0 ≡ visits model = seen lists in
    let long = ap length list in
    let few = few_visits model in
    let few_nodes = well.number_of_nodes.1 in
    let fleet = well.number_of_vehicles.at_most in
    record {
      one_list = ap length lists;
      same_nodes = nodes ∙ sym there;
      few_nodes = omega (arith, few_nodes, there);
      few_vehicles = omega (arith, many, fleet);
      few_visits = omega (arith, few, few_nodes, long);
      visits_ascend = subst IsStrictlyIncreasing (sym list) (visits_ascend model);
      each_visit_is_node =
          subst (λ l. All (λ node. node < seating.nodes) l) (sym list) (subst (λ n. All (λ node. node < n) (visits model)) (sym there) (visits_below model));
      each_entry_is_visit = λ node active. subst (λ l. IsTrue (holds l node)) (sym list) (visit_held model node (entries node active));
    }

-- other lists of them, as many
pub tours_after : {visited seating : Seated} → AreSeatedTours visited seating
    → (other : Seated) → seating.nodes ≡ other.nodes → length other.lists ≡ length seating.lists
    → ((node : ℕ) → IsTrue (is_active other.lists node) → IsTrue (holds (route visited.lists 0) node)) → AreSeatedTours visited other
tours_after {visited} {seating} tours other nodes many entries =
    let few = tours.few_vehicles in
    record {
      one_list = tours.one_list;
      same_nodes = tours.same_nodes ∙ nodes;
      few_nodes = subst (λ n. n ≤ 1000) nodes tours.few_nodes;
      few_vehicles = omega (arith, many, few);
      few_visits = tours.few_visits;
      visits_ascend = tours.visits_ascend;
      each_visit_is_node = subst (λ n. All (λ node. node < n) (route visited.lists 0)) nodes tours.each_visit_is_node;
      each_entry_is_visit = entries;
    }

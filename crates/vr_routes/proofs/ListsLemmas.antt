-- Lists that are lists of a model.
use Rattle.std.proofs.Common.{◌⊎◌, ◌≡◌, ◌∙◌, ℕ, ◌+◌, ◌<◌, ◌≤◌, true, false, List, [], ◌++◌, length, take, refl, sym, ap, subst, inl, inr, arith, length-set}
use Rattle.std.specs.Prelude.{IsTrue, ◌==◌, slice_index, slice_set}
use Rattle.std.specs.List.{list_all, concat}
use Rattle.std.proofs.lemmas.Bool.{cases_lt}
use Rattle.std.proofs.lemmas.Bool.Decides.{eqb_tells}
use Rattle.std.proofs.lemmas.List.{get_or_past, length-append, get_or-append-add}
use Rattle.std.proofs.Math.Seq.{take-append-add}
use Rattle.vr_model.proofs.routes.Lists.{route_set_other, route_set_same}
use Rattle.vr_model.specs.deciding.Testing.{and_left, and_right, and_both, eq_of_test, test_of_eq}
use Rattle.vr_model.specs.routes.Routes.{route, holds, is_active, are_lists}
use Rattle.vr_model.specs.tables.Tables.{is_visit}
use Rattle.vr_model.specs.declared.records.Model.{Model}
use Rattle.vr_routes.specs.Seats.{IsSeat, IsOnce, IsSameOrEmpty}
use Rattle.vr_routes.specs.Tours.{HaveVisits}
use Rattle.vr_routes.proofs.SeatLemmas.{seat_of_active, active_at}
use Rattle.vr_model.proofs.moves.Times.{times_in, joined_times, held_times, times_held, distinct_of_times, times_of_distinct, all_held, all_of_held}
use Rattle.vr_routes.proofs.OnceLemmas.{few_times, once_of_times, next_inactive, times_of_seat, one_seat_of}

-- ---- lists joined

active_joined : (lists : List (List ℕ)) (x : ℕ) → IsTrue (is_active lists x) → IsTrue (holds (concat lists) x)
active_joined lists x active =
    let s = seat_of_active lists x active in
    times_held x (concat lists) (let one = times_of lists s.0 s.1 s.2 in let same = joined_times x lists in omega (arith, one, same))
  where
    times_of : (lists : List (List ℕ)) (v k : ℕ) → IsSeat lists x v k → 1 ≤ times_in x lists
    times_of lists v k s = times_of_seat lists x v k s

joined_active : (lists : List (List ℕ)) (x : ℕ) → IsTrue (holds (concat lists) x) → IsTrue (is_active lists x)
joined_active lists x held =
    let one = held_times x (concat lists) held in
    let same = joined_times x lists in
    let s = one_seat_of x lists (omega (arith, one, same)) in
    active_at lists x s.0 s.1 s.2.vehicle s.2.place s.2.found

-- ---- lists of a model

pub are_lists_of : (model : Model) (lists : List (List ℕ)) → length lists ≡ length model.vehicles
    → HaveVisits model lists → IsOnce lists → are_lists model lists ≡ true
are_lists_of model lists many visits once =
    and_both (length lists == length model.vehicles) _ (test_of_eq (length lists) (length model.vehicles) many)
    (and_both (list_all (is_visit model) (concat lists)) _ (all_of_held (is_visit model) (concat lists) (λ x held. visits x (joined_active lists x held)))
    (distinct_of_times (concat lists) (λ x. let few = few_times x lists (once x) in let same = joined_times x lists in omega (arith, few, same))))

pub many_of : (model : Model) (lists : List (List ℕ)) → IsTrue (are_lists model lists) → length lists ≡ length model.vehicles
many_of model lists h = eq_of_test (length lists) (length model.vehicles) (and_left (length lists == length model.vehicles) _ h)

pub visits_of : (model : Model) (lists : List (List ℕ)) → IsTrue (are_lists model lists) → HaveVisits model lists
visits_of model lists h x active =
    all_held (is_visit model) (concat lists)
    (and_left (list_all (is_visit model) (concat lists)) _ (and_right (length lists == length model.vehicles) _ h)) x (active_joined lists x active)

pub once_of : (model : Model) (lists : List (List ℕ)) → IsTrue (are_lists model lists) → IsOnce lists
once_of model lists h = once_of_times lists (λ x.
    let few = times_of_distinct (concat lists)
    (and_right (list_all (is_visit model) (concat lists)) _ (and_right (length lists == length model.vehicles) _ h)) x in
    let same = joined_times x lists in
    omega (arith, few, same))

-- ---- lists of which some stand already

-- lists of which some are empty and the others those of the whole
pub part_seat : (whole part : List (List ℕ)) → length part ≡ length whole
    → ((w : ℕ) → (route part w ≡ route whole w) ⊎ (route part w ≡ [])) → (x w k : ℕ) → IsSeat part x w k → IsSeat whole x w k
part_seat whole part many some x w k s = elim (some w) [
  | inl same ↦ record {
    vehicle = (let low = s.vehicle in omega (arith, low, many));
    place = subst (λ l. k < length l) same s.place;
    found = ap (λ l. slice_index l k) (sym same) ∙ s.found;
  }
  | inr empty ↦ absurd (let place = s.place in let none : length (route part w) ≡ 0 = ap length empty in omega (arith, place, none))
]

pub part_once : (whole part : List (List ℕ)) → length part ≡ length whole
    → ((w : ℕ) → (route part w ≡ route whole w) ⊎ (route part w ≡ [])) → IsOnce whole → IsOnce part
part_once whole part many some once x v k w j a b = once x v k w j (part_seat whole part many some x v k a) (part_seat whole part many some x w j b)

pub part_visits : (model : Model) (whole part : List (List ℕ)) → length part ≡ length whole
    → ((w : ℕ) → (route part w ≡ route whole w) ⊎ (route part w ≡ [])) → HaveVisits model whole → HaveVisits model part
part_visits model whole part many some visits x active =
    let s = seat_of_active part x active in
    let there = part_seat whole part many some x s.0 s.1 s.2 in
    visits x (active_at whole x s.0 s.1 there.vehicle there.place there.found)

-- the list of the next vehicle is put behind the lists before it
pub next_part : (whole now : List (List ℕ)) (v : ℕ) → length now ≡ length whole → v < length whole
    → ((w : ℕ) → w < v → route now w ≡ route whole w) → ((w : ℕ) → v ≤ w → route now w ≡ [])
    → (w : ℕ) → (route (slice_set now v (route now v ++ route whole v)) w ≡ route whole w) ⊎ (route (slice_set now v (route now v ++ route whole v)) w ≡ [])
next_part whole now v many low done left w = elim (eqb_tells w v) [
  | inl same ↦
      inl (ap (route (slice_set now v (route now v ++ route whole v))) same.1 ∙ route_set_same now v (route now v ++ route whole v) (omega (arith, low, many))
      ∙ ap (λ l. l ++ route whole v) (left v (omega arith)) ∙ ap (route whole) (sym same.1))
  | inr other ↦ elim (cases_lt w v) [
    | inl before ↦ inl (route_set_other now v w (route now v ++ route whole v) other.1 ∙ done w before)
    | inr from ↦ inr (route_set_other now v w (route now v ++ route whole v) other.1 ∙ left w from)
  ]
]

-- a node of a list that is put behind another one stands nowhere before it is put
pub next_free : (old now : List (List ℕ)) (v i : ℕ) (list : List ℕ) → v < length old → now ≡ slice_set old v (route old v ++ take i list) → i < length list
    → IsOnce (slice_set old v (route old v ++ list)) → is_active now (slice_index list i) ≡ false
next_free old now v i list low e i_low once =
    let front : List ℕ = route old v in
    ap (is_active now) (sym (get_or-append-add front list i 0))
    ∙ next_inactive old now v (length front + i) (front ++ list) low
    (e ∙ ap (slice_set old v) (sym (take-append-add front list i))) (omega (arith, i_low, length-append front list)) once

-- and it is a visit, where all are
pub next_visit : (model : Model) (old : List (List ℕ)) (v i : ℕ) (list : List ℕ) → v < length old → i < length list
    → HaveVisits model (slice_set old v (route old v ++ list)) → IsTrue (is_visit model (slice_index list i))
next_visit model old v i list low i_low visits =
    let front : List ℕ = route old v in
    let row = route_set_same old v (front ++ list) low in
    visits (slice_index list i) (active_at (slice_set old v (front ++ list)) (slice_index list i) v (length front + i)
    (omega (arith, low, length-set old v (front ++ list)))
    (subst (λ l. length front + i < length l) (sym row) (omega (arith, i_low, length-append front list)))
    (ap (λ l. slice_index l (length front + i)) row ∙ get_or-append-add front list i 0))

-- ---- lists that are cleared where they are others, and filled again

one_set : (P : ℕ → List ℕ → Type 0) (now : List (List ℕ)) (v : ℕ) (list : List ℕ)
    → v < length now → P v list → (w : ℕ) → P w (route now w) → P w (route (slice_set now v list) w)
one_set P now v list low here w there = elim (eqb_tells w v) [
  | inl same ↦ subst (λ u. P u (route (slice_set now v list) u)) (sym same.1) (subst (P v) (sym (route_set_same now v list low)) here)
  | inr other ↦ subst (P w) (sym (route_set_other now v w list other.1)) there
]

-- one list more is that which is wanted, or empty
pub one_cleared : (whole now : List (List ℕ)) (v : ℕ) (left : List ℕ) → v < length now
    → IsSameOrEmpty (route whole v) left → ((w : ℕ) → w < v → IsSameOrEmpty (route whole w) (route now w))
    → (w : ℕ) → w < v + 1 → IsSameOrEmpty (route whole w) (route (slice_set now v left) w)
one_cleared whole now v left low is done w w_low = elim (cases_lt w v) [
  | inl before ↦ one_set (λ u l. IsSameOrEmpty (route whole u) l) now v left low is w (done w before)
  | inr from ↦ (let same : v ≡ w = omega (arith, w_low, from) in
      subst (λ u. IsSameOrEmpty (route whole u) (route (slice_set now v left) u)) same
      (subst (IsSameOrEmpty (route whole v)) (sym (route_set_same now v left low)) is))
]

-- one list more is that which is wanted
pub one_filled : (whole now : List (List ℕ)) (v : ℕ) → v < length now → ((w : ℕ) → w < v → route now w ≡ route whole w)
    → (w : ℕ) → w < v + 1 → route (slice_set now v (route whole v)) w ≡ route whole w
one_filled whole now v low done w w_low = elim (cases_lt w v) [
  | inl before ↦ one_set (λ u l. l ≡ route whole u) now v (route whole v) low refl w (done w before)
  | inr from ↦ (let same : v ≡ w = omega (arith, w_low, from) in
      subst (λ u. route (slice_set now v (route whole v)) u ≡ route whole u) same (route_set_same now v (route whole v) low))
]

pub same_filled : (whole now : List (List ℕ)) (v : ℕ) → v < length now → ((w : ℕ) → w < length whole → IsSameOrEmpty (route whole w) (route now w))
    → (w : ℕ) → w < length whole → IsSameOrEmpty (route whole w) (route (slice_set now v (route whole v)) w)
same_filled whole now v low some w w_low = one_set (λ u l. IsSameOrEmpty (route whole u) l) now v (route whole v) low (inl refl) w (some w w_low)

-- the lists so far are those that are wanted, and the others are empty
pub done_or_left : (whole now : List (List ℕ)) (v : ℕ) → ((w : ℕ) → w < v → route now w ≡ route whole w) → ((w : ℕ) → v ≤ w → route now w ≡ [])
    → (w : ℕ) → w < length whole → IsSameOrEmpty (route whole w) (route now w)
done_or_left whole now v done left w _ = elim (cases_lt w v) [
  | inl before ↦ inl (done w before)
  | inr from ↦ inr (left w from)
]

-- no node stands twice in them
pub filled_once : (whole now : List (List ℕ)) (v : ℕ) → length now ≡ length whole → v < length whole
    → ((w : ℕ) → w < length whole → IsSameOrEmpty (route whole w) (route now w)) → IsOnce whole
    → IsOnce (slice_set now v (route whole v))
filled_once whole now v many low some once = part_once whole (slice_set now v (route whole v)) (length-set now v (route whole v) ∙ many) each once
  where
    each : (w : ℕ) → (route (slice_set now v (route whole v)) w ≡ route whole w) ⊎ (route (slice_set now v (route whole v)) w ≡ [])
    each w = elim (cases_lt w (length whole)) [
      | inl there ↦ same_filled whole now v (omega (arith, low, many)) some w there
      | inr past ↦ inr (get_or_past (slice_set now v (route whole v)) w [] (omega (arith, past, many, length-set now v (route whole v))))
    ]

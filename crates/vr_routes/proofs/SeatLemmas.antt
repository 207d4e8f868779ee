-- Seats of the nodes of lists.
use Rattle.std.proofs.Common.{◌⊎◌, ◌≡◌, ◌≢◌, ◌∙◌, ℕ, zero, suc, ◌<◌, ◌≤◌, true, false, List, [], ◌∷◌, ◌++◌, length, refl, sym, ap, subst, inl, inr, arith, Some}
use Rattle.std.proofs.Common.{None, length-set, replicate}
use Rattle.std.specs.Prelude.{IsTrue, ◌==◌, slice_index, slice_index_or, slice_set, Option, MatchOption}
use Rattle.std.proofs.lemmas.Bool.{cases_lt}
use Rattle.std.proofs.lemmas.Bool.Decides.{eqb_tells, Decides-eqb}
use Rattle.std.proofs.lemmas.List.{get_or-set_other, get_or-set_same, get_or_append_left, get_or_push, get_or_past, length-append, length-replicate}
use Rattle.std.proofs.lemmas.List.{get_or_default}
use Rattle.std.proofs.lemmas.Map.Made.{IsDistinct-from_AllPairs}
use Rattle.std.proofs.lemmas.Map.Steps.{length-le_from_distinct_below}
use Rattle.vr_model.proofs.routes.Lists.{held_at, place_of_held, route_set_other, route_set_same}
use Rattle.vr_model.specs.deciding.Testing.{or_cases, or_left, or_right, eq_of_test}
use Rattle.vr_model.proofs.tables.Tests.{clash, fails}
use Rattle.vr_model.specs.routes.Routes.{route, holds, is_active}
use Rattle.vr_routes.specs.declared.seats.Seat.{Seat}
use Rattle.vr_routes.specs.Seats.{IsSeat, IsSeated, seat_at}

-- ---- lists

pub seat_of_active : (lists : List (List ℕ)) (x : ℕ) → IsTrue (is_active lists x) → (v : ℕ) × (k : ℕ) × IsSeat lists x v k
seat_of_active [] x h = absurd (clash false h refl)
seat_of_active (l ∷ ls) x h = elim (or_cases (holds l x) _ h) [
  | inl here ↦ (let r = place_of_held l x here in (0, r.0, record { vehicle = omega arith; place = r.1; found = r.2 }))
  | inr later ↦ (let r = seat_of_active ls x later in
      (suc r.0, r.1, record { vehicle = (let low = r.2.vehicle in omega (arith, low)); place = r.2.place; found = r.2.found }))
]

pub active_at : (lists : List (List ℕ)) (x v k : ℕ) → v < length lists
    → k < length (route lists v) → slice_index (route lists v) k ≡ x → IsTrue (is_active lists x)
active_at [] x v k low within e = absurd (omega (arith, low))
active_at (l ∷ ls) x zero k low within e = or_left (holds l x) _ (held_at l x k within e)
active_at (l ∷ ls) x (suc v) k low within e = or_right (holds l x) _ (active_at ls x v k (omega (arith, low)) within e)

-- a seat in another list than one that is written stays
seat_elsewhere : (lists : List (List ℕ)) (v : ℕ) (row : List ℕ) (x w k : ℕ) → w ≢ v → IsSeat lists x w k → IsSeat (slice_set lists v row) x w k
seat_elsewhere lists v row x w k other h =
    let now : route (slice_set lists v row) w ≡ route lists w = route_set_other lists v w row other in
    let low = h.vehicle in
    record {
      vehicle = omega (arith, low, length-set lists v row);
      place = subst (λ l. k < length l) (sym now) h.place;
      found = ap (λ l. slice_index l k) now ∙ h.found;
    }

-- ---- seats

abbrev seat : ℕ → ℕ → Seat
seat v k = record { vehicle = v; place = k }

none_or_some : (r : Option Seat) (s : Seat) → r ≡ Some s → r ≡ None → ⊥
none_or_some r s some none = Prim.cc

pub seat_in_range : (seats : List (Option Seat)) (x : ℕ) (s : Seat) → seat_at seats x ≡ Some s → x < length seats
seat_in_range seats x s e = elim (cases_lt x (length seats)) [
  | inl low ↦ low
  | inr past ↦ absurd (none_or_some (seat_at seats x) s e (get_or_past seats x None past))
]

vehicle_in : Option Seat → ℕ
vehicle_in None = 0
vehicle_in (Some s) = s.vehicle

place_in : Option Seat → ℕ
place_in None = 0
place_in (Some s) = s.place

same_vehicle : (v k w j : ℕ) → Some (seat v k) ≡ Some (seat w j) → v ≡ w
unfolding vehicle_in
same_vehicle v k w j e = ap vehicle_in e

same_place : (v k w j : ℕ) → Some (seat v k) ≡ Some (seat w j) → k ≡ j
unfolding place_in
same_place v k w j e = ap place_in e

module _ (lists : List (List ℕ)) (seats : List (Option Seat)) (seated : IsSeated lists seats) where
  seat_known : (x v k : ℕ) → IsSeat lists x v k → seat_at seats x ≡ Some (seat v k)
  seat_known x v k h = subst (λ y. seat_at seats y ≡ Some (seat v k)) h.found (seated.told v k h.vehicle h.place)

  pub none_inactive : (x : ℕ) → seat_at seats x ≡ None → is_active lists x ≡ false
  none_inactive x none =
      fails (is_active lists x) (λ h. let s = seat_of_active lists x h in none_or_some (seat_at seats x) (seat s.0 s.1) (seat_known x s.0 s.1 s.2) none)

  pub seat_answers : (x : ℕ) (r : Option Seat) → seat_at seats x ≡ r → MatchOption r (is_active lists x ≡ false) (λ s. IsSeat lists x s.vehicle s.place)
  seat_answers x None e = none_inactive x e
  seat_answers x (Some s) e = seated.there x s e

  -- no node stands twice
  pub one_seat : (x v k w j : ℕ) → IsSeat lists x v k → IsSeat lists x w j → (v ≡ w) × (k ≡ j)
  one_seat x v k w j here there =
      let same : Some (seat v k) ≡ Some (seat w j) = sym (seat_known x v k here) ∙ seat_known x w j there in
      (same_vehicle v k w j same, same_place v k w j same)

  -- a list has room for a node that stands nowhere
  pub row_has_room : (v x : ℕ) → v < length lists → x < length seats → is_active lists x ≡ false → length (route lists v) < length seats
  row_has_room v x low within inactive =
      let list : List ℕ = route lists v in
      let longer : length (x ∷ list) ≤ length seats = length-le_from_distinct_below (x ∷ list) (length seats)
      (IsDistinct-from_AllPairs Decides-eqb (x ∷ list) (apart list refl)) (below list refl) in
      omega (arith, longer)
    where
      away : (list : List ℕ) → route lists v ≡ list → (k : ℕ) → k < length list → slice_index list k ≢ x
      away list same k k_low e = clash (is_active lists x)
          (subst (λ l. k < length l → slice_index l k ≡ x → IsTrue (is_active lists x)) same (active_at lists x v k low) k_low e) inactive

      twice : (list : List ℕ) → route lists v ≡ list → (i j : ℕ) → i < j → j < length list → slice_index list i ≢ slice_index list j
      twice list same i j i_low j_low e = absurd (let r = one_seat (slice_index list j) v i v j (at i (omega (arith, i_low, j_low)) e) (at j j_low refl) in
          let k = r.1 in omega (arith, k, i_low))
        where
          at : (k : ℕ) → k < length list → slice_index list k ≡ slice_index list j → IsSeat lists (slice_index list j) v k
          at k k_low g = record {
            vehicle = low;
            place = subst (λ l. k < length l) (sym same) k_low;
            found = subst (λ l. slice_index l k ≡ slice_index list j) (sym same) g;
          }

      apart : (list : List ℕ) → route lists v ≡ list → (i j d : ℕ) → i < j
          → j < length (x ∷ list) → slice_index_or (x ∷ list) i d ≢ slice_index_or (x ∷ list) j d
      apart list same i zero d i_low j_low e = omega (arith, i_low)
      apart list same zero (suc j) d i_low j_low e =
          let within : j < length list = omega (arith, j_low) in
          away list same j within (get_or_default list j 0 d within ∙ sym e)
      apart list same (suc i) (suc j) d i_low j_low e =
          let j_within : j < length list = omega (arith, j_low) in
          let i_within : i < length list = omega (arith, i_low, j_low) in
          twice list same i j (omega (arith, i_low)) j_within (get_or_default list i 0 d i_within ∙ e ∙ get_or_default list j d 0 j_within)

      below : (list : List ℕ) → route lists v ≡ list → (q : ℕ) → holds (x ∷ list) q ≡ true → q < length seats
      below list same q h = elim (or_cases (q == x) _ h) [
        | inl here ↦ (let e = eq_of_test q x here in omega (arith, e, within))
        | inr later ↦ (let r = place_of_held list q later in
            seat_in_range seats q (seat v r.0)
            (seat_known q v r.0
            (record { vehicle = low; place = subst (λ l. r.0 < length l) (sym same) r.1; found = subst (λ l. slice_index l r.0 ≡ q) (sym same) r.2 })))
      ]

  -- a node that stands nowhere is put at the end of a list
  module _ (v x : ℕ) (low : v < length lists) (within : x < length seats) (inactive : is_active lists x ≡ false)
      (row : List ℕ) (longer : row ≡ route lists v ++ x ∷ []) (last : ℕ) (at_end : last ≡ length (route lists v)) where
    abbrev new_lists : List (List ℕ)
    new_lists = slice_set lists v row

    abbrev new_seats : List (Option Seat)
    new_seats = slice_set seats x (Some (seat v last))

    away : (w k : ℕ) → w < length lists → k < length (route lists w) → slice_index (route lists w) k ≢ x
    away w k w_low k_low e = clash (is_active lists x) (active_at lists x w k w_low k_low e) inactive

    kept : (w k : ℕ) → w < length lists → k < length (route lists w) → seat_at new_seats (slice_index (route lists w) k) ≡ Some (seat w k)
    kept w k w_low k_low = get_or-set_other seats x (slice_index (route lists w) k) (Some (seat v last)) None (away w k w_low k_low)
        ∙ seated.told w k w_low k_low

    put_told : (w k : ℕ) → w < length new_lists → k < length (route new_lists w) → seat_at new_seats (slice_index (route new_lists w) k) ≡ Some (seat w k)
    put_told w k w_low = elim (eqb_tells w v) [
      | inl same ↦ subst (λ u. k < length (route new_lists u) → seat_at new_seats (slice_index (route new_lists u) k) ≡ Some (seat u k)) (sym same.1)
          (subst (λ l. k < length l → seat_at new_seats (slice_index l k) ≡ Some (seat v k)) (sym (route_set_same lists v row low ∙ longer)) here)
      | inr other ↦ subst (λ l. k < length l → seat_at new_seats (slice_index l k) ≡ Some (seat w k))
          (sym (route_set_other lists v w row other.1)) (kept w k (omega (arith, w_low, length-set lists v row)))
    ]
      where
        here : k < length (route lists v ++ x ∷ []) → seat_at new_seats (slice_index (route lists v ++ x ∷ []) k) ≡ Some (seat v k)
        here k_low = elim (cases_lt k (length (route lists v))) [
          | inl before ↦ ap (seat_at new_seats) (get_or_append_left (route lists v) (x ∷ []) 0 k before) ∙ kept v k low before
          | inr past ↦ (let is_last : length (route lists v) ≡ k = omega (arith, k_low, past, length-append (route lists v) (x ∷ [])) in
              ap (seat_at new_seats) (get_or_push (route lists v) x 0 k is_last)
              ∙ get_or-set_same seats x (Some (seat v last)) None within ∙ ap (λ j. Some (seat v j)) (at_end ∙ is_last))
        ]

    put_there : (y : ℕ) (s : Seat) → seat_at new_seats y ≡ Some s → IsSeat new_lists y s.vehicle s.place
    put_there y s e = elim (eqb_tells y x) [
      | inl same ↦ (
          let now : Some s ≡ Some (seat v last) = sym e ∙ ap (seat_at new_seats) same.1 ∙ get_or-set_same seats x (Some (seat v last)) None within in
          let vehicle : s.vehicle ≡ v = ap vehicle_is now in
          let place : s.place ≡ length (route lists v) = ap place_is now ∙ at_end in
          subst (λ w. IsSeat new_lists y w s.place) (sym vehicle) (subst (λ k. IsSeat new_lists y v k) (sym place) (record {
            vehicle = omega (arith, low, length-set lists v row);
            place = subst (λ l. length (route lists v) < length l) (sym now_list) (omega (arith, length-append (route lists v) (x ∷ [])));
            found = ap (λ l. slice_index l (length (route lists v))) now_list ∙ get_or_push (route lists v) x 0 (length (route lists v)) refl ∙ sym same.1;
          })))
      | inr other ↦ moved (seated.there y s (sym (get_or-set_other seats x y (Some (seat v last)) None other.1) ∙ e))
    ]
      where
        vehicle_is : Option Seat → ℕ
        vehicle_is None = 0
        vehicle_is (Some t) = t.vehicle

        place_is : Option Seat → ℕ
        place_is None = 0
        place_is (Some t) = t.place

        now_list : route new_lists v ≡ route lists v ++ x ∷ []
        now_list = route_set_same lists v row low ∙ longer

        within_new : (w : ℕ) → w < length lists → w < length new_lists
        within_new w h = omega (arith, h, length-set lists v row)

        moved : IsSeat lists y s.vehicle s.place → IsSeat new_lists y s.vehicle s.place
        moved h = elim (eqb_tells s.vehicle v) [
          | inl same ↦ (
              let before : s.place < length (route lists v) = subst (λ w. s.place < length (route lists w)) same.1 h.place in
              let now : route new_lists s.vehicle ≡ route lists v ++ x ∷ [] = ap (route new_lists) same.1 ∙ now_list in
              record {
                vehicle = within_new s.vehicle h.vehicle;
                place = subst (λ l. s.place < length l) (sym now) (omega (arith, before, length-append (route lists v) (x ∷ [])));
                found = ap (λ l. slice_index l s.place) now ∙ get_or_append_left (route lists v) (x ∷ []) 0 s.place before
                    ∙ ap (λ w. slice_index (route lists w) s.place) (sym same.1) ∙ h.found;
              })
          | inr other ↦ seat_elsewhere lists v row y s.vehicle s.place other.1 h
        ]

    pub put_seated : IsSeated new_lists new_seats
    put_seated = record {
      told = put_told;
      there = put_there;
      few_vehicles = omega (arith, seated.few_vehicles, length-set lists v row);
      few_nodes = omega (arith, seated.few_nodes, length-set seats x (Some (seat v last)));
    }

  -- the last node of a list is taken out
  module _ (v x : ℕ) (rest : List ℕ) (low : v < length lists) (ends : route lists v ≡ rest ++ x ∷ []) where
    abbrev lists_left : List (List ℕ)
    lists_left = slice_set lists v rest

    abbrev seats_left : List (Option Seat)
    seats_left = slice_set seats x None

    last_seat : IsSeat lists x v (length rest)
    last_seat = record {
      vehicle = low;
      place = subst (λ l. length rest < length l) (sym ends) (omega (arith, length-append rest (x ∷ [])));
      found = ap (λ l. slice_index l (length rest)) ends ∙ get_or_push rest x 0 (length rest) refl;
    }

    pub last_in_range : x < length seats
    last_in_range = seat_in_range seats x (seat v (length rest)) (seat_known x v (length rest) last_seat)

    stays : (y w k : ℕ) → IsSeat lists y w k → (w ≢ v) ⊎ (k < length rest) → y ≢ x
    stays y w k h (inl other) e = other (one_seat x w k v (length rest) (subst (λ z. IsSeat lists z w k) e h) last_seat).0
    stays y w k h (inr before) e = let same = (one_seat x w k v (length rest) (subst (λ z. IsSeat lists z w k) e h) last_seat).1 in omega (arith, same, before)

    still : (y w k : ℕ) → IsSeat lists y w k → (w ≢ v) ⊎ (k < length rest) → seat_at seats_left y ≡ Some (seat w k)
    still y w k h where_ = get_or-set_other seats x y None None (stays y w k h where_) ∙ seat_known y w k h

    front : (k : ℕ) → k < length rest → (slice_index (route lists v) k ≡ slice_index rest k) × (k < length (route lists v))
    front k before = (
      ap (λ l. slice_index l k) ends ∙ get_or_append_left rest (x ∷ []) 0 k before,
      subst (λ l. k < length l) (sym ends) (omega (arith, before, length-append rest (x ∷ []))),
    )

    take_told : (w k : ℕ) → w < length lists_left → k < length (route lists_left w) → seat_at seats_left (slice_index (route lists_left w) k) ≡ Some (seat w k)
    take_told w k w_low = elim (eqb_tells w v) [
      | inl same ↦ subst (λ u. k < length (route lists_left u) → seat_at seats_left (slice_index (route lists_left u) k) ≡ Some (seat u k)) (sym same.1)
          (subst (λ l. k < length l → seat_at seats_left (slice_index l k) ≡ Some (seat v k)) (sym (route_set_same lists v rest low))
          (λ before. let f = front k before in still (slice_index rest k) v k (record { vehicle = low; place = f.1; found = f.0 }) (inr before)))
      | inr other ↦ subst (λ l. k < length l → seat_at seats_left (slice_index l k) ≡ Some (seat w k)) (sym (route_set_other lists v w rest other.1))
          (λ within. still (slice_index (route lists w) k) w k
          (record { vehicle = omega (arith, w_low, length-set lists v rest); place = within; found = refl }) (inl other.1))
    ]

    take_there : (y : ℕ) (s : Seat) → seat_at seats_left y ≡ Some s → IsSeat lists_left y s.vehicle s.place
    take_there y s e = elim (eqb_tells y x) [
      | inl same ↦ absurd (none_or_some (seat_at seats_left y) s e (ap (seat_at seats_left) same.1 ∙ get_or-set_same seats x None None last_in_range))
      | inr other ↦ left other.1 (seated.there y s (sym (get_or-set_other seats x y None None other.1) ∙ e))
    ]
      where
        within_left : (w : ℕ) → w < length lists → w < length lists_left
        within_left w h = omega (arith, h, length-set lists v rest)

        left : y ≢ x → IsSeat lists y s.vehicle s.place → IsSeat lists_left y s.vehicle s.place
        left apart h = elim (eqb_tells s.vehicle v) [
          | inl same ↦ (
              let within : s.place < length (rest ++ x ∷ []) = subst (λ l. s.place < length l)
              ends (subst (λ w. s.place < length (route lists w)) same.1 h.place) in
              let now : route lists_left s.vehicle ≡ rest = ap (route lists_left) same.1 ∙ route_set_same lists v rest low in
              elim (cases_lt s.place (length rest)) [
                | inl before ↦ record {
                  vehicle = within_left s.vehicle h.vehicle;
                  place = subst (λ l. s.place < length l) (sym now) before;
                  found = ap (λ l. slice_index l s.place) now ∙ sym (front s.place before).0
                      ∙ ap (λ w. slice_index (route lists w) s.place) (sym same.1) ∙ h.found;
                }
                | inr past ↦ absurd (apart (
                    let is_last : length rest ≡ s.place = omega (arith, within, past, length-append rest (x ∷ [])) in
                    sym h.found ∙ ap (λ w. slice_index (route lists w) s.place) same.1
                    ∙ ap (λ l. slice_index l s.place) ends ∙ get_or_push rest x 0 s.place is_last))
              ])
          | inr other ↦ seat_elsewhere lists v rest y s.vehicle s.place other.1 h
        ]

    pub take_seated : IsSeated lists_left seats_left
    take_seated = record {
      told = take_told;
      there = take_there;
      few_vehicles = omega (arith, seated.few_vehicles, length-set lists v rest);
      few_nodes = omega (arith, seated.few_nodes, length-set seats x None);
    }

-- ---- empty lists

route_of_empty : (n v : ℕ) → route (replicate n []) v ≡ []
route_of_empty zero v = refl
route_of_empty (suc n) zero = refl
route_of_empty (suc n) (suc v) = route_of_empty n v

seat_of_none : (n x : ℕ) → seat_at (replicate n None) x ≡ None
seat_of_none zero x = refl
seat_of_none (suc n) zero = refl
seat_of_none (suc n) (suc x) = seat_of_none n x

pub empty_seated : (n m : ℕ) (lists : List (List ℕ)) (seats : List (Option Seat)) → n ≤ 100
    → m ≤ 1000 → lists ≡ replicate n [] → seats ≡ replicate m None → IsSeated lists seats
empty_seated n m lists seats few few_nodes empty none = record {
  told = λ v k low within.
      absurd (let r : length (route lists v) ≡ 0 = ap (λ l. length (route l v)) empty ∙ ap length (route_of_empty n v) in omega (arith, within, r));
  there = λ node s e. absurd (none_or_some (seat_at seats node) s e (ap (λ l. seat_at l node) none ∙ seat_of_none m node));
  few_vehicles = (let long : length (replicate {A = List ℕ} n []) ≡ n = length-replicate n [] in omega (arith, few, ap length empty, long));
  few_nodes = (let long : length (replicate {A = Option Seat} m None) ≡ m = length-replicate m None in omega (arith, few_nodes, ap length none, long));
}

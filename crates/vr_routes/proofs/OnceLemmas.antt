-- How often a node stands in lists.
use Rattle.std.proofs.Common.{length-set, ◌≡◌, ◌≢◌, ◌∙◌, ℕ, suc, ◌+◌, ◌-◌, ◌<◌, ◌≤◌, false, List, [], ◌∷◌, ◌++◌, length, take, drop, drop-cons, add-one, refl}
use Rattle.std.proofs.Common.{sym, ap, subst, inl, inr, arith}
use Rattle.std.specs.Prelude.{slice_index, slice_range, slice_set}
use Rattle.std.proofs.lemmas.Bool.{cases_lt}
use Rattle.std.proofs.lemmas.Bool.Decides.{eqb_tells}
use Rattle.std.proofs.lemmas.Grind.{take_at_read}
use Rattle.vr_model.proofs.routes.Lists.{route_set_other, route_set_same}
use Rattle.vr_model.proofs.tables.Tests.{fails}
use Rattle.vr_model.specs.routes.Routes.{route, is_active}
use Rattle.vr_model.proofs.moves.Times.{times, times_in, times_append, times_split, times_set, one_place, two_places, at_least_one, at_least_two}
use Rattle.vr_routes.specs.Seats.{IsSeat, IsOnce}
use Rattle.vr_routes.proofs.SeatLemmas.{seat_of_active}
use Rattle.vr_routes.proofs.TourLemmas.{set_twice}

pub one_seat_of : (x : ℕ) (lists : List (List ℕ)) → 1 ≤ times_in x lists → (v : ℕ) × (k : ℕ) × IsSeat lists x v k
one_seat_of x [] h = absurd (omega (arith, h))
one_seat_of x (l ∷ ls) h = elim (cases_lt 0 (times x l)) [
  | inl here ↦ (let r = one_place x l (omega (arith, here)) in (0, r.0, record { vehicle = omega arith; place = r.1; found = r.2 }))
  | inr none ↦ (let r = one_seat_of x ls (omega (arith, h, none)) in
      (suc r.0, r.1, record { vehicle = (let low = r.2.vehicle in omega (arith, low)); place = r.2.place; found = r.2.found }))
]

pub few_times : (x : ℕ) (lists : List (List ℕ)) → ((v k w j : ℕ) → IsSeat lists x v k → IsSeat lists x w j → (v ≡ w) × (k ≡ j)) → times_in x lists ≤ 1
few_times x [] h = omega arith
few_times x (l ∷ ls) h =
    let rest = few_times x ls (λ v k w j a b. let r = h (suc v) k (suc w) j (up v k a) (up w j b) in let e = r.0 in (omega (arith, e), r.1)) in
    elim (cases_lt 1 (times x l)) [
      | inl two ↦ absurd (let p = two_places x l (omega (arith, two)) in
          let same = (h 0 p.0 0 p.1 (first p.0 (let a = p.2 in let b = p.3 in omega (arith, a, b)) p.4) (first p.1 p.3 p.5)).1 in
          let order = p.2 in omega (arith, same, order))
      | inr one ↦ elim (cases_lt 0 (times x l)) [
        | inl some ↦ elim (cases_lt 0 (times_in x ls)) [
          | inl more ↦ absurd (
              let p = one_place x l (omega (arith, some)) in
              let s = one_seat_of x ls (omega (arith, more)) in
              let same = (h 0 p.0 (suc s.0) s.1 (first p.0 p.1 p.2) (up s.0 s.1 s.2)).0 in
              omega (arith, same))
          | inr none ↦ omega (arith, one, none)
        ]
        | inr none ↦ omega (arith, rest, none)
      ]
    ]
  where
    up : (v k : ℕ) → IsSeat ls x v k → IsSeat (l ∷ ls) x (suc v) k
    up v k s = record { vehicle = (let low = s.vehicle in omega (arith, low)); place = s.place; found = s.found }

    first : (k : ℕ) → k < length l → slice_index l k ≡ x → IsSeat (l ∷ ls) x 0 k
    first k low e = record { vehicle = omega arith; place = low; found = e }

pub once_of_times : (lists : List (List ℕ)) → ((x : ℕ) → times_in x lists ≤ 1) → IsOnce lists
once_of_times lists few x v k w j a b = elim (eqb_tells v w) [
  | inl same ↦ (same.1, within (subst (λ u. IsSeat lists x u k) same.1 a))
  | inr other ↦ absurd (apart other.1)
]
  where
    all : times_in x lists ≤ 1
    all = few x

    within : IsSeat lists x w k → k ≡ j
    within c =
        let whole = times_set x lists w [] b.vehicle in
        elim (cases_lt k j) [
          | inl before ↦ absurd (let two = at_least_two x (route lists w) k j before b.place c.found b.found in omega (arith, two, whole, all))
          | inr from ↦ elim (cases_lt j k) [
            | inl behind ↦ absurd (let two = at_least_two x (route lists w) j k behind c.place b.found c.found in omega (arith, two, whole, all))
            | inr to ↦ omega (arith, from, to)
          ]
        ]

    apart : v ≢ w → ⊥
    apart other =
        let one = at_least_one x (route lists v) k a.place a.found in
        let more = at_least_one x (route lists w) j b.place b.found in
        let first = times_set x lists v [] a.vehicle in
        let low : w < length (slice_set lists v []) = let l = b.vehicle in omega (arith, l, length-set lists v []) in
        let second = times_set x (slice_set lists v []) w [] low in
        let same : times x (route (slice_set lists v []) w) ≡ times x (route lists w) = ap (times x) (route_set_other lists v w [] (λ e. other (sym e))) in
        omega (arith, one, more, first, second, same, all)

pub times_of_seat : (lists : List (List ℕ)) (x v k : ℕ) → IsSeat lists x v k → 1 ≤ times_in x lists
times_of_seat lists x v k s =
    let one = at_least_one x (route lists v) k s.place s.found in
    let whole = times_set x lists v [] s.vehicle in
    omega (arith, one, whole)

pub active_times : (lists : List (List ℕ)) (x : ℕ) → times_in x lists ≡ 0 → is_active lists x ≡ false
active_times lists x none =
    fails (is_active lists x) (λ h. let s = seat_of_active lists x h in let one = times_of_seat lists x s.0 s.1 s.2 in omega (arith, one, none))

-- ---- a list that is written from its front

-- the next node of the list stands nowhere yet
pub next_inactive : (base now : List (List ℕ)) (v i : ℕ) (nodes : List ℕ) → v < length base → now ≡ slice_set base v (take i nodes)
    → i < length nodes → IsOnce (slice_set base v nodes) → is_active now (slice_index nodes i) ≡ false
next_inactive base now v i nodes low e i_low once =
    let x : ℕ = slice_index nodes i in
    let few : times_in x (slice_set base v nodes) ≤ 1 = few_times x (slice_set base v nodes) (once x) in
    let whole = times_set x base v nodes low in
    let part = times_set x base v (take i nodes) low in
    let split = times_split x (i + 1) nodes in
    let more : times x (take (i + 1) nodes) ≡ times x (take i nodes) + times x (x ∷ []) = ap (times x) (take_at_read nodes i 0 i_low).1
    ∙ times_append x (take i nodes) (x ∷ []) in
    let one = at_least_one x (x ∷ []) 0 (omega arith) refl in
    let here : times_in x now ≡ times_in x (slice_set base v (take i nodes)) = ap (times_in x) e in
    let rest : ℕ = times x (drop (i + 1) nodes) in
    active_times now x (omega (arith, few, whole, part, split, more, one, here))

pub next_written : (base now next : List (List ℕ)) (v i : ℕ) (nodes : List ℕ) → v < length base → now ≡ slice_set base v (take i nodes)
    → i < length nodes → next ≡ slice_set now v (route now v ++ slice_index nodes i ∷ []) → next ≡ slice_set base v (take (i + 1) nodes)
next_written base now next v i nodes low e i_low f =
    let x : ℕ = slice_index nodes i in
    let row : route now v ≡ take i nodes = ap (λ l. route l v) e ∙ route_set_same base v (take i nodes) low in
    f ∙ ap (λ l. slice_set l v (route now v ++ x ∷ [])) e ∙ set_twice base v (take i nodes) (route now v ++ x ∷ [])
    ∙ ap (λ l. slice_set base v (l ++ x ∷ [])) row ∙ ap (slice_set base v) (sym (take_at_read nodes i 0 i_low).1)

-- ---- a list without the last of its nodes

pub slice_from : (xs : List ℕ) (p e : ℕ) → p < e → e ≤ length xs → slice_range xs p e ≡ slice_index xs p ∷ slice_range xs (p + 1) e
slice_from xs p e low within =
    let n : e - p ≡ suc (e - (p + 1)) = omega (arith, low) in
    ap (λ k. take k (drop p xs)) n
    ∙ ap (take (suc (e - (p + 1)))) (drop-cons xs p 0 (omega (arith, low, within)) ∙ ap (λ k. slice_index xs p ∷ drop k xs) (sym (add-one p)))

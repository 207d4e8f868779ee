-- Two nodes of lists in which no node stands twice.
use Rattle.std.proofs.Common.{◌≡◌, ◌≢◌, ◌∙◌, ℕ, zero, suc, ◌<◌, false, ◌&&◌, List, [], ◌∷◌, length, refl, sym, ap, subst, inl, inr, arith}
use Rattle.std.specs.Prelude.{IsTrue, ◌==◌, slice_index}
use Rattle.std.proofs.lemmas.Bool.Decides.{eqb_tells}
use Rattle.vr_model.proofs.routes.Lists.{held_at, place_of_held}
use Rattle.vr_model.specs.deciding.Testing.{or_cases, or_left, or_right, and_left, and_right, and_both}
use Rattle.vr_model.proofs.tables.Tests.{clash, fails}
use Rattle.vr_model.proofs.moves.Kept.{pair_apart}
use Rattle.vr_model.specs.routes.Routes.{route, holds, is_active}
use Rattle.vr_model.specs.tables.Tables.{pair_at}
use Rattle.vr_model.specs.tables.WellFormed.{IsWellFormed}
use Rattle.vr_model.specs.declared.records.Model.{Model}
use Rattle.vr_routes.specs.Seats.{IsSeat, IsOnce}
use Rattle.vr_routes.specs.Pairs.{are_together, ArePairPlaces}
use Rattle.vr_routes.proofs.SeatLemmas.{active_at}

-- where two nodes stand that stand in one list
both_seats : (lists : List (List ℕ)) (x y : ℕ) → IsTrue (are_together lists x y) → (v : ℕ) × (k : ℕ) × (j : ℕ) × IsSeat lists x v k × IsSeat lists y v j
both_seats [] x y h = absurd (clash false h refl)
both_seats (l ∷ ls) x y h = elim (or_cases (holds l x && holds l y) _ h) [
  | inl here ↦ (
      let a = place_of_held l x (and_left (holds l x) _ here) in
      let b = place_of_held l y (and_right (holds l x) _ here) in
      (0, a.0, b.0, record { vehicle = omega arith; place = a.1; found = a.2 }, record { vehicle = omega arith; place = b.1; found = b.2 }))
  | inr later ↦ (let r = both_seats ls x y later in (
    suc r.0,
    r.1,
    r.2,
    record { vehicle = (let low = r.3.vehicle in omega (arith, low)); place = r.3.place; found = r.3.found },
    record { vehicle = (let low = r.4.vehicle in omega (arith, low)); place = r.4.place; found = r.4.found },
  ))
]

pub together_at : (lists : List (List ℕ)) (x y v k j : ℕ) → IsSeat lists x v k → IsSeat lists y v j → IsTrue (are_together lists x y)
together_at [] x y v k j a b = absurd (let low = a.vehicle in omega (arith, low))
together_at (l ∷ ls) x y zero k j a b =
    or_left (holds l x && holds l y) _ (and_both (holds l x) _ (held_at l x k a.place a.found) (held_at l y j b.place b.found))
together_at (l ∷ ls) x y (suc v) k j a b = or_right (holds l x && holds l y) _ (together_at ls x y v k j
    (record { vehicle = (let low = a.vehicle in omega (arith, low)); place = a.place; found = a.found })
    (record { vehicle = (let low = b.vehicle in omega (arith, low)); place = b.place; found = b.found }))

pub apart_first : (lists : List (List ℕ)) (x y : ℕ) → is_active lists x ≡ false → are_together lists x y ≡ false
apart_first lists x y none = fails (are_together lists x y)
    (λ h. let s = both_seats lists x y h in clash (is_active lists x) (active_at lists x s.0 s.1 s.3.vehicle s.3.place s.3.found) none)

pub apart_second : (lists : List (List ℕ)) (x y : ℕ) → is_active lists y ≡ false → are_together lists x y ≡ false
apart_second lists x y none = fails (are_together lists x y)
    (λ h. let s = both_seats lists x y h in clash (is_active lists y) (active_at lists y s.0 s.2 s.4.vehicle s.4.place s.4.found) none)

pub together_tells : (lists : List (List ℕ)) (x y v k w j : ℕ) → IsOnce lists → IsSeat lists x v k → IsSeat lists y w j → are_together lists x y ≡ (v == w)
together_tells lists x y v k w j once a b = elim (eqb_tells v w) [
  | inl same ↦ together_at lists x y v k j a (subst (λ u. IsSeat lists y u j) (sym same.1) b) ∙ sym same.0
  | inr other ↦ fails (are_together lists x y) (λ h.
      let s = both_seats lists x y h in
      other.1 ((once x v k s.0 s.1 a s.3).0 ∙ sym (once y w j s.0 s.2 b s.4).0)) ∙ sym other.0
]

-- the two nodes of a pair stand at two places
pub places_apart : (model : Model) (p : ℕ) (lists : List (List ℕ)) (v k j : ℕ) → IsWellFormed model
    → p < length model.pairs → ArePairPlaces lists (pair_at model p) v k j → k ≢ j
places_apart model p lists v k j well low places same =
    pair_apart model.pairs p low well.no_node_in_pairs_twice
    (sym places.pickup_stands.found ∙ ap (slice_index (route lists v)) same ∙ places.delivery_stands.found)

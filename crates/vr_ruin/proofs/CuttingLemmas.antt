-- Where a visit is that is cut at.
use Rattle.std.proofs.Common.{◌≡◌, ◌∙◌, ◌<◌, ℕ, List, [], ◌∷◌, Bool, true, false, cond, Some, None, inl, inr, refl, ap, ap₂, sym, length}
use Rattle.std.specs.Prelude.{◌==◌, find, slice_index}
use Rattle.std.proofs.lemmas.Bool.{eqb-true, eq-eqb}
use Rattle.std.proofs.lemmas.List.Sums.{passes_at_first}
use Rattle.vr_model.specs.routes.Routes.{holds, is_active, route, vehicles}
use Rattle.vr_model.specs.routes.Rules.{place_of}
use Rattle.vr_model.proofs.tables.Members.{In, of_below, to_below}
use Rattle.vr_model.proofs.tables.Tests.{clash, lt_of_test}
use Rattle.vr_model.proofs.routes.Lists.{held_at}
use Rattle.vr_lists.proofs.PlaceLemmas.{holds-place}
use Rattle.vr_routes.specs.Seats.{IsOnce, IsSeat}
use Rattle.vr_rules.proofs.PlacingLemmas.{inactive-route}
use Rattle.rand_pcg.specs.Lcg.{Lcg}
use Rattle.vr_model.specs.declared.records.Model.{Model}
use Rattle.vr_model.specs.moves.Moves.{with_route}
use Rattle.vr_strings.specs.Strings.{Ruined, cut_at_visit, cut_in, cut_unless_passed, drawn_string, list_after_string, vehicle_of}
use Rattle.vr_strings.specs.declared.drawing.StringPlaces.{StringPlaces}
use Rattle.vr_ruin.specs.Cuttings.{ruined_of}

find_none : (p : ℕ → Bool) (xs : List ℕ) → ((x : ℕ) → p x ≡ false) → find p xs ≡ None
find_none p [] h = refl
find_none p (x ∷ xs) h = ap (λ b. cond b (Some x) (find p xs)) (h x) ∙ find_none p xs h

-- what is found passes, and is there
find_some : (p : ℕ → Bool) (xs : List ℕ) (y : ℕ) → In xs y → p y ≡ true → (x : ℕ) × (find p xs ≡ Some x) × (p x ≡ true) × In xs x
find_some p [] y among h = absurd among
find_some p (x ∷ xs) y among h = by (p x) refl among (find_some p xs y)
  where
    by : (b : Bool) → p x ≡ b → In (x ∷ xs) y → (In xs y → p y ≡ true → (x : ℕ) × (find p xs ≡ Some x) × (p x ≡ true) × In xs x)
        → (z : ℕ) × (find p (x ∷ xs) ≡ Some z) × (p z ≡ true) × In (x ∷ xs) z
    by true e among later = (x, ap (λ b. cond b (Some x) (find p xs)) e, e, inl refl)
    by false e (inl same) later = absurd (clash (p x) (ap p (sym same) ∙ h) e)
    by false e (inr there) later = let r = later there h in (r.0, ap (λ b. cond b (Some x) (find p xs)) e ∙ r.1, r.2, inr r.3)

pub no_vehicle : (lists : List (List ℕ)) (visit : ℕ) → is_active lists visit ≡ false → vehicle_of lists visit ≡ None
no_vehicle lists visit none = find_none (λ v. holds (route lists v) visit) (vehicles lists) (λ v. inactive-route lists visit v none)

module _ (lists : List (List ℕ)) (visit v k : ℕ) (once : IsOnce lists) (seat : IsSeat lists visit v k) where
  -- where a vehicle has the visit in its list, it is there
  seat_of : (w : ℕ) → w < length lists → holds (route lists w) visit ≡ true → IsSeat lists visit w (place_of (route lists w) visit)
  seat_of w low held =
      let inside : place_of (route lists w) visit < length (route lists w) = lt_of_test (place_of (route lists w) visit)
      (length (route lists w)) (sym (holds-place (route lists w) visit) ∙ held) in
      record {
        vehicle = low;
        place = inside;
        found = eqb-true (slice_index (route lists w) (place_of (route lists w) visit)) visit (passes_at_first (λ x. x == visit) (route lists w) 0 inside);
      }

  held : holds (route lists v) visit ≡ true
  held = held_at (route lists v) visit k seat.place seat.found

  pub place_is : place_of (route lists v) visit ≡ k
  place_is = (once visit v (place_of (route lists v) visit) v k (seat_of v seat.vehicle held) seat).1

  pub vehicle_is : vehicle_of lists visit ≡ Some v
  vehicle_is =
      let r = find_some (λ v. holds (route lists v) visit) (vehicles lists) v (to_below (length lists) v seat.vehicle) held in
      r.1 ∙ ap Some (once visit r.0 (place_of (route lists r.0) visit) v k (seat_of r.0 (of_below (length lists) r.0 r.3) r.2) seat).0

-- ---- a visit in its turn

module _ (model : Model) (longest visit v : ℕ) (lists : List (List ℕ)) (cut : List ℕ) (words : Lcg) where
  -- its list is cut at a string that was drawn
  pub cut_in_is : (after : List (List ℕ)) (added : List ℕ) (later : Lcg) (string : StringPlaces) (n k : ℕ)
      → after ≡ with_route lists v (list_after_string model v (route lists v) string) → added ≡ v ∷ cut
      → (string, later) ≡ drawn_string longest n k words → n ≡ length (route lists v) → place_of (route lists v) visit ≡ k
      → ruined_of after added later ≡ cut_in model longest visit v (ruined_of lists cut words)
  cut_in_is after added later string n k written more drawn long at =
      let drawn_at = drawn ∙ ap₂ (λ n k. drawn_string longest n k words) long (sym at) in
      let lists_are = written ∙ ap (λ d. with_route lists v (list_after_string model v (route lists v) d.0)) drawn_at in
      let words_are = ap (λ d. d.1) drawn_at in
      λ t. record { lists = lists_are t; cut = more t; words = words_are t }

module _ (model : Model) (longest count visit : ℕ) (state : Ruined) where
  abbrev by_count : Bool → Ruined
  by_count b = elim b [ true ↦ state | false ↦ cut_unless_passed model longest visit state (vehicle_of state.lists visit) ]

  abbrev by_cut : ℕ → Bool → Ruined
  by_cut v b = elim b [ true ↦ state | false ↦ cut_in model longest visit v state ]

  -- as many lists were cut as are to be
  pub enough_cut : length state.cut ≡ count → state ≡ cut_at_visit model longest count state visit
  enough_cut e = sym (ap by_count (eq-eqb (length state.cut) count e))

  module _ (more : (length state.cut == count) ≡ false) where
    goes_on : cut_unless_passed model longest visit state (vehicle_of state.lists visit) ≡ cut_at_visit model longest count state visit
    goes_on = sym (ap by_count more)

    -- the visit is in no list
    pub in_none : is_active state.lists visit ≡ false → state ≡ cut_at_visit model longest count state visit
    in_none none = sym (ap (cut_unless_passed model longest visit state) (no_vehicle state.lists visit none)) ∙ goes_on

    module _ (v k : ℕ) (once : IsOnce state.lists) (seat : IsSeat state.lists visit v k) where
      at_vehicle : cut_unless_passed model longest visit state (Some v) ≡ cut_at_visit model longest count state visit
      at_vehicle = sym (ap (cut_unless_passed model longest visit state) (vehicle_is state.lists visit v k once seat)) ∙ goes_on

      -- its list was cut before
      pub was_cut : holds state.cut v ≡ true → state ≡ cut_at_visit model longest count state visit
      was_cut e = sym (ap (by_cut v) e) ∙ at_vehicle

      -- its list is cut
      pub is_cut_now : holds state.cut v ≡ false → cut_in model longest visit v state ≡ cut_at_visit model longest count state visit
      is_cut_now e = sym (ap (by_cut v) e) ∙ at_vehicle

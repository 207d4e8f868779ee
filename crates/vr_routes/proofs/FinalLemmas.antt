-- Lists in which no node stands twice, and single lists of them.
use Rattle.std.proofs.Common.{◌≡◌, ◌≢◌, ◌∙◌, ℕ, zero, suc, ◌<◌, ◌≤◌, List, [], ◌∷◌, length, length-set, refl, sym, ap, subst, arith, true}
use Rattle.std.specs.Prelude.{All, slice_index, slice_index_or, slice_set}
use Rattle.std.proofs.lemmas.Bool.Decides.{Decides-eqb}
use Rattle.std.proofs.lemmas.List.{get_or_default}
use Rattle.std.proofs.lemmas.Map.Made.{IsDistinct-from_AllPairs}
use Rattle.std.proofs.lemmas.Map.Steps.{length-le_from_distinct_below}
use Rattle.vr_model.proofs.routes.Lists.{place_of_held, route_set_other, route_set_same}
use Rattle.vr_model.specs.routes.Routes.{route, holds}
use Rattle.vr_routes.specs.Seats.{IsSeat, IsOnce, HaveNodes, MayHave, MayHaveTwo, Seated}
use Rattle.vr_routes.specs.Pieces.{ListAfter, joined, no_part, IsWithin}
use Rattle.vr_routes.specs.Changes.{MayChange}
use Rattle.vr_routes.proofs.SeatLemmas.{active_at}
use Rattle.vr_routes.proofs.TourLemmas.{set_twice}
use Rattle.vr_model.proofs.moves.Times.{times_set}
use Rattle.vr_routes.proofs.OnceLemmas.{few_times, once_of_times}

module _ (n : ℕ) (lists : List (List ℕ)) (once : IsOnce lists) (have : HaveNodes n lists)
    (v : ℕ) (low : v < length lists) (list : List ℕ) (same : route lists v ≡ list) where
  seat : (k : ℕ) → k < length list → IsSeat lists (slice_index list k) v k
  seat k k_low = record { vehicle = low; place = subst (λ l. k < length l) (sym same) k_low; found = ap (λ l. slice_index l k) same }

  below : (k : ℕ) → k < length list → slice_index list k < n
  below k k_low = let s = seat k k_low in have (slice_index list k) (active_at lists (slice_index list k) v k low s.place s.found)

  pub list_below : All (λ node. node < n) list
  list_below k d k_low = subst (λ x. x < n) (get_or_default list k 0 d k_low) (below k k_low)

  apart : (i j d : ℕ) → i < j → j < length list → slice_index_or list i d ≢ slice_index_or list j d
  apart i j d order j_low e =
      let i_low : i < length list = omega (arith, order, j_low) in
      let to : slice_index list i ≡ slice_index list j = get_or_default list i 0 d i_low ∙ e ∙ get_or_default list j d 0 j_low in
      let k = (once (slice_index list j) v i v j (subst (λ x. IsSeat lists x v i) to (seat i i_low)) (seat j j_low)).1 in
      omega (arith, order, k)

  pub list_fits : length list ≤ n
  list_fits = length-le_from_distinct_below list n (IsDistinct-from_AllPairs Decides-eqb list apart) found
    where
      found : (q : ℕ) → holds list q ≡ true → q < n
      found q h = let p = place_of_held list q h in subst (λ x. x < n) p.2 (below p.0 p.1)

set_commute : {A : Type 0} (xs : List A) (i j : ℕ) (x y : A) → i ≢ j → slice_set (slice_set xs i x) j y ≡ slice_set (slice_set xs j y) i x
set_commute [] i j x y apart = refl
set_commute (z ∷ zs) zero zero x y apart = absurd (apart refl)
set_commute (z ∷ zs) zero (suc j) x y apart = refl
set_commute (z ∷ zs) (suc i) zero x y apart = refl
set_commute (z ∷ zs) (suc i) (suc j) x y apart = ap (λ l. z ∷ l) (set_commute zs i j x y (λ e. apart (ap suc e)))

pub once_without : (lists : List (List ℕ)) (w : ℕ) → w < length lists → IsOnce lists → IsOnce (slice_set lists w [])
once_without lists w low once =
    once_of_times (slice_set lists w []) (λ x. let whole = times_set x lists w [] low in let few = few_times x lists (once x) in omega (arith, whole, few))

-- two lists, of which one is emptied first
pub emptied : (lists : List (List ℕ)) (v w : ℕ) (nodes others : List ℕ) → v ≢ w
    → slice_set (slice_set (slice_set lists v nodes) w others) w [] ≡ slice_set (slice_set lists w []) v nodes
emptied lists v w nodes others apart = set_twice (slice_set lists v nodes) w others [] ∙ set_commute lists v w nodes [] apart

pub written_in_turn : (lists : List (List ℕ)) (v w : ℕ) (nodes others : List ℕ) → v ≢ w
    → slice_set (slice_set (slice_set lists w []) v nodes) w others ≡ slice_set (slice_set lists v nodes) w others
written_in_turn lists v w nodes others apart = ap (λ l. slice_set l w others) (sym (set_commute lists v w nodes [] apart))
    ∙ set_twice (slice_set lists v nodes) w [] others

-- what a change that may be made gives the vehicle of its one part
pub record IsGiven (seated : Seated) (part : ListAfter) : Type 0 where
  pub may : MayHave seated part.vehicle (joined seated.lists part.pieces)
  pub fits : length (joined seated.lists part.pieces) ≤ seated.nodes
  pub within : All (IsWithin seated.lists) part.pieces

pub one_given : (seated : Seated) (part : ListAfter) → MayChange seated (part ∷ []) → IsGiven seated part
one_given seated part change =
    let v : ℕ = part.vehicle in
    let list : List ℕ = joined seated.lists part.pieces in
    let final : List (List ℕ) = slice_set seated.lists v list in
    let low : v < length seated.lists = change.parts_are.each_vehicle 0 no_part (omega arith) in
    let there : v < length final = omega (arith, low, length-set seated.lists v list) in
    let row : route final v ≡ list = route_set_same seated.lists v list low in
    record {
      may = record { vehicle = low; nodes = list_below seated.nodes final change.once change.have v there list row; once = change.once };
      fits = list_fits seated.nodes final change.once change.have v there list row;
      within = change.parts_are.each_within 0 no_part (omega arith);
    }

-- what it gives the vehicles of its two parts
pub record AreGiven (seated : Seated) (part other : ListAfter) : Type 0 where
  pub may : MayHaveTwo seated part.vehicle (joined seated.lists part.pieces) other.vehicle (joined seated.lists other.pieces)
  pub first_fits : length (joined seated.lists part.pieces) ≤ seated.nodes
  pub second_fits : length (joined seated.lists other.pieces) ≤ seated.nodes
  pub first_within : All (IsWithin seated.lists) part.pieces
  pub second_within : All (IsWithin seated.lists) other.pieces

pub two_given : (seated : Seated) (part other : ListAfter) → MayChange seated (part ∷ other ∷ []) → AreGiven seated part other
two_given seated part other change =
    let v : ℕ = part.vehicle in
    let w : ℕ = other.vehicle in
    let list : List ℕ = joined seated.lists part.pieces in
    let more : List ℕ = joined seated.lists other.pieces in
    let half : List (List ℕ) = slice_set seated.lists v list in
    let final : List (List ℕ) = slice_set half w more in
    let are = change.parts_are in
    let low : v < length seated.lists = are.each_vehicle 0 no_part (omega arith) in
    let low_w : w < length seated.lists = are.each_vehicle 1 no_part (omega arith) in
    let apart : v ≢ w = are.apart 0 1 no_part (omega arith) (omega arith) in
    let there : v < length final = omega (arith, low, length-set seated.lists v list, length-set half w more) in
    let low_half : w < length half = omega (arith, low_w, length-set seated.lists v list) in
    let there_w : w < length final = omega (arith, low_half, length-set half w more) in
    let row : route final v ≡ list = route_set_other half w v more apart ∙ route_set_same seated.lists v list low in
    let row_w : route final w ≡ more = route_set_same half w more low_half in
    record {
      may = record {
        vehicle = low;
        other = low_w;
        apart = apart;
        nodes = list_below seated.nodes final change.once change.have v there list row;
        others = list_below seated.nodes final change.once change.have w there_w more row_w;
        once = change.once;
      };
      first_fits = list_fits seated.nodes final change.once change.have v there list row;
      second_fits = list_fits seated.nodes final change.once change.have w there_w more row_w;
      first_within = are.each_within 0 no_part (omega arith);
      second_within = are.each_within 1 no_part (omega arith);
    }

-- What is known of the parts of a change of valid lists, and more where the lists after it are valid.
use Rattle.std.proofs.Common.{◌≡◌, ◌<◌, ◌≤◌, ℕ, List, length, sym, subst, arith}
use Rattle.std.specs.Prelude.{All, IsTrue}
use Rattle.vr_model.specs.declared.records.Model.{Model}
use Rattle.vr_model.specs.routes.Routes.{are_lists, route, is_distinct}
use Rattle.vr_model.specs.tables.Tables.{is_visit}
use Rattle.std.specs.List.{list_all}
use Rattle.vr_model.specs.routes.Rules.{is_valid}
use Rattle.vr_model.specs.tables.WellFormed.{IsWellFormed}
use Rattle.vr_routes.specs.Pieces.{ListAfter, joined, no_part, part_at, changed, IsWithin}
use Rattle.vr_routes.specs.Changes.{AreParts}
use Rattle.vr_model.proofs.routes.Lists.{are-lists, are_lists-count, route-below, route-few, route-visits, route-distinct}
use Rattle.vr_routes.proofs.CommitLemmas.{as_many_lists}
use Rattle.vr_routes.proofs.CommitLemmas.{entry_after, once_after}
use Rattle.vr_routes.proofs.OnceLemmas.{once_of_times}
use Rattle.vr_routes.proofs.PartLemmas.{part_is}
use Rattle.vr_routes.proofs.SeatLemmas.{active_at, seat_of_active}
use Rattle.vr_routes.proofs.TourLemmas.{held_below, visit_held, visits_below}
use Rattle.vr_routes.specs.Changes.{IsMadeOn}
use Rattle.vr_routes.specs.Seats.{IsOnce}
use Rattle.vr_routes.specs.Tours.{Tours}
use Rattle.std.specs.Prelude.{Bool, ◌==◌, ◌&&◌, slice_index_or}
use Rattle.std.specs.List.{concat}
use Rattle.vr_model.specs.deciding.Testing.{and_right}
use Rattle.vr_model.specs.routes.Routes.{holds, is_active}
use Rattle.vr_model.specs.tables.Tables.{visits}
use Rattle.vr_model.proofs.moves.Times.{times_of_distinct, joined_times}
use Rattle.vr_model.proofs.tables.Tests.{all-from_list_all}
use Rattle.std.proofs.lemmas.List.{get_or_default}

-- lists of a model
pub record AreSmall (model : Model) (lists : List (List ℕ)) : Type 0 where
  pub many : length lists ≡ length model.vehicles
  pub below : (v : ℕ) → All (λ node. node < model.nodes) (route lists v)
  pub few : (v : ℕ) → length (route lists v) ≤ 1000
  pub visits : (v : ℕ) → IsTrue (list_all (is_visit model) (route lists v))
  pub distinct : (v : ℕ) → IsTrue (is_distinct (route lists v))

pub small-lists : (model : Model) → IsWellFormed model → (lists : List (List ℕ)) → IsTrue (are_lists model lists) → AreSmall model lists
small-lists model well lists are =
    record {
      many = are_lists-count model lists are;
      below = λ v. route-below model lists v are;
      few = λ v. (let f = route-few model lists v are in let n = well.number_of_nodes.1 in omega (arith, f, n));
      visits = λ v. route-visits model lists v are;
      distinct = λ v. route-distinct model lists v are;
    }

pub small : (model : Model) → IsWellFormed model → (lists : List (List ℕ)) → IsTrue (is_valid model lists) → AreSmall model lists
small model well lists valid = small-lists model well lists (are-lists model lists valid)

-- part k of a change
pub record IsPart (model : Model) (lists : List (List ℕ)) (part : ListAfter) : Type 0 where
  pub vehicle : part.vehicle < length lists
  pub within : All (IsWithin lists) part.pieces
  pub nodes : All (λ node. node < model.nodes) (joined lists part.pieces)
  pub few : length (joined lists part.pieces) ≤ 1000
  pub visits : IsTrue (list_all (is_visit model) (joined lists part.pieces))
  pub distinct : IsTrue (is_distinct (joined lists part.pieces))

pub of-part : (model : Model) → IsWellFormed model → (lists : List (List ℕ)) (parts : List ListAfter) → AreParts lists parts
    → IsTrue (are_lists model (changed lists parts)) → (k : ℕ) → k < length parts → IsPart model lists (part_at parts k)
of-part model well lists parts are after k low =
    let s = small-lists model well (changed lists parts) after in
    let same = part_is lists parts are k low in
    let v = (part_at parts k).vehicle in
    record {
      vehicle = are.each_vehicle k no_part low;
      within = are.each_within k no_part low;
      nodes = subst (All (λ node. node < model.nodes)) same (s.below v);
      few = subst (λ l. length l ≤ 1000) same (s.few v);
      visits = subst (λ l. IsTrue (list_all (is_visit model) l)) same (s.visits v);
      distinct = subst (λ l. IsTrue (is_distinct l)) same (s.distinct v);
    }

pub is-part : (model : Model) → IsWellFormed model → (lists : List (List ℕ)) (parts : List ListAfter) → AreParts lists parts
    → IsTrue (is_valid model (changed lists parts)) → (k : ℕ) → k < length parts → IsPart model lists (part_at parts k)
is-part model well lists parts are valid = of-part model well lists parts are (are-lists model (changed lists parts) valid)

-- the vehicle of a part is one of the model
pub known-vehicle : (model : Model) → IsWellFormed model → (lists : List (List ℕ)) (parts : List ListAfter) → AreParts lists parts
    → IsTrue (is_valid model (changed lists parts)) → (k : ℕ) → k < length parts → (part_at parts k).vehicle < length model.vehicles
known-vehicle model well lists parts are valid k low =
    let s = small model well (changed lists parts) valid in
    let many = s.many in
    let as_many = as_many_lists lists parts in
    let known = are.each_vehicle k no_part low in
    omega (arith, many, as_many, known)

-- valid lists have no node twice
pub once-valid : (model : Model) (lists : List (List ℕ)) → IsTrue (is_valid model lists) → IsOnce lists
once-valid model lists valid =
    let visits : Bool = list_all (is_visit model) (concat lists) in
    let rest = and_right (length lists == length model.vehicles) (visits && is_distinct (concat lists)) (are-lists model lists valid) in
    let distinct = and_right visits (is_distinct (concat lists)) rest in
    once_of_times lists (λ x. let few = times_of_distinct (concat lists) distinct x in let same = joined_times x lists in omega (arith, few, same))

-- ---- the lists after a change that was made on valid lists

module _ (model : Model) (tours : Tours) (of_model : tours.visits ≡ visits model)
    (valid : IsTrue (is_valid model tours.lists)) (parts : List ListAfter) (made : IsMadeOn tours parts) where
  entry : (x : ℕ) → IsTrue (is_active tours.lists x) → IsTrue (holds tours.visits x)
  entry x active =
      let s = seat_of_active tours.lists x active in
      let visit = all-from_list_all (is_visit model) (route tours.lists s.0)
      (route-visits model tours.lists s.0 (are-lists model tours.lists valid)) s.1 0 s.2.place in
      subst (λ l. IsTrue (holds l x)) (sym of_model) (visit_held model x (subst (λ y. IsTrue (is_visit model y)) s.2.found visit))

  -- no node stands twice in them
  pub once-after : IsOnce (changed tours.lists parts)
  once-after = once_after tours parts made (once-valid model tours.lists valid)

  -- each of their nodes is one of the model
  pub below-after : (k : ℕ) → k < length parts → All (λ node. node < model.nodes) (joined tours.lists (part_at parts k).pieces)
  below-after k low = subst (All (λ node. node < model.nodes)) (part_is tours.lists parts made.makes.parts_are k low) each
    where
      v : ℕ
      v = (part_at parts k).vehicle

      known : v < length (changed tours.lists parts)
      known = let n = as_many_lists tours.lists parts in let h = made.makes.parts_are.each_vehicle k no_part low in omega (arith, n, h)

      each : All (λ node. node < model.nodes) (route (changed tours.lists parts) v)
      each j d under =
          let x = slice_index_or (route (changed tours.lists parts) v) j d in
          let active = active_at (changed tours.lists parts) x v j known under (get_or_default (route (changed tours.lists parts) v) j 0 d under) in
          let held = entry_after tours parts made (once-valid model tours.lists valid) entry x active in
          held_below (visits model) model.nodes (visits_below model) x (subst (λ l. IsTrue (holds l x)) of_model held)

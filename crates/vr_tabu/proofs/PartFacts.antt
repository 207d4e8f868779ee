-- What is known of each part of a change of lists of a model.
use Rattle.std.proofs.Common.{◌≡◌, ◌∙◌, ℕ, ◌<◌, true, false, not, List, length, sym, ap, subst, inl, inr, arith}
use Rattle.std.specs.Prelude.{All, IsTrue, ◌||◌}
use Rattle.std.specs.List.{list_any}
use Rattle.std.proofs.lemmas.List.Elements.{All-weaker}
use Rattle.vr_model.specs.deciding.Testing.{or_cases}
use Rattle.vr_model.specs.declared.neighbours.Move.{Move}
use Rattle.vr_model.specs.moves.MoveTests.{is_move}
use Rattle.vr_model.specs.routes.Rules.{is_valid}
use Rattle.vr_model.proofs.moves.KeptLists.{moves_keep_lists}
use Rattle.vr_model.specs.routes.Routes.{are_lists, holds, is_distinct, route}
use Rattle.vr_model.specs.tables.Numbers.{below}
use Rattle.vr_model.specs.tables.Tables.{vehicle_at, visits}
use Rattle.vr_model.specs.tables.WellFormed.{IsWellFormed}
use Rattle.vr_model.specs.declared.records.Model.{Model}
use Rattle.vr_model.proofs.routes.Lists.{are-lists, place_of_held, route-below, route-distinct}
use Rattle.vr_model.proofs.tables.Members.{In}
use Rattle.vr_routes.specs.Changes.{AreParts, IsChange}
use Rattle.vr_routes.specs.Pieces.{ListAfter, changed, joined, no_part, part_at}
use Rattle.vr_routes.proofs.ListsLemmas.{visits_of}
use Rattle.vr_routes.proofs.PartLemmas.{part_is}
use Rattle.vr_routes.proofs.CommitLemmas.{as_many_lists}
use Rattle.vr_routes.proofs.SeatLemmas.{active_at}
use Rattle.vr_routes.proofs.TourLemmas.{visit_held}
use Rattle.vr_tabu.specs.Parts.{IsListChange, OldAndNew, change_of, frees}
use Rattle.vr_tabu.specs.TabuSearches.{TabuList, is_tabu}
use Rattle.vr_tabu.proofs.ChangedLemmas.{in_of_held, tabu_by_parts}

-- after the change of a move there are lists of the model still
pub change_keeps_lists : (model : Model) (lists : List (List ℕ)) (parts : List ListAfter) → IsWellFormed model → IsTrue (is_valid model lists)
    → (mv : Move) → IsTrue (is_move model lists mv) → IsChange model lists mv parts → IsTrue (are_lists model (changed lists parts))
change_keeps_lists model lists parts well valid mv is_one change =
    subst (λ ls. IsTrue (are_lists model ls)) (sym change.lists_are) (moves_keep_lists model well lists mv (are-lists model lists valid) is_one)

module _ (model : Model) (lists : List (List ℕ)) (parts : List ListAfter) (are : AreParts lists parts)
    (before : IsTrue (are_lists model lists)) (later : IsTrue (are_lists model (changed lists parts))) (well : IsWellFormed model) where
  abbrev vehicle_of : ℕ → ℕ
  vehicle_of k = (part_at parts k).vehicle

  abbrev list_of : ℕ → List ℕ
  list_of k = joined lists (part_at parts k).pieces

  pub there : (k : ℕ) → k < length parts → vehicle_of k < length lists
  there k low = are.each_vehicle k no_part low

  pub old_below : (k : ℕ) → All (λ visit. visit < model.nodes) (route lists (vehicle_of k))
  old_below k = route-below model lists (vehicle_of k) before

  pub new_below : (k : ℕ) → k < length parts → All (λ visit. visit < model.nodes) (list_of k)
  new_below k low =
      subst (λ list. All (λ visit. visit < model.nodes) list) (part_is lists parts are k low) (route-below model (changed lists parts) (vehicle_of k) later)

  pub new_below_room : (k : ℕ) → k < length parts → All (λ visit. visit < 1000) (list_of k)
  new_below_room k low = All-weaker (λ visit. visit < model.nodes) (λ visit. visit < 1000)
      (λ visit less. let few = well.number_of_nodes.1 in omega (arith, less, few)) (list_of k) (new_below k low)

  pub list_change : (k : ℕ) → k < length parts → IsListChange lists (vehicle_of k) (list_of k)
  list_change k low = record {
    vehicle = there k low;
    old_distinct = route-distinct model lists (vehicle_of k) before;
    new_distinct = subst (λ list. IsTrue (is_distinct list)) (part_is lists parts are k low) (route-distinct model (changed lists parts) (vehicle_of k) later);
  }

  -- what stands in the list of a vehicle is a visit
  standing : (all : List (List ℕ)) → IsTrue (are_lists model all) → (v : ℕ) → v < length all
      → (visit : ℕ) → IsTrue (holds (route all v) visit) → In (visits model) visit
  standing all are_all v low visit held = let at = place_of_held (route all v) visit held in
      in_of_held (visits model) visit (visit_held model visit (visits_of model all are_all visit (active_at all visit v at.0 low at.1 at.2)))

  are_visits : (k : ℕ) → k < length parts → (visit : ℕ) → (holds (list_of k) visit || holds (route lists (vehicle_of k)) visit) ≡ true → In (visits model) visit
  are_visits k low visit h = elim (or_cases (holds (list_of k) visit) _ h) [
    | inl new ↦
        standing (changed lists parts) later (vehicle_of k) (let many = as_many_lists lists parts in let t = there k low in omega (arith, many, t)) visit
        (subst (λ list. IsTrue (holds list visit)) (sym (part_is lists parts are k low)) new)
    | inr old ↦ standing lists before (vehicle_of k) (there k low) visit old
  ]

  -- some part frees a visit
  pub free_found : (tabus : TabuList) → true ≡ list_any (λ k. frees tabus (change_of model lists parts k)) (below (length parts))
      → false ≡ is_tabu model tabus lists (changed lists parts)
  free_found tabus e = ap not e ∙ sym (tabu_by_parts model lists parts are tabus are_visits)

  -- no part does
  pub none_found : (tabus : TabuList) → false ≡ list_any (λ k. frees tabus (change_of model lists parts k)) (below (length parts))
      → true ≡ is_tabu model tabus lists (changed lists parts)
  none_found tabus e = ap not e ∙ sym (tabu_by_parts model lists parts are tabus are_visits)

-- the list of vehicle v and another one, behind a start
abbrev pub seen_of : List (List ℕ) → ℕ → ℕ → List ℕ → OldAndNew
seen_of lists start v new = record { start = start; old = route lists v; new = new }

-- what is seen of a part in code is what it makes of the list of its vehicle
pub seen_as : (model : Model) (lists : List (List ℕ)) (parts : List ListAfter) (k start v : ℕ) (new : List ℕ)
    → v ≡ (part_at parts k).vehicle → start ≡ (vehicle_at model v).start → new ≡ joined lists (part_at parts k).pieces
    → seen_of lists start v new ≡ change_of model lists parts k
seen_as model lists parts k start v new same_vehicle same_start same_list =
    ap (λ s. seen_of lists s v new) same_start
    ∙ (ap (λ w. seen_of lists (vehicle_at model w).start w new) same_vehicle
    ∙ ap (seen_of lists (vehicle_at model (part_at parts k).vehicle).start (part_at parts k).vehicle) same_list)

-- What is known of the lists after a change, where they are valid.
use Rattle.std.proofs.Common.{◌≡◌, ◌<◌, ◌≤◌, ℕ, false, List, length, sym, subst, arith}
use Rattle.std.specs.Prelude.{IsTrue}
use Rattle.vr_model.specs.declared.records.Model.{Model}
use Rattle.vr_model.specs.tables.WellFormed.{IsWellFormed}
use Rattle.vr_model.specs.deciding.Testing.{and_left, and_right}
use Rattle.vr_model.specs.routes.Costs.{assigned, plan_at}
use Rattle.vr_model.specs.routes.Routes.{are_lists, is_empty, route}
use Rattle.vr_model.specs.routes.Rules.{is_open, is_valid}
use Rattle.vr_model.specs.schedules.Lines.{line}
use Rattle.vr_model.specs.schedules.Schedules.{IsFeasible}
use Rattle.vr_model.proofs.routes.Assigned.{open_meets_its_lines}
use Rattle.vr_model.proofs.routes.Lists.{are-lists, route-distinct, route-few, route-visits}
use Rattle.vr_routes.specs.Changes.{AreParts}
use Rattle.vr_routes.specs.Pieces.{ListAfter, changed, joined, no_part, part_at}
use Rattle.vr_routes.proofs.CommitLemmas.{as_many_lists}
use Rattle.vr_routes.proofs.PartLemmas.{part_is}
use Rattle.vr_reach.specs.Lists.{IsTour, IsUsed}
use Rattle.vr_costfilter.specs.PartsAfter.{list_after}
use Rattle.vr_costfilter.specs.declared.parts_after.PartAfter.{PartAfter}

-- a list of a valid model
pub record IsListOf (model : Model) (list : List ℕ) : Type 0 where
  pub tour : IsTour model list
  pub few : length list ≤ 1000

pub list-of : (model : Model) → IsWellFormed model → (lists : List (List ℕ)) → IsTrue (is_valid model lists) → (v : ℕ) → IsListOf model (route lists v)
list-of model well lists valid v =
    let are = are-lists model lists valid in
    record {
      tour = record { visits = route-visits model lists v are; distinct = route-distinct model lists v are };
      few = (let f = route-few model lists v are in omega (arith, f, well.number_of_nodes.1));
    }

-- the list of part k
pub list-after : (model : Model) → IsWellFormed model → (lists : List (List ℕ)) (parts : List ListAfter)
    → AreParts lists parts → IsTrue (is_valid model (changed lists parts)) → (k : ℕ) → k < length parts
    → IsListOf model (joined lists (part_at parts k).pieces)
list-after model well lists parts are valid k low =
    subst (IsListOf model) (part_is lists parts are k low) (list-of model well (changed lists parts) valid (part_at parts k).vehicle)

pub used-after : (model : Model) (list : List ℕ) → IsListOf model list → is_empty list ≡ false → IsUsed model list
used-after model list is some = record { some = some; tour = is.tour }

-- its line is feasible
module _ (model : Model) (lists : List (List ℕ)) (valid : IsTrue (is_valid model lists)) where
  opened : IsTrue (is_open model lists)
  unfolding is_valid
  opened = and_left (is_open model lists) _ (and_right (are_lists model lists) _ valid)

  feasible-of : (d v : ℕ) → d < length model.dimensions → v < length lists → is_empty (route lists v) ≡ false → IsFeasible (line model d v (route lists v))
  feasible-of d v low known some = (plan_at (assigned model lists) d v, open_meets_its_lines model lists opened d v low known some)

pub feasible-after : (model : Model) (lists : List (List ℕ)) (parts : List ListAfter) → AreParts lists parts
    → IsTrue (is_valid model (changed lists parts)) → (k : ℕ) → k < length parts → (d : ℕ) → d < length model.dimensions
    → is_empty (joined lists (part_at parts k).pieces) ≡ false → IsFeasible (line model d (part_at parts k).vehicle (joined lists (part_at parts k).pieces))
feasible-after model lists parts are valid k low d dimension some =
    let v = (part_at parts k).vehicle in
    let same = part_is lists parts are k low in
    let known : v < length (changed lists parts) = (let n = as_many_lists lists parts in let h = are.each_vehicle k no_part low in omega (arith, n, h)) in
    subst (λ l. IsFeasible (line model d v l)) same
    (feasible-of model (changed lists parts) valid d v dimension known (subst (λ l. is_empty l ≡ false) (sym same) some))

-- the list that a part of a change gives its vehicle
pub list-of-part : (part : PartAfter) → IsListOf part.model.now (list_after part)
list-of-part part =
    list-after part.model.now part.sound.well_formed part.routes.now.lists part.change.now part.sound.parts_are part.sound.valid part.k part.sound.part

-- What a change makes of the list of one vehicle.
use Rattle.std.specs.Prelude.{◌≡◌, ℕ, ◌<◌, Bool, not, ◌&&◌, ◌||◌, List, length, slice_index, IsTrue}
use Rattle.std.specs.List.{list_any}
use Rattle.vr_model.specs.routes.Routes.{route, holds, is_distinct}
use Rattle.vr_model.specs.tables.Tables.{vehicle_at}
use Rattle.vr_model.specs.declared.records.Model.{Model}
use Rattle.vr_routes.specs.Pieces.{ListAfter, joined, part_at}
use Rattle.vr_tabu.specs.Changed.{is_changed_in}
use Rattle.vr_tabu.specs.TabuSearches.{TabuList, is_tabu_visit}

-- the list of a vehicle before and after a change, and the start of the vehicle
pub record OldAndNew : Type 0 where
  pub start : ℕ
  pub old : List ℕ
  pub new : List ℕ

-- a visit is changed
abbrev pub changes : OldAndNew → ℕ → Bool
changes list visit = is_changed_in list.start list.old list.new visit

-- a visit that is not tabu is changed
abbrev pub is_freed : TabuList → OldAndNew → ℕ → Bool
is_freed tabus list visit = not (is_tabu_visit tabus visit) && changes list visit

-- some visit of either list that is not tabu is changed
abbrev pub frees : TabuList → OldAndNew → Bool
frees tabus list = list_any (is_freed tabus list) list.new || list_any (is_freed tabus list) list.old

-- v is a vehicle of the lists, and no visit is twice in its list, nor in the new one
pub record IsListChange (lists : List (List ℕ)) (v : ℕ) (new : List ℕ) : Type 0 where
  pub vehicle : v < length lists
  pub old_distinct : IsTrue (is_distinct (route lists v))
  pub new_distinct : IsTrue (is_distinct new)

-- a place of a list is kept of a visit, which is there
pub record IsPlaced (list places : List ℕ) (visit : ℕ) : Type 0 where
  pub place : slice_index places visit < length list
  pub stands : slice_index list (slice_index places visit) ≡ visit

-- of each visit of a list its place is kept
abbrev pub ArePlaced : List ℕ → List ℕ → Type 0
ArePlaced list places = (visit : ℕ) → IsTrue (holds list visit) → IsPlaced list places visit

-- what part k of a change makes of the list of its vehicle
abbrev pub change_of : Model → List (List ℕ) → List ListAfter → ℕ → OldAndNew
change_of model lists parts k = record {
  start = (vehicle_at model (part_at parts k).vehicle).start;
  old = route lists (part_at parts k).vehicle;
  new = joined lists (part_at parts k).pieces;
}

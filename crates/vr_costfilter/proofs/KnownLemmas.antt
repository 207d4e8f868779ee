-- What is known where a part of the cost is asked.
use Rattle.std.proofs.Common.{◌≡◌, ◌<◌, ℕ, List, length, sym, subst, arith}
use Rattle.std.specs.Prelude.{IsTrue, slice_index_or}
use Rattle.vr_model.specs.routes.Rules.{is_valid}
use Rattle.vr_model.specs.tables.WellFormed.{IsWellFormed}
use Rattle.vr_model.specs.declared.records.Model.{Model}
use Rattle.vr_plan.specs.Tables.{AreTables}
use Rattle.vr_plan.specs.declared.tables.Table.{Table}
use Rattle.vr_plan.proofs.TableLemmas.{table_at}
use Rattle.vr_routes.specs.Pieces.{ListAfter, changed}
use Rattle.vr_routes.specs.Tours.{Tours}
use Rattle.vr_earliest.specs.declared.earlies.Early.{Early}
use Rattle.vr_costfilter.specs.EarlyParts.{AreEarlyInRange, AreEarlyParts}
use Rattle.vr_costfilter.specs.GlobalCosts.{KeptSpans, StandsSpans}
use Rattle.vr_costfilter.specs.Known.{AreCumulsAt, IsValidChange}
use Rattle.vr_costfilter.specs.LookedUp.{IsLookedUp}
use Rattle.vr_costfilter.specs.PlanCosts.{KeptPlans, StandsPlans}
use Rattle.vr_costfilter.specs.Tours.{IsTourOf}
use Rattle.vr_costfilter.specs.ValidParts.{IsValidPart}
use Rattle.vr_costfilter.specs.declared.kept.KeptList.{KeptList}
use Rattle.vr_costfilter.proofs.PartLemmas.{IsListOf}

-- a list that a vehicle may have, as it is read
pub tour-of : (model : Model) (v : ℕ) (list : List ℕ) → v < length model.vehicles → IsListOf model list → (read : List ℕ) → read ≡ list → IsTourOf model v read
tour-of model v list known is read same =
    subst (IsTourOf model v) (sym same) (record { vehicle = known; visits = is.tour.visits; distinct = is.tour.distinct; few = is.few })

-- what is looked up of a dimension, as it is read of all of them
pub known-at : (model : Model) (tables : List Table) → AreTables model tables → (d : ℕ) (table : Table)
    → table ≡ slice_index_or tables d table → d < length tables → IsLookedUp model d table
known-at model tables are d table is under =
    let low : d < length model.dimensions = omega (arith, are.one_of_each, under) in
    record { dimension = low; told = table_at model tables are d table is low }

-- a part of a change before which and after which lists are valid, for a model as it is seen
pub valid-part : (model seen : Model) → model ≡ seen → IsWellFormed model → (kept : List (List KeptList)) (tours : Tours) (parts : List ListAfter)
    → IsValidChange (AreCumulsAt seen kept) seen tours parts → (k : ℕ) → k < length parts → IsValidPart model tours.lists parts k
valid-part model seen same well kept tours parts h k part = record {
  well_formed = well;
  before = subst (λ m. IsTrue (is_valid m tours.lists)) (sym same) h.stands.before;
  parts_are = h.made.makes.parts_are;
  valid = subst (λ m. IsTrue (is_valid m (changed tours.lists parts))) (sym same) h.valid;
  part = part;
}

-- a change stays valid where the model stays as it was
pub still-valid : {before later : Tours → Type 0} {model other : Model} {tours : Tours} {parts : List ListAfter}
    → IsValidChange before model tours parts → other ≡ model → later tours → IsValidChange later other tours parts
still-valid {before} {later} {model} {other} {tours} {parts} h same stands = record {
  stands = stands;
  made = h.made;
  valid = subst (λ m. IsTrue (is_valid m (changed tours.lists parts))) (sym same) h.valid;
}

-- what is told of the lists after a change of lists is in its range
pub early-range : (model : Model) (lists : List (List ℕ)) (parts : List ListAfter) (rows : List (List Early))
    → AreEarlyParts model lists parts rows → AreEarlyInRange model parts rows
early-range model lists parts rows h = record {
  well_formed = h.well_formed;
  few = h.earlies.few;
  known = λ k other low. (let v : (slice_index_or parts k other).vehicle < length lists = h.parts_are.each_vehicle k other low in omega (arith, v, h.as_many));
  range = λ d low paid k under. (let e = h.earlies.each d low paid k under in record { last = e.last_range; span = e.span_range });
}

-- ---- cumuls of lists at which a part of the cost stands

pub plans-cumuls : (kept : KeptPlans) (tours : Tours) (parts : List ListAfter)
    → IsValidChange (StandsPlans kept) kept.model tours parts → IsValidChange (AreCumulsAt kept.model kept.cumuls) kept.model tours parts
plans-cumuls kept tours parts h = record { stands = record { before = h.stands.valid; cumuls = h.stands.cumuls }; made = h.made; valid = h.valid }

pub spans-cumuls : (kept : KeptSpans) (tours : Tours) (parts : List ListAfter)
    → IsValidChange (StandsSpans kept) kept.model tours parts → IsValidChange (AreCumulsAt kept.model kept.cumuls) kept.model tours parts
spans-cumuls kept tours parts h = record { stands = record { before = h.stands.valid; cumuls = h.stands.cumuls }; made = h.made; valid = h.valid }

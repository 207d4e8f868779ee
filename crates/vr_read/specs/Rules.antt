-- The rules on the whole model, in order: the first fault is the answer.
use Rattle.std.specs.Prelude.{ℕ, List, [], ◌∷◌, length, codes, Result, Ok, ⊤}
use Rattle.vr_json.specs.declared.fault.Cause.TheVariants.{NegativeCost, LargeTransit, NegativeTransit, UnlikeVehicles}
use Rattle.vr_json.specs.declared.fault.Fault.{Fault}
use Rattle.vr_json.specs.Paths.{name_path, item_path}
use Rattle.vr_json.specs.Reading.{◌>>=◌, refuse_if}
use Rattle.vr_model.specs.tables.Numbers.{below}
use Rattle.vr_model.specs.tables.Tables.{dimension_at}
use Rattle.vr_model.specs.tables.ModelRules.{has_negative_cost, is_large, evaluator_at, goes_back, cannot_save}
use Rattle.vr_model.specs.declared.records.Model.{Model}
use Rattle.vr_model.specs.declared.records.Dimension.{Dimension}

-- each of some numbers in order: the first fault is the answer
unfoldable pub for_all : List ℕ → (ℕ → Result ⊤ Fault) → Result ⊤ Fault
for_all [] rule = Ok tt
for_all (k ∷ ks) rule = rule k >>= λ passed. for_all ks rule

-- the path of a field of entry k of an array
abbrev pub field_of_entry : List ℕ → List ℕ → ℕ → List ℕ → List ℕ
field_of_entry path array k field = name_path (item_path (name_path path array) k) field

-- the cost matrix of vehicle v has no negative entry
abbrev pub cost_rule : List ℕ → Model → ℕ → Result ⊤ Fault
cost_rule path model v =
    refuse_if (has_negative_cost model v) NegativeCost (field_of_entry path (codes "vehicles") v (codes "costs"))

-- no vehicle's cost matrix has a negative entry: the first vehicle in order that breaks it is the fault
abbrev pub costs_rule : List ℕ → Model → Result ⊤ Fault
costs_rule path model = for_all (below (length model.vehicles)) (cost_rule path model)

-- the matrix of evaluator k of a dimension, which is at this path, has no entry that is too large
abbrev pub entry_rule : List ℕ → Model → Dimension → ℕ → Result ⊤ Fault
entry_rule path model dimension k =
    refuse_if (is_large model (evaluator_at dimension k).matrix) LargeTransit
    (field_of_entry path (codes "evaluators") k (codes "matrix"))

-- the same of each evaluator of a dimension, whether a vehicle uses it or not
abbrev pub dimension_entries_rule : List ℕ → Model → Dimension → Result ⊤ Fault
dimension_entries_rule path model dimension =
    for_all (below (length dimension.evaluators)) (entry_rule path model dimension)

-- the same of dimension d, at its place in the model
abbrev pub entries_rule_at : List ℕ → Model → ℕ → Result ⊤ Fault
entries_rule_at path model d =
    dimension_entries_rule (item_path (name_path path (codes "dimensions")) d) model (dimension_at model d)

-- the same of each dimension
abbrev pub entries_rule : List ℕ → Model → Result ⊤ Fault
entries_rule path model = for_all (below (length model.dimensions)) (entries_rule_at path model)

-- dimension d does not go back if it has breaks or span costs
abbrev pub transit_rule : List ℕ → Model → ℕ → Result ⊤ Fault
transit_rule path model d =
    refuse_if (goes_back model d) NegativeTransit (item_path (name_path path (codes "dimensions")) d)

-- no dimension goes back if it has breaks or span costs
abbrev pub transits_rule : List ℕ → Model → Result ⊤ Fault
transits_rule path model = for_all (below (length model.dimensions)) (transit_rule path model)

-- savings are asked for only of vehicles that are alike, with no rows of allowed vehicles
abbrev pub savings_rule : List ℕ → Model → Result ⊤ Fault
savings_rule path model =
    refuse_if (cannot_save model) UnlikeVehicles (name_path (name_path path (codes "search")) (codes "first"))

-- the rules on the whole model
unfoldable pub rules : List ℕ → Model → Result ⊤ Fault
rules path model = do
  costs ← costs_rule path model
  entries ← entries_rule path model
  transits ← transits_rule path model
  savings_rule path model

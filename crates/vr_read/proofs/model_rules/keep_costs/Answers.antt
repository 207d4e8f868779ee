use Rattle.std.proofs.Common.{◌≡◌, ℕ, Bool, false, List, map, length, sym, ap, ◌∙◌, arith}
use Rattle.std.specs.Prelude.{codes, slice_index_or}
use Rattle.std.specs.List.{list_any}
use Rattle.std.proofs.Math.ListN.{get_or-map}
use Rattle.vr_json.specs.Paths.{name_path, item_path}
use Rattle.vr_json.proofs.Steps.{asked}
use Rattle.vr_model.specs.tables.ModelRules.{is_negative, has_negative_cost}
use Rattle.vr_model.specs.tables.Tables.{no_matrix, matrix_at, no_vehicle, vehicle_at}
use Rattle.vr_model.specs.declared.records.Model.{Model}
use Rattle.vr_model.specs.declared.records.Vehicle.{Vehicle}
use Rattle.vr_read.specs.Rules.{cost_rule}
use Rattle.vr_read.proofs.RuleLoops.{rule_passes, rule_stops, rule_ends}
use Rattle.vr_read.proofs.model_rules.keep_costs.Goals as goal

-- what is marked of the matrix of a vehicle
mark_is : (model : Model) (v : ℕ) {marks : List Bool} {mark : Bool} (vehicle : Vehicle)
    → marks ≡ map (λ matrix. list_any is_negative matrix.entries) model.matrices
    → slice_index_or marks vehicle.costs false ≡ mark → vehicle_at model v ≡ vehicle
    → mark ≡ has_negative_cost model v
mark_is model v vehicle marked found known =
    sym found ∙ ap (λ marks. slice_index_or marks vehicle.costs false) marked
    ∙ get_or-map (λ matrix. list_any is_negative matrix.entries) model.matrices vehicle.costs no_matrix
    ∙ ap (λ vehicle. list_any is_negative (matrix_at model vehicle.costs).entries) (sym known)

pub returns-in_err-refuse_field : goal.returns-in_err-refuse_field
returns-in_err-refuse_field c =
    let model = c.args.of.model.now in
    rule_stops (cost_rule c.args.path.now model) (length model.vehicles) c.loop-v.v c.loop-v.invariant (omega arith) _
    (asked _
    (mark_is model c.loop-v.v c.get.result.now (c.in_ok-negative.ensures ∙ ap (map (λ matrix. list_any is_negative matrix.entries)) c.as_slice.ensures)
    (c.get-broken.ensures.value false) (c.get.ensures.value no_vehicle))
    (ap (λ p. name_path (item_path p c.loop-v.v) (codes "costs")) c.in_ok-vehicles.ensures) c.in_err-refuse_field.ensures)
    c.from_residual-in_err-refuse_field.ensures.1

pub loop-v-preserved : goal.loop-v-preserved
loop-v-preserved c =
    let model = c.args.of.model.now in
    rule_passes (cost_rule c.args.path.now model) (length model.vehicles) c.loop-v.v c.loop-v.invariant (omega arith)
    (asked _
    (mark_is model c.loop-v.v c.get.result.now (c.in_ok-negative.ensures ∙ ap (map (λ matrix. list_any is_negative matrix.entries)) c.as_slice.ensures)
    (c.get-broken.ensures.value false) (c.get.ensures.value no_vehicle))
    (ap (λ p. name_path (item_path p c.loop-v.v) (codes "costs")) c.in_ok-vehicles.ensures) c.in_ok-refuse_field.ensures)

pub returns : goal.returns
returns c = let model = c.args.of.model.now in rule_ends (cost_rule c.args.path.now model) (length model.vehicles) c.loop-v.v c.loop-v.invariant (omega arith)

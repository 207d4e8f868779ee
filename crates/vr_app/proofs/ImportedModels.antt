-- The model that the tree of a file is read as.
use Rattle.std.proofs.Common.{◌≡◌, ◌∙◌, ℕ, zero, suc, ◌-◌, ◌<◌, false, ◌&&◌, ◌||◌, not, List, [], ◌∷◌, length, replicate, Ok, refl, ap, arith}
use Rattle.std.specs.Prelude.{pos, ◌≤ℤ◌, slice_index_or}
use Rattle.std.specs.List.{All, list_any}
use Rattle.std.proofs.lemmas.List.Elements.{All-replicate, All-weaker}
use Rattle.std.proofs.lemmas.List.Folds.{list_any_none}
use Rattle.serde_json.specs.Data.{Data}
use Rattle.vr_json.specs.declared.fault.Cause.TheVariants.{NegativeCost, NegativeTransit}
use Rattle.vr_json.specs.Reading.{and_then, at_path, field, if_present, required, optional, known, if_unknown, list, entries, array as array_of, refuse_if}
use Rattle.vr_json.specs.Kinds.{count as count_of}
use Rattle.vr_model.specs.tables.Numbers.{is_same_number}
use Rattle.vr_model.specs.tables.Tables.{no_matrix, vehicle_at}
use Rattle.vr_model.specs.tables.ModelRules.{is_negative, has_negative_transit}
use Rattle.vr_model.specs.declared.records.Matrix.{Matrix}
use Rattle.vr_model.specs.declared.records.Model.{Model}
use Rattle.vr_read.specs.Vehicles.{matrix as matrix_of}
use Rattle.vr_read.specs.Formats.{format}
use Rattle.vr_read.specs.Searches.{default_search}
use Rattle.vr_read.specs.Rules.{for_all, costs_rule, entries_rule, transits_rule, rules}
use Rattle.vr_read.specs.Models.{base, visit_tables, parts, model_table, read_model}
use Rattle.vr_read.proofs.WellFormedModels.{well_formed_from_read}
use Rattle.vr_gen.proofs.ExactReadings.{step, refuse_none}
use Rattle.vr_gen.proofs.ModelRead.{for_range_passes, not_negative}
use Rattle.vr_tsplib.specs.declared.files.State.{State}
use Rattle.vr_tsplib.specs.declared.summaries.Problem.{Problem}
use Rattle.vr_tsplib.specs.Ranges.{IsProblem, AreLinesInRange, IsCountIn}
use Rattle.vr_tsplib.specs.Trees.{matrix, tree_of}
use Rattle.vr_app.specs.ImportLaws.{GivesModel, ImportedTreesAreModels}
use Rattle.vr_app.proofs.ImportedFiles.{IsOfFile, imported_of_file}
use Rattle.vr_app.proofs.ImportedMatrices.{matrix_read}
use Rattle.vr_app.proofs.ImportedTables.{count_reads, fleet_read, fleet_reads, loads_read, loads_reads}

-- ---- rules

-- the one matrix has no negative entry, and a number of no matrix gives none
none_negative : (one : Matrix) (m : ℕ) → All (λ z. pos 0 ≤ℤ z) one.entries → list_any is_negative (slice_index_or (one ∷ []) m no_matrix).entries ≡ false
none_negative one zero h = list_any_none is_negative one.entries (All-weaker (λ z. pos 0 ≤ℤ z) (λ z. is_negative z ≡ false) not_negative one.entries h)
none_negative one (suc m) h = refl

no_span_costs : (vehicles : ℕ) → list_any (λ coefficient. not (is_same_number coefficient (pos 0))) (replicate vehicles (pos 0)) ≡ false
no_span_costs vehicles =
    list_any_none (λ coefficient. not (is_same_number coefficient (pos 0))) (replicate vehicles (pos 0))
    (All-replicate (λ coefficient. not (is_same_number coefficient (pos 0)) ≡ false) vehicles (pos 0) refl)

-- ---- the model

module _ (vehicles : ℕ) (state : State) (problem : Problem) (one : Matrix) where
  abbrev model_read : Model
  model_read =
      let all = fleet_read vehicles (problem.depot - 1) in
      record {
        nodes = problem.nodes;
        matrices = one ∷ [];
        vehicles = all;
        dimensions = loads_read problem.nodes state (length all) problem.capacity ∷ [];
        groups = [];
        pairs = [];
        allowed = [];
        search = default_search;
      }

  costs_pass : (path : List ℕ) → All (λ z. pos 0 ≤ℤ z) one.entries → costs_rule path model_read ≡ Ok tt
  costs_pass path up =
      for_range_passes _ 0 (length model_read.vehicles) (λ v. refuse_none NegativeCost _ (none_negative one (vehicle_at model_read v).costs up))

  entries_pass : (path : List ℕ) → entries_rule path model_read ≡ Ok tt
  unfolding for_all refuse_if and_then
  entries_pass path = refl

  transits_pass : (path : List ℕ) → transits_rule path model_read ≡ Ok tt
  unfolding for_all and_then
  transits_pass path =
      let vehicles = length model_read.vehicles in
      step _ (refuse_none NegativeTransit _ (ap (λ b. (b || false) && has_negative_transit model_read 0) (no_span_costs vehicles))) refl

  rules_pass : (path : List ℕ) → All (λ z. pos 0 ≤ℤ z) one.entries → rules path model_read ≡ Ok tt
  unfolding rules refuse_if and_then
  rules_pass path up = step _ (costs_pass path up) (step _ (entries_pass path) (step _ (transits_pass path) refl))

  module _ (some : IsCountIn 1 100 vehicles) (sound : AreLinesInRange state) (within : IsProblem problem)
      (matrix_reads : (path : List ℕ) → matrix_of problem.nodes path (matrix problem.distances problem.nodes state) ≡ Ok one) where
    table_reads : (path : List ℕ) → model_table path (tree_of vehicles state problem) ≡ Ok model_read
    unfolding model_table base parts visit_tables tree_of format count_of required
        optional known if_unknown field if_present array_of list entries at_path and_then
    table_reads path =
        let n = problem.nodes in
        let node = problem.depot - 1 in
        let all = fleet_read vehicles node in
        let low : node < n = omega (arith, within.depot.0, within.depot.1) in
        step _
        (step _ (count_reads n 1 1000 _ within.nodes.0 within.nodes.1 (omega arith))
        (step _ (step _ (matrix_reads _) refl) (step _ (fleet_reads n node within.nodes.1 low vehicles _ some.0 some.1) refl)))
        (step _ (step _ (step _ (loads_reads n state (length all) problem.capacity all _ sound.demands within.capacity) refl) refl) refl)

    model_reads : (path : List ℕ) → All (λ z. pos 0 ≤ℤ z) one.entries → read_model path (tree_of vehicles state problem) ≡ Ok model_read
    unfolding read_model and_then
    model_reads path up = step _ (table_reads path) (step _ (rules_pass path up) refl)

-- the tree of a file is read as a model
of_file_reads : (vehicles : ℕ) (tree : Data) (path : List ℕ) → IsCountIn 1 100 vehicles → IsOfFile vehicles tree → GivesModel (read_model path tree)
of_file_reads vehicles tree path some file =
    let cost = matrix_read file.problem.distances file.problem.nodes file.state file.sound in
    let model = model_read vehicles file.state file.problem cost.matrix in
    let is : read_model path tree ≡ Ok model = ap (read_model path) file.is
    ∙ model_reads vehicles file.state file.problem cost.matrix some file.sound file.in_range cost.is_read path cost.not_negative in
    record { model = model; is_read = is; is_well_formed = well_formed_from_read path tree model is }

pub imported_trees_are_models : ImportedTreesAreModels
imported_trees_are_models vehicles some bytes tree is path = of_file_reads vehicles tree path some ((imported_of_file vehicles bytes).of_value tree is)

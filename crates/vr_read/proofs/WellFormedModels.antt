-- What reading gives is well formed.
use Rattle.std.proofs.Common.{◌≡◌, ℕ, zero, suc, ◌+◌, ◌<◌, ◌≤◌, false, List, [], map, length, Result, Ok, IfOk, refl, subst, inl, inr, arith}
use Rattle.std.specs.Prelude.{codes, ⊤, IsTrue}
use Rattle.std.specs.List.{All, range_with_len}
use Rattle.std.proofs.lemmas.Bool.{cases_eq}
use Rattle.std.proofs.lemmas.List.Elements.{All-nil}
use Rattle.serde_json.specs.Data.{Data}
use Rattle.vr_json.specs.declared.fault.Fault.{Fault}
use Rattle.vr_json.specs.declared.fault.ReadFail.{ReadFail}
use Rattle.vr_json.specs.Reading.{Answers}
use Rattle.vr_model.specs.tables.Numbers.{below}
use Rattle.vr_model.specs.routes.Routes.{is_distinct}
use Rattle.vr_model.specs.tables.Tables.{dimension_at}
use Rattle.vr_model.specs.tables.ModelRules.{has_negative_cost, has_large_entry, goes_back, cannot_save}
use Rattle.vr_model.specs.tables.WellFormed.{HasLength, IsMatrix, IsVehicle, IsDimension, IsAllowed, IsSearch, IsWellFormed, are_distinct_names}
use Rattle.vr_model.specs.declared.records.Model.{Model}
use Rattle.vr_model.specs.declared.records.Matrix.{Matrix}
use Rattle.vr_model.specs.declared.records.Vehicle.{Vehicle}
use Rattle.vr_read.specs.Searches.{default_search}
use Rattle.vr_read.specs.declared.model.ModelBase.{ModelBase}
use Rattle.vr_read.specs.declared.model.ModelParts.{ModelParts}
use Rattle.vr_read.specs.declared.model.VisitTables.{VisitTables}
use Rattle.vr_read.specs.ModelParts.{HasModelParts}
use Rattle.vr_read.specs.Rules.{for_all, rules}
use Rattle.vr_read.specs.Models.{visit_tables, parts, base, model_from_parts, model_table, read_model}
use Rattle.vr_json.proofs.Readings.{Ensures, EachEnsures, gives, after, any_value, weaker, for_every, answered, count_ensures, required_ensures}
use Rattle.vr_json.proofs.Readings.{optional_ensures, refuse_if_ensures, array_ensures}
use Rattle.vr_read.proofs.Distinct.{named_array_ensures}
use Rattle.vr_read.proofs.WellFormedVehicles.{matrix_ensures, vehicle_ensures}
use Rattle.vr_read.proofs.WellFormedDimensions.{dimension_ensures}
use Rattle.vr_read.proofs.WellFormedVisits.{AreGroups, ArePairs, groups_ensure, no_groups, pairs_ensure, no_pairs, allowed_rows_ensure}
use Rattle.vr_read.proofs.WellFormedSearches.{search_ensures, default_in_range}

-- ---- the rules on the whole model

-- a rule of each number of a range
for_range_ensures : {P : ℕ → Type 0} {rule : ℕ → Result ⊤ Fault} (a n : ℕ) → ((k : ℕ) → Ensures (λ passed. P k) (rule k))
    → Ensures (λ passed. (k : ℕ) → a ≤ k → k < a + n → P k) (for_all (range_with_len a n) rule)
unfolding for_all
for_range_ensures a zero h = gives λ k low high. absurd (omega arith)
for_range_ensures {P} a (suc n) h =
    after (h a) λ passed here.
    weaker (λ passed later k low high. elim (cases_eq a k) [ inl e ↦ subst P e here | inr apart ↦ later k (omega (arith, apart)) (omega arith) ])
    (for_range_ensures (a + 1) n h)

for_all_ensures : {P : ℕ → Type 0} {rule : ℕ → Result ⊤ Fault} (n : ℕ)
    → ((k : ℕ) → Ensures (λ passed. P k) (rule k)) → Ensures (λ passed. (k : ℕ) → k < n → P k) (for_all (below n) rule)
for_all_ensures n h = weaker (λ passed each k low. each k (omega arith) (omega arith)) (for_range_ensures 0 n h)

-- no rule on the whole model is broken
record KeepsModelRules (model : Model) : Type 0 where
  costs_not_negative : (v : ℕ) → v < length model.vehicles → has_negative_cost model v ≡ false
  entries_not_large : (d : ℕ) → d < length model.dimensions → (k : ℕ) → k < length (dimension_at model d).evaluators → has_large_entry model d k ≡ false
  transits_forward : (d : ℕ) → d < length model.dimensions → goes_back model d ≡ false
  can_save : cannot_save model ≡ false

rules_ensure : (path : List ℕ) (model : Model) → Ensures (λ passed. KeepsModelRules model) (rules path model)
unfolding rules
rules_ensure path model =
    after (for_all_ensures (length model.vehicles) (λ v. refuse_if_ensures (has_negative_cost model v) _ _)) λ costs costs_ok.
    after (for_all_ensures (length model.dimensions)
    (λ d. for_all_ensures (length (dimension_at model d).evaluators) (λ k. refuse_if_ensures (has_large_entry model d k) _ _))) λ entries entries_ok.
    after (for_all_ensures (length model.dimensions) (λ d. refuse_if_ensures (goes_back model d) _ _)) λ transits transits_ok.
    weaker (λ saved saves. record { costs_not_negative = costs_ok; entries_not_large = entries_ok; transits_forward = transits_ok; can_save = saves })
    (refuse_if_ensures (cannot_save model) _ _)

-- ---- the table

-- a model of these nodes, matrices and vehicles, and of other rows
abbrev over : ℕ → List Matrix → List Vehicle → Model → Model
over nodes matrices vehicles other = record other { nodes = nodes; matrices = matrices; vehicles = vehicles }

no_entries : {A : Type 0} (hi : ℕ) → HasLength {A = A} 0 hi []
no_entries hi = record { at_least = omega arith; at_most = omega arith }

-- the tables of visits that are read
record AreVisitTables (model : Model) (read : VisitTables) : Type 0 where
  groups : HasLength 0 1000 read.groups × AreGroups model read.groups
  pairs : HasLength 0 500 read.pairs × ArePairs model read.pairs
  allowed_rows : HasLength 0 1000 read.allowed × (All (IsAllowed model) read.allowed × IsTrue (is_distinct (map (λ row. row.node) read.allowed)))

visit_tables_ensure : (model : Model) → EachEnsures (AreVisitTables model) (visit_tables model.nodes (length model.vehicles) model.vehicles)
unfolding visit_tables
visit_tables_ensure model path d =
    after (optional_ensures (codes "groups") [] (no_entries 1000, no_groups model) (groups_ensure model 1000) path d) λ groups groups_ok.
    after (optional_ensures (codes "pairs") [] (no_entries 500, no_pairs model) (pairs_ensure model 500) path d) λ pairs pairs_ok.
    after (optional_ensures (codes "allowed") [] (no_entries 1000, (All-nil (IsAllowed model), refl)) (allowed_rows_ensure model 1000) path d)
    λ allowed_rows allowed_ok.
    gives (record { groups = groups_ok; pairs = pairs_ok; allowed_rows = allowed_ok })

-- what is read from the dimensions on
record AreOtherParts (model : Model) (read : ModelParts) : Type 0 where
  dimensions : HasLength 0 4 read.dimensions
      × (All (IsDimension model) read.dimensions × IsTrue (are_distinct_names (map (λ dimension. dimension.name) read.dimensions)))
  tables : AreVisitTables model read.tables
  search_in_range : IsSearch read.search

parts_ensure : (model : Model) → EachEnsures (AreOtherParts model) (parts model.nodes (length model.matrices) (length model.vehicles) model.vehicles)
unfolding parts
parts_ensure model path d =
    after (optional_ensures (codes "dimensions") [] (no_entries 4, (All-nil (IsDimension model), refl))
    (named_array_ensures (λ dimension. dimension.name) 0 4 (dimension_ensures model)) path d) λ dimensions dimensions_ok.
    after (visit_tables_ensure model path d) λ tables tables_ok.
    after (optional_ensures (codes "search") default_search default_in_range search_ensures path d) λ search_values search_ok.
    gives (record { dimensions = dimensions_ok; tables = tables_ok; search_in_range = search_ok })

-- what is read up to the vehicles
record IsBase (read : ModelBase) : Type 0 where
  number_of_nodes : (1 ≤ read.nodes) × (read.nodes ≤ 1000)
  matrices : HasLength 1 16 read.matrices × All (IsMatrix read.nodes) read.matrices
  number_of_vehicles : HasLength 1 100 read.vehicles
  each_vehicle : (other : Model) → All (IsVehicle (over read.nodes read.matrices read.vehicles other)) read.vehicles

base_ensures : EachEnsures IsBase base
unfolding base
base_ensures path d =
    after any_value λ version _.
    after (required_ensures (codes "nodes") (count_ensures 1 1000) path d) λ nodes nodes_ok.
    after (required_ensures (codes "matrices") (array_ensures 1 16 (λ so_far. matrix_ensures nodes)) path d) λ matrices matrices_ok.
    after (required_ensures (codes "vehicles") (array_ensures 1 100 (λ so_far path d.
    for_every (λ (other : Model). vehicle_ensures version (over nodes matrices other.vehicles other) matrices_ok.0.at_least path d)))
    path d) λ vehicles vehicles_ok.
    gives (record {
      number_of_nodes = nodes_ok;
      matrices = matrices_ok;
      number_of_vehicles = vehicles_ok.0;
      each_vehicle = λ other k default low. vehicles_ok.1 k default low (over nodes matrices vehicles other);
    })

-- so a call that answers it answers no more matrices and vehicles than there may be
pub base_lengths : (path : List ℕ) (d : Data) {read : ModelBase} → Answers (Ok read) (base path d) → (length read.matrices ≤ 16) × (length read.vehicles ≤ 100)
base_lengths path d h = let read_ok = answered (base_ensures path d) h in (read_ok.matrices.0.at_most, read_ok.number_of_vehicles.at_most)

-- what the table gives: the parts that the rules ask of, and a well-formed model where it keeps the rules
record IsTable (model : Model) : Type 0 where
  has_parts : HasModelParts model
  is_well_formed : KeepsModelRules model → IsWellFormed model

table_ensures : EachEnsures IsTable model_table
unfolding model_table
table_ensures path d =
    after (base_ensures path d) λ start start_ok.
    after (for_every λ (other : Model). parts_ensure (over start.nodes start.matrices start.vehicles other) path d) λ others others_ok.
    after any_value λ unknown _.
    let read : Model = model_from_parts start others in
    gives (record {
      has_parts = record {
        number_of_vehicles = start_ok.number_of_vehicles;
        each_matrix = start_ok.matrices.1;
        each_vehicle = start_ok.each_vehicle read;
        each_dimension = (others_ok read).dimensions.1.0;
      };
      is_well_formed = λ kept. record {
        number_of_nodes = start_ok.number_of_nodes;
        number_of_matrices = start_ok.matrices.0;
        each_matrix = start_ok.matrices.1;
        number_of_vehicles = start_ok.number_of_vehicles;
        each_vehicle = start_ok.each_vehicle read;
        number_of_dimensions = (others_ok read).dimensions.0.at_most;
        each_dimension = (others_ok read).dimensions.1.0;
        no_name_twice = (others_ok read).dimensions.1.1;
        number_of_groups = (others_ok read).tables.groups.0.at_most;
        each_group = (others_ok read).tables.groups.1.each_group;
        no_node_in_groups_twice = (others_ok read).tables.groups.1.no_node_twice;
        number_of_pairs = (others_ok read).tables.pairs.0.at_most;
        each_pair = (others_ok read).tables.pairs.1.each_pair;
        no_node_in_pairs_twice = (others_ok read).tables.pairs.1.no_node_twice;
        number_of_allowed = (others_ok read).tables.allowed_rows.0.at_most;
        each_allowed = (others_ok read).tables.allowed_rows.1.0;
        no_node_allowed_twice = (others_ok read).tables.allowed_rows.1.1;
        search_in_range = (others_ok read).search_in_range;
        costs_not_negative = kept.costs_not_negative;
        entries_not_large = λ d k low here. kept.entries_not_large d low k here;
        transits_forward = kept.transits_forward;
        can_save = kept.can_save;
      };
    })

-- so a call that answers the table answers a model with those parts
pub has_parts_answer : (path : List ℕ) (d : Data) {answer : Result Model ReadFail} → Answers answer (model_table path d) → IfOk answer HasModelParts
has_parts_answer path d answers =
    answered (let h : EachEnsures HasModelParts model_table = λ path d. weaker (λ model table. table.has_parts) (table_ensures path d) in h path d) answers

read_model_ensures : EachEnsures IsWellFormed read_model
unfolding read_model
read_model_ensures path d =
    after (table_ensures path d) λ model table.
    after (rules_ensure path model) λ passed kept.
    gives (table.is_well_formed kept)

pub well_formed_from_read : (path : List ℕ) (d : Data) (model : Model) → read_model path d ≡ Ok model → IsWellFormed model
well_formed_from_read path d model is = (read_model_ensures path d).of_value model is

-- so a call that answers the reading answers a well-formed model
pub well_formed_answer : (path : List ℕ) (d : Data) {answer : Result Model ReadFail} → Answers answer (read_model path d) → IfOk answer IsWellFormed
well_formed_answer path d answers = answered (read_model_ensures path d) answers

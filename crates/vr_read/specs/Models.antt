-- The reading of a model: its table, and then the rules on the whole model.
use Rattle.std.specs.Prelude.{ℕ, List, [], ◌∷◌, length, codes, Ok}
use Rattle.vr_json.specs.Reading.{◌>>=◌, ReaderOf, required, optional, known, array}
use Rattle.vr_json.specs.Kinds.{count}
use Rattle.vr_model.specs.declared.records.Model.{Model}
use Rattle.vr_model.specs.declared.records.Vehicle.{Vehicle}
use Rattle.vr_read.specs.declared.model.ModelBase.{ModelBase}
use Rattle.vr_read.specs.declared.model.ModelParts.{ModelParts}
use Rattle.vr_read.specs.declared.model.VisitTables.{VisitTables}
use Rattle.vr_read.specs.Formats.{format}
use Rattle.vr_read.specs.Vehicles.{matrix, vehicle}
use Rattle.vr_read.specs.Dimensions.{dimension}
use Rattle.vr_read.specs.Visits.{group, pair, allowed}
use Rattle.vr_read.specs.Searches.{search_row, default_search}
use Rattle.vr_read.specs.Rules.{rules}

-- the groups, pairs and allowed rows of visits, in a model of n nodes and a fleet of this many vehicles, which are
-- these
unfoldable pub visit_tables : ℕ → ℕ → List Vehicle → ReaderOf VisitTables
visit_tables n fleet vehicles path d = do
  groups ← optional (codes "groups") [] (array 0 1000 (group n vehicles)) path d
  pairs ← optional (codes "pairs") [] (array 0 500 (pair n vehicles)) path d
  allowed_rows ← optional (codes "allowed") [] (array 0 1000 (allowed n fleet vehicles)) path d
  Ok (record { groups = groups; pairs = pairs; allowed = allowed_rows })

-- the fields of a model from its dimensions on, in a model of n nodes, this many matrices, and these vehicles, whose
-- number is fleet
unfoldable pub parts : ℕ → ℕ → ℕ → List Vehicle → ReaderOf ModelParts
parts n matrices fleet vehicles path d = do
  dimensions ← optional (codes "dimensions") [] (array 0 4 (dimension n matrices fleet vehicles)) path d
  tables ← visit_tables n fleet vehicles path d
  search_values ← optional (codes "search") default_search search_row path d
  Ok (record { dimensions = dimensions; tables = tables; search = search_values })

-- the fields of a model up to its vehicles
unfoldable pub base : ReaderOf ModelBase
base path d = do
  version ← required (codes "format") format path d
  nodes ← required (codes "nodes") (count 1 1000) path d
  matrices ← required (codes "matrices") (array 1 16 (λ so_far. matrix nodes)) path d
  vehicles ← required (codes "vehicles") (array 1 100 (λ so_far. vehicle version nodes (length matrices))) path d
  Ok (record { nodes = nodes; matrices = matrices; vehicles = vehicles })

-- the fields of a model
abbrev pub model_fields : List (List ℕ)
model_fields =
    codes "format" ∷ codes "nodes" ∷ codes "matrices" ∷ codes "vehicles" ∷ codes "dimensions" ∷ codes "groups"
    ∷ codes "pairs" ∷ codes "allowed" ∷ codes "search" ∷ []

-- a model of these fields
abbrev pub model_from_parts : ModelBase → ModelParts → Model
model_from_parts start others = record {
  nodes = start.nodes;
  matrices = start.matrices;
  vehicles = start.vehicles;
  dimensions = others.dimensions;
  groups = others.tables.groups;
  pairs = others.tables.pairs;
  allowed = others.tables.allowed;
  search = others.search;
}

-- the table of a model
unfoldable pub model_table : ReaderOf Model
model_table path d = do
  start ← base path d
  others ← parts start.nodes (length start.matrices) (length start.vehicles) start.vehicles path d
  unknown ← known model_fields path d
  Ok (model_from_parts start others)

-- a model
unfoldable pub read_model : ReaderOf Model
read_model path d = do
  model ← model_table path d
  kept ← rules path model
  Ok model

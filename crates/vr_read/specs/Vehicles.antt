-- The tables of matrices and vehicles, and the numbers of visits that other tables name.
use Rattle.std.specs.Prelude.{ℕ, ◌||◌, ◌==◌, List, [], ◌∷◌, Bool, pos, codes, flat_map, Ok}
use Rattle.std.specs.List.{list_any}
use Rattle.vr_json.specs.declared.fault.Cause.TheVariants.{NotAVisit}
use Rattle.vr_json.specs.Reading.{◌>>=◌, ReaderOf, required, optional, known, array, refuse_if}
use Rattle.vr_json.specs.Kinds.{whole, below, choice}
use Rattle.vr_model.specs.tables.Limits.{greatest_cost, least_value}
use Rattle.vr_model.specs.declared.records.Matrix.{Matrix}
use Rattle.vr_model.specs.declared.records.Vehicle.{Vehicle}
use Rattle.vr_model.specs.declared.records.Policy.{Policy}
use Rattle.vr_model.specs.declared.records.Policy.TheVariants.{Any, Lifo, Fifo}
use Rattle.vr_model.specs.declared.records.ScheduleRule.{ScheduleRule}
use Rattle.vr_model.specs.declared.records.ScheduleRule.TheVariants.{Earliest, Tight}
use Rattle.vr_read.specs.declared.formats.Format.{Format}
use Rattle.vr_read.specs.declared.formats.Format.TheVariants.{One, Two}

-- a matrix: an array of n arrays of n whole numbers
unfoldable pub matrix : ℕ → ReaderOf Matrix
matrix n path d = do
  rows ← array n n (λ earlier. array n n (λ so_far. whole least_value greatest_cost)) path d
  Ok (record { entries = flat_map (λ row. row) rows })

-- what the words of `policy` mean
abbrev pub policies : List (List ℕ × Policy)
policies = (codes "any", Any) ∷ (codes "lifo", Lifo) ∷ (codes "fifo", Fifo) ∷ []

-- what the words of `schedule` mean
abbrev pub schedule_rules : List (List ℕ × ScheduleRule)
schedule_rules = (codes "earliest", Earliest) ∷ (codes "tight", Tight) ∷ []

-- the nodes at which a vehicle starts and ends, in a model of n nodes
unfoldable pub ends : ℕ → ReaderOf (ℕ × ℕ)
ends n path d = do
  start ← required (codes "start") (below n) path d
  final ← required (codes "end") (below n) path d
  Ok (start, final)

-- by which rule a vehicle chooses its schedules: format 1 has no such field, and the rule is the earliest
unfoldable pub schedule : Format → ReaderOf ScheduleRule
schedule One path d = Ok Earliest
schedule Two path d = optional (codes "schedule") Earliest (choice schedule_rules) path d

-- the fields of a vehicle
abbrev pub fields : Format → List (List ℕ)
fields One = codes "start" ∷ codes "end" ∷ codes "costs" ∷ codes "fixed" ∷ codes "policy" ∷ []
fields Two = codes "start" ∷ codes "end" ∷ codes "costs" ∷ codes "fixed" ∷ codes "policy" ∷ codes "schedule" ∷ []

-- a vehicle, in a model of a format and of n nodes and this many matrices
unfoldable pub vehicle : Format → ℕ → ℕ → ReaderOf Vehicle
vehicle format n matrices path d = do
  terminals ← ends n path d
  costs ← optional (codes "costs") 0 (below matrices) path d
  fixed ← optional (codes "fixed") (pos 0) (whole (pos 0) greatest_cost) path d
  policy ← optional (codes "policy") Any (choice policies) path d
  rule ← schedule format path d
  others ← known (fields format) path d
  Ok (record {
    start = terminals.0;
    «end» = terminals.1;
    costs = costs;
    fixed = fixed;
    policy = policy;
    schedule = rule;
  })

-- a node is the start or the end of some vehicle
abbrev pub is_terminal : List Vehicle → ℕ → Bool
is_terminal vehicles node = list_any (λ v. (v.start == node) || (v.end == node)) vehicles

-- a visit: one of n nodes that no vehicle starts or ends at
unfoldable pub visit : ℕ → List Vehicle → ReaderOf ℕ
visit n vehicles path d = do
  node ← below n path d
  served ← refuse_if (is_terminal vehicles node) NotAVisit path
  Ok node

-- The one run of cumuls that a stop allows, if it allows no more than one.
use Rattle.std.specs.Prelude.{◌≡◌, ℕ, ◌<◌, Bool, false, ◌&&◌, nat_le, IfSome, IsTrue, List, [], Option, None, is_some}
use Rattle.std.specs.Prelude.{length, slice_index_or, ℤ, pos}
use Rattle.std.specs.List.{list_all}
use Rattle.vr_spans.specs.declared.runs.Run.{Run}
use Rattle.vr_spans.specs.Runs.{has, in_run}
use Rattle.vr_model.specs.tables.Numbers.{horizon}
use Rattle.vr_model.specs.tables.Tables.{breaks_of, dimension_at, is_visit, row_of, vehicle_at, visits}
use Rattle.vr_model.specs.tables.WellFormed.{IsIn}
use Rattle.vr_model.specs.routes.Routes.{is_empty}
use Rattle.vr_model.specs.schedules.Lines.{Line, stop_allows}
use Rattle.vr_model.specs.schedules.Weights.{runs}
use Rattle.vr_model.specs.declared.records.Model.{Model}
use Rattle.vr_steps.specs.declared.stops.StopName.TheVariants.{End, Start, Visit}
use Rattle.vr_steps.specs.Levels.{IsCumuls}
use Rattle.vr_steps.specs.Stops.{allowed_by}
use Rattle.vr_reach.specs.declared.single.Ahead.{Ahead}
use Rattle.vr_reach.specs.VisitSets.{capacity_of}

-- both ends of the run lie in 0..=horizon
pub record HasCumulEnds (run : Run) : Type 0 where
  pub lo : IsIn (pos 0) horizon run.lo
  pub hi : IsIn (pos 0) horizon run.hi

-- the run has the numbers of the set, and its ends are cumuls if those are
pub record IsRunOf (set : List Run) (run : Run) : Type 0 where
  pub exact : (x : ℤ) → has set x ≡ in_run run x
  pub ends : IsCumuls set → HasCumulEnds run

-- a run for each set
pub record AreRunsOfSets (sets : List (List Run)) (runs : List Run) : Type 0 where
  pub one_of_each : length runs ≡ length sets
  pub each : (k : ℕ) (other : Run) → k < length sets
      → IsRunOf (slice_index_or sets k []) (slice_index_or runs k other)

-- the set is of no more than one run
abbrev pub is_single : List Run → Bool
is_single set = nat_le (length set) 1

-- a run for each set, known exactly if no set is of more than one
pub record AreKnownRuns (sets : List (List Run)) (found : Option (List Run)) : Type 0 where
  pub runs : IfSome found (AreRunsOfSets sets)
  pub known : is_some found ≡ list_all is_single sets

-- for each table of sets a run for each set, known exactly if no set is of more than one
pub record AreRunTables (tables : List (List (List Run))) (found : List (Option (List Run))) : Type 0 where
  pub one_of_each : length found ≡ length tables
  pub each : (k : ℕ) → k < length tables
      → AreKnownRuns (slice_index_or tables k []) (slice_index_or found k None)

-- the run has the cumuls that pass the test
pub record IsRunFor (test : ℤ → Bool) (run : Run) : Type 0 where
  pub exact : (x : ℤ) → in_run run x ≡ test x
  pub ends : HasCumulEnds run

-- the run of a node has the cumuls that it allows vehicle v, if it is a visit
abbrev pub IsRunOfNode : Model → ℕ → ℕ → ℕ → Run → Type 0
IsRunOfNode model d v node run = IsTrue (is_visit model node)
    → IsRunFor (stop_allows (capacity_of model d v) (row_of (dimension_at model d).nodes node)) run

-- the runs of the nodes have, for each visit, the cumuls that it allows vehicle v
pub record AreVisitRuns (model : Model) (d v : ℕ) (runs : List Run) : Type 0 where
  pub long : length runs ≡ model.nodes
  pub each : (node : ℕ) (other : Run) → node < length runs
      → IsRunOfNode model d v node (slice_index_or runs node other)

-- the run has the cumuls that stop k of a line allows
abbrev pub IsAllowedRun : Line → ℕ → Run → Type 0
IsAllowedRun line k run = IsRunFor (slice_index_or line.allowed k (λ _. false)) run

-- the node at the end of vehicle v, and the cumuls that its end allows
pub record IsFinish (model : Model) (d v : ℕ) (finish : Ahead) : Type 0 where
  pub node : finish.node ≡ (vehicle_at model v).end
  pub allowed : IsRunFor (allowed_by model d v End) finish.allowed

-- no more than one run of cumuls passes the test
abbrev pub is_one_run : (ℤ → Bool) → Bool
is_one_run test = nat_le (runs test) 1

-- no visit allows vehicle v more than one run of cumuls
abbrev pub have_visits_one_run : Model → ℕ → ℕ → Bool
have_visits_one_run model d v = list_all (λ node. is_one_run (allowed_by model d v (Visit node))) (visits model)

-- vehicle v has no breaks in dimension d, and no stop allows it more than one run of cumuls
abbrev pub have_stops_one_run : Model → ℕ → ℕ → Bool
have_stops_one_run model d v = is_empty (breaks_of (dimension_at model d) v)
    && is_one_run (allowed_by model d v Start) && is_one_run (allowed_by model d v End) && have_visits_one_run model d v

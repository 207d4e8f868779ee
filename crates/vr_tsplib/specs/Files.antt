-- The reading of a file, line by line.
use Rattle.std.specs.Prelude.{ℕ, ◌+◌, ◌-◌, ◌==◌, List, [], ◌∷◌, ◌++◌, Bool, true, false, not, length, Option, Some}
use Rattle.std.specs.Prelude.{None, Result, Ok, Err, if◌then◌else◌}
use Rattle.std.specs.Option.{ok_or}
use Rattle.vr_json.specs.declared.fault.Fault.{Fault}
use Rattle.vr_json.specs.Reading.{◌>>=◌}
use Rattle.vr_tsplib.specs.declared.flaws.Flaw.{Flaw}
use Rattle.vr_tsplib.specs.declared.flaws.Flaw.TheVariants.{Missing, DepotDemand}
use Rattle.vr_tsplib.specs.declared.heads.Head.{Head}
use Rattle.vr_tsplib.specs.declared.heads.LinePlace.{LinePlace}
use Rattle.vr_tsplib.specs.declared.heads.LinePlace.TheVariants as place
use Rattle.vr_tsplib.specs.declared.heads.WeightType.{WeightType}
use Rattle.vr_tsplib.specs.declared.heads.WeightType.TheVariants.{Euclidean, Explicit}
use Rattle.vr_tsplib.specs.declared.heads.WeightFormat.{WeightFormat}
use Rattle.vr_tsplib.specs.declared.heads.WeightFormat.TheVariants.{FullMatrix, LowerRow, Function}
use Rattle.vr_tsplib.specs.declared.files.State.{State}
use Rattle.vr_tsplib.specs.declared.summaries.Problem.{Problem}
use Rattle.vr_tsplib.specs.declared.summaries.Distances.{Distances}
use Rattle.vr_tsplib.specs.declared.summaries.Distances.TheVariants as distances
use Rattle.vr_tsplib.specs.Flaws.{refuse_if, at_line}
use Rattle.vr_tsplib.specs.Texts.{words, is_empty}
use Rattle.vr_tsplib.specs.Heads.{no_head, nodes_of, outside_line, weights_left}
use Rattle.vr_tsplib.specs.Rows.{site_row, sites_left, demand_row, demands_left, row_behind, depot_row, depot_end}
use Rattle.vr_tsplib.specs.Rows.{demand_of}

-- before the first line
abbrev pub start : State
start = record { head = no_head; sites = []; demands = []; weights = [] }

abbrev pub with_head : State → Head → State
with_head state head = record state { head = head }

abbrev pub with_place : State → LinePlace → State
with_place state next = with_head state (record (state.head) { place = next })

-- ---- lines

unfoldable pub sites_line : ℕ → State → List ℕ → Result State Flaw
sites_line left state line = do
  row ← site_row (nodes_of state.head) state.sites (words line)
  Ok (record (with_place state (sites_left left)) { sites = state.sites ++ row ∷ [] })

unfoldable pub demands_line : ℕ → State → List ℕ → Result State Flaw
demands_line left state line = do
  row ← demand_row (nodes_of state.head) state.demands (words line)
  Ok (record (with_place state (demands_left left)) { demands = state.demands ++ row ∷ [] })

unfoldable pub weights_line : ℕ → State → List ℕ → Result State Flaw
weights_line left state line = do
  all ← row_behind left state.weights (words line)
  Ok (record (with_place state (weights_left (left - (length all - length state.weights)))) { weights = all })

unfoldable pub head_line : (Head → List ℕ → Result Head Flaw) → State → List ℕ → Result State Flaw
head_line read state line = do
  head ← read state.head line
  Ok (with_head state head)

-- a line with words, by the section it is in; after EOF it has no meaning
abbrev pub line_at : LinePlace → State → List ℕ → Result State Flaw
line_at place.Outside state line = head_line outside_line state line
line_at (place.Sites left) state line = sites_line left state line
line_at (place.Weights left) state line = weights_line left state line
line_at (place.Demands left) state line = demands_line left state line
line_at place.Depot state line = head_line (λ head line. depot_row head (words line)) state line
line_at place.DepotEnd state line = head_line (λ head line. depot_end head (words line)) state line
line_at place.Ended state line = Ok state

-- a line; without words it has no meaning
unfoldable pub read_line : State → List ℕ → Result State Flaw
read_line state line = if is_empty (words line) then Ok state else line_at state.head.place state line

-- lines, of which the first has this number: the first faulty one gives the answer
unfoldable pub read_lines : State → ℕ → List (List ℕ) → Result State Fault
read_lines state number [] = Ok state
read_lines state number (line ∷ rest) = do
  next ← at_line number (read_line state line)
  read_lines next (number + 1) rest

-- ---- whole files

-- whether the file ended within a section
abbrev pub is_inside : LinePlace → Bool
is_inside place.Outside = false
is_inside place.Ended = false
is_inside _ = true

abbrev pub of_format : WeightFormat → Option Distances
of_format FullMatrix = Some distances.Full
of_format LowerRow = Some distances.Lower
of_format Function = None

abbrev pub of_formats : Option WeightFormat → Option Distances
of_formats None = None
of_formats (Some format) = of_format format

-- how the distances are given, if the section that gives them came
abbrev pub distances_of : WeightType → Head → Option Distances
distances_of Euclidean head = if head.has_sites then Some distances.Plane else None
distances_of Explicit head = if head.has_weights then of_formats head.weight_format else None

-- what a whole file says; something may be missing in it, and the depot has no demand
unfoldable pub complete : State → Result Problem Flaw
complete state = do
  outside ← refuse_if (is_inside state.head.place) Missing
  cvrp ← refuse_if (not state.head.is_cvrp) Missing
  nodes ← ok_or state.head.nodes Missing
  capacity ← ok_or state.head.capacity Missing
  weights ← ok_or state.head.weight_type Missing
  demands ← refuse_if (not state.head.has_demands) Missing
  depot ← ok_or state.head.depot Missing
  distances ← ok_or (distances_of weights state.head) Missing
  idle ← refuse_if (not (demand_of state.demands depot == 0)) DepotDemand
  Ok (record { nodes = nodes; capacity = capacity; depot = depot; distances = distances })

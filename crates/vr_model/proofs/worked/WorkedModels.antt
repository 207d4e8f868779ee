-- Models of the worked examples.
use Rattle.std.proofs.Common.{ℕ, true, false, List, [], ◌∷◌, replicate, Some, None}
use Rattle.std.specs.Prelude.{ℤ, pos}
use Rattle.vr_model.specs.moves.Moves.{all_neighbourhoods}
use Rattle.vr_model.specs.declared.records.Model.{Model}
use Rattle.vr_model.specs.declared.records.Vehicle.{Vehicle}
use Rattle.vr_model.specs.declared.records.Dimension.{Dimension}
use Rattle.vr_model.specs.declared.records.StopRow.{StopRow}
use Rattle.vr_model.specs.declared.records.VehicleBreaks.{VehicleBreaks}
use Rattle.vr_model.specs.declared.records.SearchRow.{SearchRow}
use Rattle.vr_model.specs.declared.records.Policy.{Policy}
use Rattle.vr_model.specs.declared.records.Policy.TheVariants.{Any}
use Rattle.vr_model.specs.declared.records.First.{First}
use Rattle.vr_model.specs.declared.records.First.TheVariants.{PathCheapestArc}
use Rattle.vr_model.specs.declared.records.ScheduleRule.TheVariants.{Earliest}
use Rattle.vr_model.specs.declared.records.Improve.TheVariants.{GreedyDescent}
use Rattle.vr_model.specs.declared.search.Limit.{Limit}
use Rattle.vr_model.specs.declared.search.Lambda.{Lambda}

-- what a model asks of the search that names nothing
abbrev pub default_search : SearchRow
default_search = record {
  first = PathCheapestArc;
  improve = GreedyDescent;
  tries = 100000;
  solutions = 1000000000;
  p = pos 1;
  q = pos 10;
  neighbourhoods = all_neighbourhoods;
  cut = 10;
  tenure = 10;
}

abbrev pub default_limit : Limit
default_limit = record { tries = 100000; solutions = 1000000000 }

abbrev pub default_lambda : Lambda
default_lambda = record { p = pos 1; q = pos 10 }

-- a vehicle from node 0 to node 0
abbrev pub car : Vehicle
car = record { start = 0; «end» = 0; costs = 0; fixed = pos 0; policy = Any; schedule = Earliest }

-- a model of one matrix, some vehicles and dimensions
abbrev pub model_of : ℕ → List ℤ → List Vehicle → List Dimension → Model
model_of n entries vehicles dimensions = record {
  nodes = n;
  matrices = record { entries = entries } ∷ [];
  vehicles = vehicles;
  dimensions = dimensions;
  groups = [];
  pairs = [];
  allowed = [];
  search = default_search;
}

-- a dimension by that matrix for one vehicle and n nodes, with no rows
abbrev pub time : ℕ → Dimension
time n = record {
  name = 116 ∷ 105 ∷ 109 ∷ 101 ∷ [];
  evaluators = record { matrix = Some 0; values = [] } ∷ [];
  vehicle_evaluators = 0 ∷ [];
  slack_max = pos 0;
  capacities = pos 100 ∷ [];
  fix_start = false;
  visit = replicate n (pos 0);
  nodes = [];
  starts = [];
  ends = [];
  breaks = [];
  span_costs = pos 0 ∷ [];
  global_span_cost = pos 0;
}

-- three nodes and one vehicle
abbrev pub three_entries : List ℤ
three_entries = pos 0 ∷ pos 5 ∷ pos 9 ∷ pos 5 ∷ pos 0 ∷ pos 4 ∷ pos 9 ∷ pos 4 ∷ pos 0 ∷ []

abbrev pub three : Model
three = model_of 3 three_entries (car ∷ []) []

-- the same model with another construction
abbrev pub by : First → Model → Model
by first model = record model { search = record model.search { first = first } }

-- three nodes, where one is optional at a penalty
abbrev pub optional : ℕ → ℤ → Model
optional node penalty = record three { groups = record { nodes = node ∷ []; penalty = Some penalty; max = 1 } ∷ [] }

-- three nodes, where node 2 is picked up and node 1 delivered
abbrev pub back_pair : Model
back_pair = record three { pairs = record { pickup = 2; delivery = 1 } ∷ [] }

-- three nodes, where node 1 is picked up and node 2 delivered, and both are optional at a penalty of 1
abbrev pub optional_pair : Model
optional_pair = record three {
  pairs = record { pickup = 1; delivery = 2 } ∷ [];
  groups = record { nodes = 1 ∷ []; penalty = Some (pos 1); max = 1 } ∷ record { nodes = 2 ∷ []; penalty = Some (pos 1); max = 1 } ∷ [];
}

-- two nodes near the depot and far from each other
abbrev pub far_entries : List ℤ
far_entries = pos 0 ∷ pos 1 ∷ pos 1 ∷ pos 1 ∷ pos 0 ∷ pos 9 ∷ pos 1 ∷ pos 9 ∷ pos 0 ∷ []

-- three nodes at equal distances and two vehicles, with a cost for the time from the first start to the last end
abbrev pub two_cars : Model
two_cars = model_of 3 (pos 0 ∷ pos 5 ∷ pos 5 ∷ pos 5 ∷ pos 0 ∷ pos 5 ∷ pos 5 ∷ pos 5 ∷ pos 0 ∷ []) (car ∷ car ∷ [])
    (record (time 3)
    { fix_start = true; global_span_cost = pos 10; vehicle_evaluators = 0 ∷ 0 ∷ []; capacities = pos 100 ∷ pos 100 ∷ []; span_costs = pos 0 ∷ pos 0 ∷ [] }
    ∷ [])

-- five nodes at distance 1, with the pairs 1 to 2 and 3 to 4
abbrev pub policed : Policy → Model
policed policy = record (model_of 5
    (pos 0 ∷ pos 1 ∷ pos 1 ∷ pos 1 ∷ pos 1 ∷ pos 1 ∷ pos 0 ∷ pos 1 ∷ pos 1 ∷ pos 1 ∷ pos 1 ∷ pos 1 ∷ pos 0 ∷ pos 1 ∷ pos 1 ∷ pos 1
    ∷ pos 1 ∷ pos 1 ∷ pos 0 ∷ pos 1 ∷ pos 1 ∷ pos 1 ∷ pos 1 ∷ pos 1 ∷ pos 0 ∷ []) (record car { policy = policy } ∷ []) []) {
      pairs = record { pickup = 1; delivery = 2 } ∷ record { pickup = 3; delivery = 4 } ∷ [];
    }

-- node 1 forbids 5..=8, and a vehicle may wait 3 on an arc
abbrev pub gap_row : StopRow
gap_row = record { key = 1; window = None; forbidden = record { lo = pos 5; hi = pos 8 } ∷ []; soft = None }

abbrev pub waits : Model
waits = model_of 2 (pos 0 ∷ pos 5 ∷ pos 5 ∷ pos 0 ∷ []) (car ∷ []) (record (time 2) { slack_max = pos 3; nodes = gap_row ∷ [] } ∷ [])

-- a break of 5 that begins from 4 to 6
abbrev pub rest_row : VehicleBreaks
rest_row = record { vehicle = 0; rows = record { from = pos 4; to = pos 6; duration = pos 5 } ∷ [] }

abbrev pub rests_entries : List ℤ
rests_entries = pos 0 ∷ pos 10 ∷ pos 10 ∷ pos 0 ∷ []

abbrev pub rests_time : Dimension
rests_time = record (time 2) { slack_max = pos 20; fix_start = true; visit = pos 2 ∷ pos 2 ∷ []; breaks = rest_row ∷ [] }

abbrev pub rests : Model
rests = model_of 2 rests_entries (car ∷ []) (rests_time ∷ [])

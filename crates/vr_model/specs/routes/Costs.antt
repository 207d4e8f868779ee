-- The six parts of the cost of an assignment, and the cost of lists at their chosen schedules.
use Rattle.std.specs.Prelude.{ℕ, suc, List, [], ◌∷◌, map, length, slice_index_or, ℤ, pos, ◌-ℤ◌, ◌*ℤ◌, Option, Some}
use Rattle.std.specs.Prelude.{None, unwrap_or, fold}
use Rattle.std.specs.List.{zip}
use Rattle.std.specs.Int.{int_max, int_min}
use Rattle.vr_model.specs.tables.Numbers.{number_at, total, total_by, below}
use Rattle.vr_model.specs.tables.Tables.{vehicle_at, dimension_at}
use Rattle.vr_model.specs.routes.Routes.{route, route_cost, vehicles, used_vehicles}
use Rattle.vr_model.specs.schedules.Lines.{stop_rows}
use Rattle.vr_model.specs.schedules.Narrowed.{chosen_line}
use Rattle.vr_model.specs.schedules.Schedules.{Plan, cumul}
use Rattle.vr_model.specs.schedules.Choices.{chosen}
use Rattle.vr_model.specs.routes.Rules.{active_in}
use Rattle.vr_model.specs.declared.records.Model.{Model}
use Rattle.vr_model.specs.declared.records.StopRow.{StopRow}
use Rattle.vr_model.specs.declared.records.Soft.{Soft}
use Rattle.vr_model.specs.declared.records.Parts.{Parts}

-- an assignment: the lists, and for each vehicle a plan in each dimension, none if its list is empty
pub record Assignment : Type 0 where
  pub lists : List (List ℕ)
  pub plans : List (List Plan)

abbrev pub no_plan : Plan
no_plan = record { cumuls = []; slacks = []; breaks = [] }

-- the plan of vehicle v in dimension d
abbrev pub plan_at : Assignment → ℕ → ℕ → Plan
plan_at assignment d v = slice_index_or (slice_index_or assignment.plans v []) d no_plan

-- the cumul of the start of vehicle v in dimension d
abbrev pub start_at : Assignment → ℕ → ℕ → ℤ
start_at assignment d v = cumul (plan_at assignment d v) 0

-- the cumul of the end of vehicle v in dimension d
abbrev pub end_at : Assignment → ℕ → ℕ → ℤ
end_at assignment d v = cumul (plan_at assignment d v) (suc (length (route assignment.lists v)))

-- the greatest of a list of numbers, 0 of none
abbrev pub greatest : List ℤ → ℤ
greatest [] = pos 0
greatest (x ∷ xs) = fold int_max x xs

-- the least of a list of numbers, 0 of none
abbrev pub least : List ℤ → ℤ
least [] = pos 0
least (x ∷ xs) = fold int_min x xs

-- the arc costs of all arcs of used vehicles
abbrev pub arcs_part : Model → List (List ℕ) → ℤ
arcs_part model lists = total_by (λ v. route_cost model v (route lists v)) (vehicles lists)

-- the fixed costs of used vehicles
abbrev pub fixed_part : Model → List (List ℕ) → ℤ
fixed_part model lists = total_by (λ v. (vehicle_at model v).fixed) (used_vehicles lists)

-- from the least start to the greatest end of the used vehicles in dimension d, 0 if none is used
abbrev pub global_span : Assignment → ℕ → ℤ
global_span assignment d =
    let used = used_vehicles assignment.lists in
    greatest (map (end_at assignment d) used) -ℤ least (map (start_at assignment d) used)

-- for each dimension, its coefficient times the global span
abbrev pub global_part : Model → Assignment → ℤ
global_part model assignment =
    total_by (λ d. (dimension_at model d).global_span_cost *ℤ global_span assignment d)
    (below (length model.dimensions))

-- What a group costs with this many active nodes; nothing without a penalty. With penalty 50, if 3 may be active and 1
-- is, it costs 100.
abbrev pub penalty_for : Option ℤ → ℕ → ℕ → ℤ
penalty_for None max active = pos 0
penalty_for (Some penalty) max active = penalty *ℤ (pos max -ℤ pos active)

-- for each group with a penalty, the penalty times how many nodes fewer are active than may be
abbrev pub penalty_part : Model → List (List ℕ) → ℤ
penalty_part model lists = total_by (λ group. penalty_for group.penalty group.max (active_in lists group)) model.groups

-- What a cumul costs above a soft upper bound. With bound 10 and coefficient 3, a cumul of 12 costs 6.
abbrev pub soft_cost : Option Soft → ℤ → ℤ
soft_cost None x = pos 0
soft_cost (Some soft) x = soft.coefficient *ℤ int_max (pos 0) (x -ℤ soft.bound)

-- what a cumul costs by the row of its stop
abbrev pub row_cost : Option StopRow → ℤ → ℤ
row_cost None x = pos 0
row_cost (Some row) x = soft_cost row.soft x

-- a sum over the used vehicles and the dimensions
abbrev pub over_plans : Model → Assignment → (ℕ → ℕ → ℤ) → ℤ
over_plans model assignment f =
    total_by (λ v. total_by (λ d. f d v) (below (length model.dimensions))) (used_vehicles assignment.lists)

-- what the cumuls of vehicle v cost in dimension d by the rows of its stops
abbrev pub soft_costs : Model → Assignment → ℕ → ℕ → ℤ
soft_costs model assignment d v = total_by (λ stop. row_cost stop.0 stop.1)
    (zip (stop_rows (dimension_at model d) v (route assignment.lists v)) (plan_at assignment d v).cumuls)

-- for each used vehicle and dimension, and each stop with a soft upper bound there, its coefficient times what the
-- cumul is above the bound
abbrev pub soft_part : Model → Assignment → ℤ
soft_part model assignment = over_plans model assignment (soft_costs model assignment)

-- for each used vehicle and dimension, the coefficient times the cumul of the end less that of the start
abbrev pub span_part : Model → Assignment → ℤ
span_part model assignment = over_plans model assignment λ d v.
    number_at (dimension_at model d).span_costs v *ℤ (end_at assignment d v -ℤ start_at assignment d v)

-- the six parts of the cost at the cumuls of an assignment
abbrev pub parts_at : Model → Assignment → Parts
parts_at model assignment = record {
  arcs = arcs_part model assignment.lists;
  fixed = fixed_part model assignment.lists;
  global = global_part model assignment;
  penalty = penalty_part model assignment.lists;
  soft = soft_part model assignment;
  span = span_part model assignment;
}

-- the sum of the six parts
abbrev pub sum_of : Parts → ℤ
sum_of parts = total (parts.arcs ∷ parts.fixed ∷ parts.global ∷ parts.penalty ∷ parts.soft ∷ parts.span ∷ [])

-- The plans that are chosen for the list of vehicle v, one in each dimension, or none if the list is empty. If no
-- schedule is chosen, the plan has no entries.
abbrev pub chosen_plans : Model → ℕ → List ℕ → List Plan
chosen_plans model v [] = []
chosen_plans model v (x ∷ xs) =
    map (λ d. unwrap_or (chosen (chosen_line model d v (x ∷ xs))) no_plan) (below (length model.dimensions))

-- the assignment of lists at their chosen schedules
abbrev pub assigned : Model → List (List ℕ) → Assignment
assigned model lists =
    record { lists = lists; plans = map (λ v. chosen_plans model v (route lists v)) (vehicles lists) }

-- the cost of lists: the sum of the parts at their chosen schedules
unfoldable pub cost : Model → List (List ℕ) → ℤ
cost model lists = sum_of (parts_at model (assigned model lists))

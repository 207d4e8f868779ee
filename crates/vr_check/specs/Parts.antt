-- The rules on numbers: parts, cost, cost of the first solution, and limits.
use Rattle.std.specs.Prelude.{ℕ, Bool, not, ◌&&◌, ℤ, pos, int_le, Option}
use Rattle.vr_model.specs.tables.Numbers.{within, is_same_number}
use Rattle.vr_model.specs.routes.Costs.{parts_at, sum_of}
use Rattle.vr_model.specs.declared.records.Model.{Model}
use Rattle.vr_model.specs.declared.records.Parts.{Parts}
use Rattle.vr_check.specs.Findings.{spot_of_none, nowhere, where_wrong, earlier}
use Rattle.vr_printed.specs.Printed.{assignment_of}
use Rattle.vr_check.specs.declared.finding.Spot.{Spot}
use Rattle.vr_printed.specs.declared.printed.Printed.{Printed}

-- part k is not the value
abbrev pub part_broken : ℕ → ℤ → ℤ → Option Spot
part_broken k printed value = where_wrong (not (is_same_number printed value)) (spot_of_none k)

-- the first printed part that is not its value, in byte order of the names
abbrev pub parts_differ : Parts → Parts → Option Spot
parts_differ printed values = earlier (part_broken 0 printed.arcs values.arcs)
    (earlier (part_broken 1 printed.fixed values.fixed)
    (earlier (part_broken 2 printed.global values.global)
    (earlier (part_broken 3 printed.penalty values.penalty)
    (earlier (part_broken 4 printed.soft values.soft)
    (part_broken 5 printed.span values.span)))))

-- the rule that each part is its value at the printed cumuls
abbrev pub parts_broken : Model → Printed → Option Spot
parts_broken model printed = parts_differ printed.parts (parts_at model (assignment_of printed.routes))

-- the rule that the cost is the sum of the parts
abbrev pub cost_broken : Printed → Option Spot
cost_broken printed = where_wrong (not (is_same_number printed.cost (sum_of printed.parts))) nowhere

-- the rule that the cost is at most that of the first solution
abbrev pub first_cost_broken : Printed → Option Spot
first_cost_broken printed = where_wrong (not (int_le printed.cost printed.first_cost)) nowhere

-- tries and solutions are within the limits of the model
abbrev pub is_within_limits : Model → Printed → Bool
is_within_limits model printed =
    within (pos 0) (pos model.search.tries) printed.tries
    && within (pos 1) (pos model.search.solutions) printed.solutions

-- the rule on limits
abbrev pub limits_broken : Model → Printed → Option Spot
limits_broken model printed = where_wrong (not (is_within_limits model printed)) nowhere

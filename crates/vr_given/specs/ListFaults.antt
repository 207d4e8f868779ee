-- The fault of lists: the first rule that they break, and at which vehicle and place.
use Rattle.std.specs.Prelude.{ℕ, List, not, codes, length, Option, Some, None}
use Rattle.vr_model.specs.tables.Numbers.{below}
use Rattle.vr_model.specs.routes.Routes.{route, vehicles}
use Rattle.vr_model.specs.declared.records.Model.{Model}
use Rattle.vr_reach.specs.Lists.{is_feasible_list}
use Rattle.vr_check.specs.Findings.{first_finding, spot, where_wrong}
use Rattle.vr_check.specs.Visits.{group_broken, required_broken}
use Rattle.vr_check.specs.Pairs.{allowed_broken, pair_broken, policy_broken}
use Rattle.vr_check.specs.declared.finding.Spot.{Spot}
use Rattle.vr_given.specs.declared.faults.ListFault.{ListFault}
use Rattle.vr_given.specs.declared.faults.ListRule.{ListRule}
use Rattle.vr_given.specs.declared.faults.ListRule.TheVariants.{Required, Group, Pair, Policy, Allowed, Schedule}

-- the word of a rule
abbrev pub list_rule_word : ListRule → List ℕ
list_rule_word Required = codes "required"
list_rule_word Group = codes "group"
list_rule_word Pair = codes "pair"
list_rule_word Policy = codes "policy"
list_rule_word Allowed = codes "allowed"
list_rule_word Schedule = codes "schedule"

-- a rule is broken at a spot
abbrev pub list_fault_at : ListRule → Spot → ListFault
list_fault_at rule at = record { rule = rule; spot = at }

-- the fault of a rule, if it is broken somewhere, or that of the rules after it
abbrev pub unless_at : ListRule → Option Spot → Option ListFault → Option ListFault
unless_at rule None rest = rest
unless_at rule (Some at) rest = Some (list_fault_at rule at)

-- a used vehicle v has a schedule with its list in dimension d; if not, the place is the number of the dimension
abbrev pub schedule_broken_at : Model → ℕ → List ℕ → ℕ → Option Spot
schedule_broken_at model v list d = where_wrong (not (is_feasible_list model d v list)) (spot v d)

abbrev pub schedule_broken_of : Model → ℕ → List ℕ → Option Spot
schedule_broken_of model v list = first_finding (schedule_broken_at model v list) (below (length model.dimensions))

abbrev pub schedule_broken_in : Model → List (List ℕ) → ℕ → Option Spot
schedule_broken_in model lists v = schedule_broken_of model v (route lists v)

-- the rule on schedules
abbrev pub schedule_broken : Model → List (List ℕ) → Option Spot
schedule_broken model lists = first_finding (schedule_broken_in model lists) (vehicles lists)

-- the fault of the rules on vehicles
abbrev pub vehicle_fault : Model → List (List ℕ) → Option ListFault
vehicle_fault model lists = unless_at Policy (policy_broken model lists)
    (unless_at Allowed (allowed_broken model lists)
    (unless_at Schedule (schedule_broken model lists) None))

-- the fault of lists of a model: that of the first rule that they break
unfoldable pub fault_of_lists : Model → List (List ℕ) → Option ListFault
fault_of_lists model lists = unless_at Required (required_broken model lists)
    (unless_at Group (group_broken model lists)
    (unless_at Pair (pair_broken model lists) (vehicle_fault model lists)))

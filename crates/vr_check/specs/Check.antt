-- The finding of a printed solution: the first rule that is broken, or the cost.
use Rattle.std.specs.Prelude.{List, ℕ, Option, Some, None, codes}
use Rattle.serde_json.specs.Data.{Data}
use Rattle.vr_model.specs.declared.records.Model.{Model}
use Rattle.vr_printed.specs.Printed.{lists_of}
use Rattle.vr_printed.specs.Shape.{printed_in}
use Rattle.vr_check.specs.Findings.{unless_broken, broken_at, nowhere}
use Rattle.vr_check.specs.Lists.{ends_broken, once_broken}
use Rattle.vr_check.specs.Visits.{dropped_broken, required_broken, group_broken}
use Rattle.vr_check.specs.Pairs.{pair_broken, policy_broken, allowed_broken}
use Rattle.vr_check.specs.Plans.{routes_broken}
use Rattle.vr_check.specs.Parts.{parts_broken, cost_broken, first_cost_broken, limits_broken}
use Rattle.vr_check.specs.declared.finding.Finding.{Finding}
use Rattle.vr_check.specs.declared.finding.Finding.TheVariants.{Meets}
use Rattle.vr_check.specs.declared.finding.Rule.{Rule}
use Rattle.vr_check.specs.declared.finding.Rule.TheVariants as rule
use Rattle.vr_check.specs.declared.plans.PlanRule.TheVariants as plan
use Rattle.vr_printed.specs.declared.printed.Printed.{Printed}

-- the rules on numbers, in order
abbrev pub numbers_finding : Model → Printed → Finding
numbers_finding model printed = unless_broken rule.Parts (parts_broken model printed)
    (unless_broken rule.Cost (cost_broken printed)
    (unless_broken rule.FirstCost (first_cost_broken printed)
    (unless_broken rule.Limits (limits_broken model printed) (Meets printed.cost))))

-- the rules on plans, in order, and those after them
abbrev pub plans_finding : Model → Printed → Finding
plans_finding model printed = unless_broken rule.Cumul (routes_broken plan.Cumul model printed.routes)
    (unless_broken rule.Slack (routes_broken plan.Slack model printed.routes)
    (unless_broken rule.Break (routes_broken plan.Break model printed.routes) (numbers_finding model printed)))

-- the rules on active visits, pairs and vehicles, in order, and those after them
abbrev pub visits_finding : Model → Printed → List (List ℕ) → Finding
visits_finding model printed lists = unless_broken rule.Dropped (dropped_broken model lists printed.dropped)
    (unless_broken rule.Required (required_broken model lists)
    (unless_broken rule.Group (group_broken model lists)
    (unless_broken rule.Pair (pair_broken model lists)
    (unless_broken rule.Policy (policy_broken model lists)
    (unless_broken rule.Allowed (allowed_broken model lists) (plans_finding model printed))))))

-- the rules on printed nodes, in order, and those after them
abbrev pub lists_finding : Model → Printed → List (List ℕ) → Finding
lists_finding model printed lists = unless_broken rule.Ends (ends_broken model printed.routes)
    (unless_broken rule.Once (once_broken lists) (visits_finding model printed lists))

abbrev pub finding_in : Model → Option Printed → Finding
finding_in model None = broken_at rule.Shape nowhere
finding_in model (Some printed) = lists_finding model printed (lists_of printed.routes)

-- the finding of the solution that a tree prints
unfoldable pub finding : Model → Data → Finding
finding model d = finding_in model (printed_in model d)

-- the word of a rule
abbrev pub rule_word : Rule → List ℕ
rule_word rule.Shape = codes "shape"
rule_word rule.Ends = codes "ends"
rule_word rule.Once = codes "once"
rule_word rule.Dropped = codes "dropped"
rule_word rule.Required = codes "required"
rule_word rule.Group = codes "group"
rule_word rule.Pair = codes "pair"
rule_word rule.Policy = codes "policy"
rule_word rule.Allowed = codes "allowed"
rule_word rule.Cumul = codes "cumul"
rule_word rule.Slack = codes "slack"
rule_word rule.Break = codes "break"
rule_word rule.Parts = codes "parts"
rule_word rule.Cost = codes "cost"
rule_word rule.FirstCost = codes "first_cost"
rule_word rule.Limits = codes "limits"

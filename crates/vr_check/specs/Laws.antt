-- What it means that a printed solution meets all rules.
use Rattle.std.specs.Prelude.{◌≡◌, ◌<◌, ℕ, ℤ, ◌≤ℤ◌, IsTrue, Some, false, length}
use Rattle.serde_json.specs.Data.{Data}
use Rattle.vr_model.specs.routes.Routes.{inactive, is_empty, route, stops}
use Rattle.vr_model.specs.routes.Rules.{is_valid}
use Rattle.vr_model.specs.routes.Costs.{parts_at, sum_of}
use Rattle.vr_model.specs.routes.AssignmentLaws.{MeetsItsLines}
use Rattle.vr_model.specs.tables.WellFormed.{IsWellFormed}
use Rattle.vr_model.specs.declared.records.Model.{Model}
use Rattle.vr_printed.specs.Printed.{lists_of, assignment_of, nodes_at}
use Rattle.vr_printed.specs.Shape.{printed_in}
use Rattle.vr_check.specs.Parts.{is_within_limits}
use Rattle.vr_check.specs.Check.{finding}
use Rattle.vr_check.specs.declared.finding.Finding.TheVariants.{Meets}
use Rattle.vr_printed.specs.declared.printed.Printed.{Printed}

-- Each printed route with nodes goes from the start of its vehicle through the list to the end. The dropped visits are
-- the inactive ones, ascending. The printed lists are valid, and each printed plan is a schedule of its line. The
-- printed parts are those of the assignment. The cost is their sum and at most the cost of the first solution. Tries
-- and solutions are within the limits of the model.
pub record KeepsAllRules (model : Model) (printed : Printed) (cost : ℤ) : Type 0 where
  pub nodes_are_stops : (v : ℕ) → v < length printed.routes → is_empty (nodes_at printed.routes v) ≡ false
      → nodes_at printed.routes v ≡ stops model v (route (lists_of printed.routes) v)
  pub dropped_are_inactive : printed.dropped ≡ inactive model (lists_of printed.routes)
  pub lists_valid : IsTrue (is_valid model (lists_of printed.routes))
  pub plans_are_schedules : MeetsItsLines model (assignment_of printed.routes)
  pub parts_are_those : printed.parts ≡ parts_at model (assignment_of printed.routes)
  pub cost_is_printed : cost ≡ printed.cost
  pub cost_is_sum : printed.cost ≡ sum_of printed.parts
  pub cost_at_most_first : printed.cost ≤ℤ printed.first_cost
  pub within_limits : IsTrue (is_within_limits model printed)

-- if the finding is that a solution meets the rules of a well-formed model, the tree prints a solution that keeps all
-- rules
abbrev pub MetKeepsAllRules : Type 0
MetKeepsAllRules = (model : Model) (d : Data) (cost : ℤ) → IsWellFormed model → finding model d ≡ Meets cost
    → (printed : Printed) × (printed_in model d ≡ Some printed) × KeepsAllRules model printed cost

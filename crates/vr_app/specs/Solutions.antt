-- What holds of each solution that is printed.
use Rattle.std.specs.Prelude.{◌≡◌, ℕ, ◌<◌, ◌≤◌, List, Some, false, IsTrue, length, ◌≤ℤ◌}
use Rattle.vr_json.specs.Trees.{text_line}
use Rattle.vr_model.specs.first.FirstSolutions.{first_lists}
use Rattle.vr_model.specs.routes.AssignmentLaws.{HasPlans}
use Rattle.vr_model.specs.routes.Costs.{Assignment, cost, parts_at, plan_at, sum_of}
use Rattle.vr_model.specs.routes.Routes.{is_empty, route}
use Rattle.vr_model.specs.routes.Rules.{is_valid}
use Rattle.vr_model.specs.schedules.Lines.{line}
use Rattle.vr_model.specs.schedules.Tight.{IsChosenUnder}
use Rattle.vr_model.specs.tables.Tables.{vehicle_at}
use Rattle.vr_model.specs.declared.records.Model.{Model}
use Rattle.vr_model.specs.declared.records.Report.{Report}
use Rattle.vr_print.specs.Solution.{assignment_tree}
use Rattle.vr_check.specs.Check.{finding}
use Rattle.vr_check.specs.declared.finding.Finding.TheVariants.{Meets}

-- the plan of each used vehicle in each dimension is the schedule of its line that the rule of the vehicle chooses
abbrev pub HasChosenPlans : Model → Assignment → Type 0
HasChosenPlans model assignment = (d v : ℕ) → d < length model.dimensions → v < length assignment.lists
    → is_empty (route assignment.lists v) ≡ false
    → IsChosenUnder (vehicle_at model v).schedule (line model d v (route assignment.lists v)) (plan_at assignment d v)

-- An assignment with valid lists and chosen schedules. Its cost, the sum of the six parts at its cumuls, is that of its
-- lists; it is at most that of the first solution.
pub record IsSolution (model : Model) (first : List (List ℕ)) (assignment : Assignment) : Type 0 where
  pub valid : IsTrue (is_valid model assignment.lists)
  pub plans : HasPlans model assignment
  pub chosen : HasChosenPlans model assignment
  pub cost_is : sum_of (parts_at model assignment) ≡ cost model assignment.lists
  pub no_dearer_than_first : sum_of (parts_at model assignment) ≤ℤ cost model first

-- there were no more tries and no more solutions than the model allows, and at least one solution
pub record IsInLimits (model : Model) (report : Report) : Type 0 where
  pub tries : report.tries ≤ model.search.tries
  pub some_solution : 1 ≤ report.solutions
  pub solutions : report.solutions ≤ model.search.solutions

-- The text is the line of a solution, of what the lists cost that the search began with, and of a report. A check finds
-- that it meets all rules, with its cost.
pub record PrintsBegun (begins : List (List ℕ) → Type 0) (model : Model) (text : List ℕ) : Type 0 where
  pub first : List (List ℕ)
  pub assignment : Assignment
  pub report : Report
  pub is_first : begins first
  pub is_solution : IsSolution model first assignment
  pub is_in_limits : IsInLimits model report
  pub text_is : text ≡ text_line (assignment_tree model assignment (cost model first) report)
  pub meets : finding model (assignment_tree model assignment (cost model first) report)
      ≡ Meets (cost model assignment.lists)

-- the same of a search that began with the first solution
abbrev pub PrintsSolution : Model → List ℕ → Type 0
PrintsSolution model text = PrintsBegun (λ first. first_lists model ≡ Some first) model text

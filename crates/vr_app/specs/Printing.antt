-- What a check finds of what is printed.
use Rattle.std.specs.Prelude.{◌≡◌, ℕ, ◌≤◌, ◌-◌, ◌^◌, ℤ, pos, ◌≤ℤ◌, List, IsTrue}
use Rattle.vr_model.specs.tables.WellFormed.{IsWellFormed}
use Rattle.vr_model.specs.routes.Rules.{is_valid}
use Rattle.vr_model.specs.routes.Costs.{cost}
use Rattle.vr_model.specs.declared.records.Model.{Model}
use Rattle.vr_model.specs.declared.records.Report.{Report}
use Rattle.vr_print.specs.Solution.{solution_tree}
use Rattle.vr_check.specs.Check.{finding}
use Rattle.vr_check.specs.declared.finding.Finding.TheVariants.{Meets}

-- The printed tree of valid lists of a well-formed model meets all rules, with the cost of the lists. It does so for
-- each first cost of 64 bits that is no less than theirs, and each report within the limits of the model.
abbrev pub PrintedMeets : Type 0
PrintedMeets =
    (model : Model) → IsWellFormed model → (lists : List (List ℕ)) → IsTrue (is_valid model lists)
    → (first_cost : ℤ) → cost model lists ≤ℤ first_cost → first_cost ≤ℤ pos (2 ^ 63 - 1)
    → (report : Report) → report.tries ≤ model.search.tries → 1 ≤ report.solutions
    → report.solutions ≤ model.search.solutions
    → finding model (solution_tree model lists first_cost report) ≡ Meets (cost model lists)

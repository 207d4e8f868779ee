-- What an input is, for each status of a question about its solution, if it has no more bytes than it may.
use Rattle.std.specs.Prelude.{◌≡◌, ℕ, ℤ, List, false, IsTrue, Some}
use Rattle.vr_json.specs.Trees.{text_line}
use Rattle.vr_printed.specs.Printed.{assignment_of}
use Rattle.vr_printed.specs.Shape.{printed_in}
use Rattle.vr_printed.specs.declared.printed.Printed.{Printed}
use Rattle.vr_check.specs.Laws.{KeepsAllRules}
use Rattle.vr_check.specs.declared.finding.Finding.TheVariants.{Meets, Broken}
use Rattle.vr_check.specs.declared.finding.Rule.{Rule}
use Rattle.vr_app.specs.Causes.{IsReadAs}
use Rattle.vr_app.specs.Checked.{Checked, checked_of, found_in, is_met}
use Rattle.vr_app.specs.Spans.{ReportsShortest, spans_tree}
use Rattle.vr_app.specs.Texts.{met_tree, not_met_tree}

-- it is a model with a solution that meets its rules
abbrev pub IsMet : List ℕ → Type 0
IsMet bytes = (it : Checked) × IsReadAs checked_of bytes it × IsTrue (is_met (found_in it))

-- it is a model with a solution that breaks one of its rules
abbrev pub IsNotMet : List ℕ → Type 0
IsNotMet bytes = (it : Checked) × IsReadAs checked_of bytes it × (is_met (found_in it) ≡ false)

-- Its solution keeps all rules of its model: routes from start to end, valid lists, plans that are schedules. It keeps
-- the parts of their cost, and limits.
pub record HasKept (bytes : List ℕ) : Type 0 where
  pub it : Checked
  pub printed : Printed
  pub cost : ℤ
  pub is_read : IsReadAs checked_of bytes it
  pub is_found : found_in it ≡ Meets cost
  pub is_printed : printed_in it.model it.solution ≡ Some printed
  pub keeps : KeepsAllRules it.model printed cost

-- its solution keeps all rules of its model, and the text says the cost
pub record IsMetBy (bytes text : List ℕ) : Type 0 where
  pub kept : HasKept bytes
  pub text_is : text ≡ text_line (met_tree kept.cost)

-- Its solution keeps all rules of its model, and the text says how short its routes could be. For each used vehicle and
-- each dimension without breaks it gives the shortest schedule of the line.
pub record IsSpannedBy (bytes text : List ℕ) : Type 0 where
  pub kept : HasKept bytes
  pub shortest : ReportsShortest kept.it.model (assignment_of kept.printed.routes)
  pub text_is : text ≡ text_line (spans_tree kept.it.model (assignment_of kept.printed.routes))

-- its solution breaks a rule of its model, the first one here, and the text says it
pub record IsBrokenBy (bytes text : List ℕ) : Type 0 where
  pub it : Checked
  pub rule : Rule
  pub vehicle : ℤ
  pub place : ℤ
  pub is_read : IsReadAs checked_of bytes it
  pub is_found : found_in it ≡ Broken rule vehicle place
  pub text_is : text ≡ text_line (not_met_tree rule vehicle place)

-- What `check` and `spans` read, and what a check finds of it.
use Rattle.std.specs.Prelude.{ℕ, Bool, true, false, List, [], ◌∷◌, codes, Result, Ok}
use Rattle.serde_json.specs.Data.{Data}
use Rattle.vr_json.specs.Reading.{◌>>=◌, ReaderOf, required, known}
use Rattle.vr_json.specs.declared.fault.Fault.{Fault}
use Rattle.vr_model.specs.declared.records.Model.{Model}
use Rattle.vr_read.specs.Models.{read_model}
use Rattle.vr_check.specs.Check.{finding}
use Rattle.vr_check.specs.declared.finding.Finding.{Finding}
use Rattle.vr_check.specs.declared.finding.Finding.TheVariants.{Meets, Broken}

-- a model, and the tree of a solution that is checked against it
pub record Checked : Type 0 where
  pub model : Model
  pub solution : Data

-- a model and a tree beside it
abbrev pub checked_together : Model → Data → Checked
checked_together model solution = record { model = model; solution = solution }

-- any tree, as it is
abbrev pub any_tree : ReaderOf Data
any_tree path d = Ok d

-- the fields of what is checked
abbrev pub checked_fields : List (List ℕ)
checked_fields = codes "model" ∷ codes "solution" ∷ []

-- what is checked, or the first fault: those of the model at its place, then that there is no solution, then an unknown
-- field
unfoldable pub checked_at : ReaderOf Checked
checked_at path d = do
  model ← required (codes "model") read_model path d
  solution ← required (codes "solution") any_tree path d
  others ← known checked_fields path d
  Ok (checked_together model solution)

-- the same of a whole input
abbrev pub checked_of : Data → Result Checked Fault
checked_of d = checked_at [] d

-- what the check finds
abbrev pub found_in : Checked → Finding
found_in it = finding it.model it.solution

-- it finds no broken rule
abbrev pub is_met : Finding → Bool
is_met (Meets cost) = true
is_met (Broken rule vehicle place) = false

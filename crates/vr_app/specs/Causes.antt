-- What an input is, for each status of an accepted call. JSON, a model or a file is here one of no more bytes than it
-- may have.
use Rattle.std.specs.Prelude.{◌≡◌, ◌<◌, ◌≤◌, ℕ, List, Some, None, Result, Ok, Err, IsSome, length}
use Rattle.serde_json.specs.Data.{Data}
use Rattle.vr_json.specs.declared.fault.Fault.{Fault}
use Rattle.vr_model.specs.first.FirstSolutions.{first_lists}
use Rattle.vr_model.specs.declared.records.Model.{Model}
use Rattle.vr_model.specs.declared.search.Event.{Event}
use Rattle.vr_app.specs.Input.{max_input, input_value, model_of_value}
use Rattle.vr_app.specs.Found.{Found, found_for, line_of_found}
use Rattle.vr_app.specs.Reply.{with_reports}
use Rattle.vr_app.specs.Solutions.{PrintsSolution}
use Rattle.vr_app.specs.declared.words.Mode.{Mode}
use Rattle.vr_tsplib.specs.Imported.{imported}

-- it has too many bytes
abbrev pub IsTooLong : List ℕ → Type 0
IsTooLong bytes = max_input < length bytes

-- it has no more bytes than it may, and is no JSON
pub record IsNotJson (bytes : List ℕ) : Type 0 where
  pub short : length bytes ≤ max_input
  pub no_value : input_value bytes ≡ None

-- it is JSON, and this is the first fault of reading its value
pub record HasFault {A : Type 0} (read : Data → Result A Fault) (bytes : List ℕ) (fault : Fault) : Type 0 where
  pub short : length bytes ≤ max_input
  pub value : Data
  pub is_value : input_value bytes ≡ Some value
  pub is_fault : read value ≡ Err fault

-- it is JSON, and this is read of its value
pub record IsReadAs {A : Type 0} (read : Data → Result A Fault) (bytes : List ℕ) (x : A) : Type 0 where
  pub short : length bytes ≤ max_input
  pub value : Data
  pub is_value : input_value bytes ≡ Some value
  pub is_read : read value ≡ Ok x

-- it is JSON whose value is refused
abbrev pub IsRefusedInput : {A : Type 0} → (Data → Result A Fault) → List ℕ → Type 0
IsRefusedInput read bytes = (fault : Fault) × HasFault read bytes fault

-- it is a file, and this is its first fault
pub record HasFlaw (vehicles : ℕ) (bytes : List ℕ) (fault : Fault) : Type 0 where
  pub short : length bytes ≤ max_input
  pub is_fault : imported vehicles bytes ≡ Err fault

-- it is a file, and this is the tree of its model with this many vehicles
pub record IsImportedAs (vehicles : ℕ) (bytes : List ℕ) (tree : Data) : Type 0 where
  pub short : length bytes ≤ max_input
  pub is_tree : imported vehicles bytes ≡ Ok tree

-- it is a file with a fault
abbrev pub IsFlawed : ℕ → List ℕ → Type 0
IsFlawed vehicles bytes = (fault : Fault) × HasFlaw vehicles bytes fault

-- it is a file without a fault
abbrev pub IsFile : ℕ → List ℕ → Type 0
IsFile vehicles bytes = (tree : Data) × IsImportedAs vehicles bytes tree

-- it is this model
abbrev pub IsModel : List ℕ → Model → Type 0
IsModel bytes model = IsReadAs model_of_value bytes model

-- it is a model for which the construction gives a first solution
abbrev pub HasFirst : List ℕ → Type 0
HasFirst bytes = (model : Model) × IsModel bytes model × IsSome (first_lists model)

-- it is a model for which the construction gives no first solution
abbrev pub HasNoFirst : List ℕ → Type 0
HasNoFirst bytes = (model : Model) × IsModel bytes model × (first_lists model ≡ None)

-- It is a model, and the text is the line of the solution that is asked for. After it come the watchers' reports, if
-- these are asked for.
pub record IsAnsweredBy (asked : Mode) (reports : List Event → List ℕ) (bytes text : List ℕ) : Type 0 where
  pub model : Model
  pub found : Found
  pub is_model : IsModel bytes model
  pub is_found : found_for asked model ≡ Some found
  pub prints : PrintsSolution model (line_of_found model found)
  pub text_is : text ≡ with_reports asked (line_of_found model found) (reports found.outcome.events)

-- What is priced of an input.
use Rattle.std.specs.Prelude.{ℕ, List, [], Option, Some, None, Result, Ok, Err, codes}
use Rattle.serde_json.specs.Data.{Data}
use Rattle.vr_json.specs.Causes.{fault_at}
use Rattle.vr_json.specs.Paths.{name_path}
use Rattle.vr_json.specs.Reading.{◌>>=◌}
use Rattle.vr_json.specs.declared.fault.Cause.TheVariants.{Absent}
use Rattle.vr_json.specs.declared.fault.Fault.{Fault}
use Rattle.vr_model.specs.declared.records.Model.{Model}
use Rattle.vr_given.specs.Givens.{given_of}
use Rattle.vr_refine.specs.declared.inputs.Priced.{Priced}

-- the routes that are priced are to be there
abbrev pub priced_from : List ℕ → Model → Option (List (List ℕ)) → Result Priced Fault
priced_from path model None = Err (fault_at Absent (name_path path (codes "routes")))
priced_from path model (Some lists) = Ok (record { model = model; lists = lists })

-- what is priced: a model and the routes beside it; a fault of the whole input comes first
unfoldable pub priced_of : Data → Result Priced Fault
priced_of d = do
  given ← given_of d
  priced_from [] given.model given.routes

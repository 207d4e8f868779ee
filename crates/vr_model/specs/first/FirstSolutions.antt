-- The first solution of a model.
use Rattle.std.specs.Prelude.{ℕ, cond, List, Option, Some, None}
use Rattle.vr_model.specs.routes.Rules.{is_valid}
use Rattle.vr_model.specs.first.PathCheapestArc.{path_cheapest_arc}
use Rattle.vr_model.specs.first.CheapestInsertion.{parallel_cheapest_insertion}
use Rattle.vr_model.specs.first.SavingsJoins.{savings}
use Rattle.vr_model.specs.declared.records.Model.{Model}
use Rattle.vr_model.specs.declared.records.First.{First}
use Rattle.vr_model.specs.declared.records.First.TheVariants.{PathCheapestArc, ParallelCheapestInsertion, Savings}

-- the lists at which a construction ends
abbrev pub build_by : First → Model → List (List ℕ)
build_by PathCheapestArc model = path_cheapest_arc model
build_by ParallelCheapestInsertion model = parallel_cheapest_insertion model
build_by Savings model = savings model

-- the lists at which the construction that the model names ends
unfoldable pub build : Model → List (List ℕ)
build model = build_by model.search.first model

-- the first solution: those lists, if they are valid
unfoldable pub first_lists : Model → Option (List (List ℕ))
first_lists model = cond (is_valid model (build model)) (Some (build model)) None

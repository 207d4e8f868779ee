-- What is priced has a well-formed model, and lists of it.
use Rattle.std.proofs.Common.{ℕ, List, [], Option, Some, None}
use Rattle.std.specs.Prelude.{IsTrue}
use Rattle.serde_json.specs.Data.{Data}
use Rattle.vr_json.proofs.Readings.{Ensures, after, fails, gives}
use Rattle.vr_model.specs.routes.Routes.{are_lists}
use Rattle.vr_model.specs.tables.WellFormed.{IsWellFormed, WherePresent}
use Rattle.vr_model.specs.declared.records.Model.{Model}
use Rattle.vr_given.proofs.GivenLemmas.{given_ensures}
use Rattle.vr_refine.specs.Inputs.{priced_from, priced_of}
use Rattle.vr_refine.specs.declared.inputs.Priced.{Priced}

-- the model is well formed, and the lists are lists of it
pub record IsSound (it : Priced) : Type 0 where
  pub well_formed : IsWellFormed it.model
  pub are_lists : IsTrue (are_lists it.model it.lists)

of_routes : (path : List ℕ) (model : Model) → IsWellFormed model → (routes : Option (List (List ℕ)))
    → WherePresent (λ lists. IsTrue (are_lists model lists)) routes → Ensures IsSound (priced_from path model routes)
of_routes path model well None are = fails
of_routes path model well (Some lists) are = gives (record { well_formed = well; are_lists = are })

pub priced_ensures : (d : Data) → Ensures IsSound (priced_of d)
unfolding priced_of
priced_ensures d = after (given_ensures [] d) λ given sound. of_routes [] given.model sound.well_formed given.routes sound.are_routes

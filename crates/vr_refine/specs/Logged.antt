-- What a run comes to whose watchers report so.
use Rattle.std.specs.Prelude.{◌≡◌, ◌⊎◌, ℕ, List}
use Rattle.vr_model.specs.declared.search.Event.{Event}
use Rattle.vr_app.specs.Programs.{Passed, Run}
use Rattle.vr_app.specs.Status.{IsStatus}
use Rattle.vr_refine.specs.Promises.{HasCause, HasFailed, IsComplete, IsEmptied, IsNotAccepted, IsPricing, IsReply}
use Rattle.vr_refine.specs.Promises.{IsSearching}

-- all that is promised of a run: its status and its text, and what is given exactly when. It says whose failure gives 2
-- and 3, how far the source is read, and when source and sink are left as they are
pub record Logged {S K : Type 0} (reports : List Event → List ℕ) (run : Run) (source : Passed S) (sink : Passed K)
    : Type 0 where
  pub status : IsStatus run.status
  pub reply : IsReply reports run
  pub complete : IsComplete reports run
  pub pricing : IsPricing run
  pub searching : IsSearching reports run
  pub cause : HasCause run
  pub failed : HasFailed run
  pub unwritten : (run.status ≡ 2) ⊎ (run.status ≡ 7) → sink.new ≡ sink.old
  pub emptied : IsEmptied reports run
  pub untouched : IsNotAccepted run.words → source.new ≡ source.old

-- the same, as one claim
unfoldable pub IsLogged : {S K : Type 0} → (List Event → List ℕ) → Run → Passed S → Passed K → Type 0
IsLogged reports run source sink = Logged reports run source sink

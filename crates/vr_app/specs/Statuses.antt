-- Which statuses an answer may have, by what is asked for.
use Rattle.std.specs.Prelude.{◌≡◌, ◌⊎◌, ℕ, List, Option, Some, None}
use Rattle.vr_app.specs.Answers.{IsOfChecking, IsOfFile, IsOfSolving}
use Rattle.vr_app.specs.Runs.{IsStatusOfAnswer}
use Rattle.vr_app.specs.Status.{status_number}
use Rattle.vr_app.specs.Words.{request_of}
use Rattle.vr_app.specs.declared.status.Status.{Status}
use Rattle.vr_app.specs.declared.status.Status.TheVariants as all
use Rattle.vr_app.specs.declared.words.Request.{Request}
use Rattle.vr_app.specs.declared.words.Request.TheVariants as request
use Rattle.vr_app.specs.declared.words.Task.{Task}
use Rattle.vr_app.specs.declared.words.Task.TheVariants as task

-- the status of an answer to an input of which this is asked
abbrev pub IsOfTask : Task → Status → Type 0
IsOfTask (task.Find asked) status = IsOfSolving status ⊎ (status ≡ all.NotJson) ⊎ (status ≡ all.TooLong)
IsOfTask (task.Ask asked) status = IsOfChecking status ⊎ (status ≡ all.NotJson) ⊎ (status ≡ all.TooLong)

-- the status of an answer to a request, or to words that are not accepted
abbrev pub IsOfRequest : Option Request → Status → Type 0
IsOfRequest None status = status ≡ all.Usage
IsOfRequest (Some (request.Read it)) status = IsOfTask it status
IsOfRequest (Some (request.Import vehicles)) status = IsOfFile status ⊎ (status ≡ all.TooLong)
IsOfRequest (Some (request.Generate n)) status = status ≡ all.Done
IsOfRequest (Some (request.Demo n)) status = status ≡ all.Done

-- a run of these words that was settled has the status of an answer to what they ask for
abbrev pub SettlesAs : List (List ℕ) → ℕ → Type 0
SettlesAs words given =
    IsStatusOfAnswer given → (status : Status) × (given ≡ status_number status) × IsOfRequest (request_of words) status

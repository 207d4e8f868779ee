-- How a run ends.
use Rattle.std.specs.Prelude.{◌≡◌, ◌≢◌, ◌⊎◌, ℕ, true, false, List, [], Option, Some}
use Rattle.vr_io.specs.Edges.{Rose, Took}
use Rattle.vr_io.specs.Whole.{TookFront}
use Rattle.vr_model.specs.declared.search.Event.{Event}
use Rattle.vr_app.specs.Answers.{AnswersReply, IsOfAnswer}
use Rattle.vr_app.specs.Programs.{Program}
use Rattle.vr_app.specs.Promises.{program_of}
use Rattle.vr_app.specs.Runs.{IsAsking, IsNotAccepted, WhereKnown}
use Rattle.vr_app.specs.Status.{status_number}
use Rattle.vr_app.specs.Statuses.{SettlesAs}
use Rattle.vr_app.specs.declared.answer.Answer.{Answer}
use Rattle.vr_app.specs.declared.status.Status.{Status}
use Rattle.vr_app.specs.declared.status.Status.TheVariants as all

-- The answer is the one of a program to these words and to a source that has this left before, and this after. Usage is
-- reported only if `unknown` holds, and a broken rule only if `asking` does.
pub record RespondsBy (program : Program) (unknown asking : Type 0) (words : List (List ℕ))
    (left_before left_after : Option (List ℕ)) (answer : Answer) : Type 0 where
  pub replies : WhereKnown left_before (λ bytes. AnswersReply (program.reply words bytes) answer)
  pub unread : program.is_read words ≡ false → (bytes : List ℕ) → AnswersReply (program.reply words bytes) answer
  pub usage_only : answer.status ≡ all.Usage → unknown
  pub not_met_only : answer.status ≡ all.NotMet → asking
  pub emptied : program.is_read words ≡ true → answer.status ≢ all.TooLong
      → WhereKnown left_before (λ bytes. left_after ≡ Some [])
  pub settled : IsOfAnswer answer.status

-- an answer of which P holds was written, and the status is its own
pub record IsAnswered (P : Answer → Type 0) (old new : Option (List ℕ)) (status : ℕ) : Type 0 where
  pub answer : Answer
  pub responds : P answer
  pub status_is : status ≡ status_number answer.status
  pub took : Took old new answer.text

-- the sink failed at such an answer, and took a front of it
pub record IsCut (P : Answer → Type 0) (old new : Option (List ℕ)) (write_faults_before write_faults_after : ℕ)
    (status : ℕ) : Type 0 where
  pub answer : Answer
  pub responds : P answer
  pub status_is : status ≡ status_number all.WriteFault
  pub took : TookFront old new answer.text
  pub fault : Rose write_faults_before write_faults_after

-- there is no answer, for a cause of this status, and the sink is as it was
pub record IsSilent {K : Type 0} (cause : Status) (old new : K) (status : ℕ) : Type 0 where
  pub status_is : status ≡ status_number cause
  pub same : new ≡ old

-- An answer of which P holds is written, or cut short if the sink failed. Or there is none, because the source failed
-- and `failed` holds, or because memory ran out.
abbrev pub Ends : {K : Type 0} → (K → Option (List ℕ)) → (K → ℕ) → (Answer → Type 0) → Type 0 → K → K → ℕ → Type 0
Ends written faults P failed old new status =
    IsAnswered P (written old) (written new) status
    ⊎ IsCut P (written old) (written new) (faults old) (faults new) status
    ⊎ (IsSilent all.ReadFault old new status × failed)
    ⊎ IsSilent all.NoMemory old new status

-- A run of a program ends in this way. The source has this left, and has failed this often, before it and after it.
-- Source and sink fail nowhere, unless the run ends with that.
pub record RanBy {K : Type 0} (written : K → Option (List ℕ)) (faults : K → ℕ) (program : Program)
    (unknown asking : Type 0) (words : List (List ℕ)) (left_before left_after : Option (List ℕ))
    (read_faults_before read_faults_after : ℕ) (old new : K) (status : ℕ) : Type 0 where
  pub ends : Ends written faults (RespondsBy program unknown asking words left_before left_after)
      (Rose read_faults_before read_faults_after × (program.is_read words ≡ true)) old new status
  pub source_quiet : status ≢ 2 → read_faults_after ≡ read_faults_before
  pub sink_quiet : status ≢ 3 → faults new ≡ faults old

-- The same of the program whose watchers report in this way. The run's status is one of an answer to what the words ask
-- for, unless something failed.
pub record Ran {K : Type 0} (written : K → Option (List ℕ)) (faults : K → ℕ) (reports : List Event → List ℕ)
    (words : List (List ℕ)) (left_before left_after : Option (List ℕ)) (read_faults_before read_faults_after : ℕ)
    (old new : K) (status : ℕ) : Type 0 where
  pub by : RanBy written faults (program_of reports) (IsNotAccepted words) (IsAsking words) words left_before left_after
      read_faults_before read_faults_after old new status
  pub settles : SettlesAs words status

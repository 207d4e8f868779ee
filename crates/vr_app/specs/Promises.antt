-- What is promised of a run, by subject. When 0, 1, 4, 5, 6, 8 or 9 comes is said of runs whose status is none of 2, 3
-- and 7. What is JSON, a model or a file is not too long.
use Rattle.std.specs.Prelude.{◌≡◌, ◌⊎◌, ◌↔◌, ℕ, List}
use Rattle.serde_json.specs.Data.{Data}
use Rattle.vr_json.specs.Trees.{text_line}
use Rattle.vr_json.specs.declared.fault.Fault.{Fault}
use Rattle.vr_model.specs.declared.search.Event.{Event}
use Rattle.vr_app.specs.Causes.{HasFault, HasFirst, HasFlaw, HasNoFirst, IsAnsweredBy, IsFile, IsFlawed}
use Rattle.vr_app.specs.Causes.{IsImportedAs, IsNotJson, IsRefusedInput, IsTooLong}
use Rattle.vr_app.specs.Checked.{checked_of}
use Rattle.vr_app.specs.Input.{model_of_value}
use Rattle.vr_app.specs.Met.{IsBrokenBy, IsMet, IsMetBy, IsNotMet, IsSpannedBy}
use Rattle.vr_app.specs.Programs.{HasFailedOf, IsCompleteBy, IsEmptiedBy, IsReplyOf, Program, Run, Wrote}
use Rattle.vr_app.specs.Reply as replies
use Rattle.vr_app.specs.Runs.{AsksCheck, AsksSpans, Imports, IsAskedFor, IsAsking, IsNotAccepted, IsSolutionAsked}
use Rattle.vr_app.specs.Runs.{IsStatusOfAnswer, ReadsInput, ReadsJson, ReadsNothing, WhereAnswered, WhereAsked}
use Rattle.vr_app.specs.Runs.{WhereImported, WhereSolved, WhereKnown}
use Rattle.vr_app.specs.Texts.{refused_tree}
use Rattle.vr_app.specs.Words.{is_read, request_of}
use Rattle.vr_app.specs.declared.words.Mode.{Mode}

-- the program whose watchers report so
abbrev pub program_of : (List Event → List ℕ) → Program
program_of reports = record { reply = replies.reply reports; is_read = λ words. is_read (request_of words) }

-- its reply
abbrev pub IsReply : (List Event → List ℕ) → Run → Type 0
IsReply reports run = IsReplyOf (program_of reports) run

-- its reply is whole, or memory ran out
abbrev pub IsComplete : (List Event → List ℕ) → Run → Type 0
IsComplete reports run = IsCompleteBy (program_of reports) run

-- Words that ask for a solution get 0 exactly if the input is a model with a first solution. They get 6 exactly if it
-- is a model without one. Status 6 comes of no other words. What is written is a solution, which meets a check. It has
-- valid lists with their chosen schedules and their cost; with `--log` the watchers' reports follow. Status 5 comes
-- exactly if the model is refused; the text says code and path.
pub record IsSolving (reports : List Event → List ℕ) (run : Run) : Type 0 where
  pub done : WhereSolved run.words run.left_before run.status (λ bytes. (run.status ≡ 0) ↔ HasFirst bytes)
  pub solution : run.status ≡ 0 → (asked : Mode) → IsAskedFor asked run.words → WhereKnown run.left_before (λ bytes.
      (text : List ℕ) × IsAnsweredBy asked reports bytes text × Wrote run text)
  pub none_found : WhereSolved run.words run.left_before run.status (λ bytes. (run.status ≡ 6) ↔ HasNoFirst bytes)
  pub none_found_only : run.status ≡ 6 → IsSolutionAsked run.words
  pub refused : WhereSolved run.words run.left_before run.status
      (λ bytes. (run.status ≡ 5) ↔ IsRefusedInput model_of_value bytes)
  pub refusal : run.status ≡ 5 → IsSolutionAsked run.words → WhereKnown run.left_before (λ bytes.
      (fault : Fault) → HasFault model_of_value bytes fault → Wrote run (text_line (refused_tree fault)))

-- `check` and `spans` get 0 exactly if the solution in the input meets the rules of its model. Then it keeps them:
-- valid lists, schedules, the parts of their cost. `spans` speaks of the line of each used vehicle, in each dimension
-- in which no vehicle has breaks. It says the least span of all schedules of the line, with the first schedule of this
-- span. Status 9 comes of these two alone, exactly if the solution breaks a rule; the text says the first. Status 5
-- comes exactly if the input is refused; the text says code and path.
pub record IsChecking (run : Run) : Type 0 where
  pub met : WhereAsked run.words run.left_before run.status (λ bytes. (run.status ≡ 0) ↔ IsMet bytes)
  pub kept : run.status ≡ 0 → AsksCheck run.words → WhereKnown run.left_before (λ bytes.
      (text : List ℕ) × IsMetBy bytes text × Wrote run text)
  pub spans : run.status ≡ 0 → AsksSpans run.words → WhereKnown run.left_before (λ bytes.
      (text : List ℕ) × IsSpannedBy bytes text × Wrote run text)
  pub not_met : WhereAsked run.words run.left_before run.status (λ bytes. (run.status ≡ 9) ↔ IsNotMet bytes)
  pub broken : run.status ≡ 9 → WhereKnown run.left_before (λ bytes.
      (text : List ℕ) × IsBrokenBy bytes text × Wrote run text)
  pub not_met_only : run.status ≡ 9 → IsAsking run.words
  pub refused : WhereAsked run.words run.left_before run.status
      (λ bytes. (run.status ≡ 5) ↔ IsRefusedInput checked_of bytes)
  pub refusal : run.status ≡ 5 → IsAsking run.words → WhereKnown run.left_before (λ bytes.
      (fault : Fault) → HasFault checked_of bytes fault → Wrote run (text_line (refused_tree fault)))

-- `import` gets 0 exactly if the file has no fault, and then its model is written. Status 5 comes exactly if it has
-- one; the text says the first.
pub record IsImporting (run : Run) : Type 0 where
  pub imported : WhereImported run.words run.left_before run.status (λ vehicles bytes.
      (run.status ≡ 0) ↔ IsFile vehicles bytes)
  pub model : run.status ≡ 0 → (vehicles : ℕ) → Imports vehicles run.words → WhereKnown run.left_before (λ bytes.
      (tree : Data) × IsImportedAs vehicles bytes tree × Wrote run (text_line tree))
  pub flawed : WhereImported run.words run.left_before run.status (λ vehicles bytes.
      (run.status ≡ 5) ↔ IsFlawed vehicles bytes)
  pub flaw : run.status ≡ 5 → (vehicles : ℕ) → Imports vehicles run.words → WhereKnown run.left_before (λ bytes.
      (fault : Fault) → HasFlaw vehicles bytes fault → Wrote run (text_line (refused_tree fault)))

-- Words that read get 8 exactly if the input is too long. All of them but `import` get 4 exactly if it is no JSON. Of
-- no other words 8, 4 or 5 comes. Status 1 comes exactly if the words are not accepted. Of accepted words that read
-- nothing only 0 comes.
pub record HasCause (run : Run) : Type 0 where
  pub too_long : WhereAnswered run.words run.left_before run.status (λ bytes. (run.status ≡ 8) ↔ IsTooLong bytes)
  pub not_json : WhereAnswered run.words run.left_before run.status (λ bytes.
      (run.status ≡ 4) ↔ (ReadsJson run.words × IsNotJson bytes))
  pub too_long_only : run.status ≡ 8 → ReadsInput run.words
  pub not_json_only : run.status ≡ 4 → ReadsJson run.words
  pub refused_only : run.status ≡ 5 → ReadsInput run.words
  pub usage : IsStatusOfAnswer run.status → IsNotAccepted run.words → run.status ≡ 1
  pub usage_only : run.status ≡ 1 → IsNotAccepted run.words
  pub numbered : IsStatusOfAnswer run.status → ReadsNothing run.words → IsNotAccepted run.words ⊎ (run.status ≡ 0)

-- 2 and 3 come of failures alone, and of each failure
abbrev pub HasFailed : Run → Type 0
HasFailed run = HasFailedOf (ReadsInput run.words) run

-- the input is read to its end
abbrev pub IsEmptied : (List Event → List ℕ) → Run → Type 0
IsEmptied reports run = IsEmptiedBy (program_of reports) run

-- What is promised of a run, by subject. When 0, 1, 4, 5, 6, 8 or 9 comes is said of runs that end with none of 2, 3
-- and 7. What is JSON or a model is not too long.
use Rattle.std.specs.Prelude.{◌≡◌, ◌↔◌, ℕ, List, Some, None, true}
use Rattle.vr_json.specs.Trees.{text_line}
use Rattle.vr_json.specs.declared.fault.Fault.{Fault}
use Rattle.vr_model.specs.declared.search.Event.{Event}
use Rattle.vr_app.specs.Causes.{HasFault, IsNotJson, IsRefusedInput, IsTooLong}
use Rattle.vr_app.specs.Programs.{HasFailedOf, IsCompleteBy, IsEmptiedBy, IsReplyOf, Run, Wrote}
use Rattle.vr_app.specs.Runs.{IsStatusOfAnswer, WhereKnown, WhereSettled}
use Rattle.vr_app.specs.Texts.{refused_tree}
use Rattle.vr_app.specs.declared.words.Mode.{Mode}
use Rattle.vr_given.specs.Givens.{given_of}
use Rattle.vr_refine.specs.Causes.{Finds, FindsNone, HasFaulty, HasValid, IsFaultedBy, IsFoundBy, IsPricedBy}
use Rattle.vr_refine.specs.Inputs.{priced_of}
use Rattle.vr_refine.specs.Reply.{program_of}
use Rattle.vr_refine.specs.Words.{is_read, request_of}
use Rattle.vr_refine.specs.declared.words.Request.TheVariants.{Find, Price}

-- the words are not accepted
abbrev pub IsNotAccepted : List (List ℕ) → Type 0
IsNotAccepted words = request_of words ≡ None

-- the words are accepted, and the input is read
abbrev pub ReadsInput : List (List ℕ) → Type 0
ReadsInput words = is_read (request_of words) ≡ true

-- the words ask what given routes cost
abbrev pub AsksPrice : List (List ℕ) → Type 0
AsksPrice words = request_of words ≡ Some Price

-- the words ask for this solution
abbrev pub IsAskedFor : Mode → List (List ℕ) → Type 0
IsAskedFor asked words = request_of words ≡ Some (Find asked)

-- the words ask for a solution
abbrev pub IsSolutionAsked : List (List ℕ) → Type 0
IsSolutionAsked words = (asked : Mode) × IsAskedFor asked words

-- What is promised of `price`. Status 0 comes exactly if the given routes are valid; what is written is their line,
-- with their cost. Status 9 comes of this word alone, exactly if they break a rule; the text says the first. Status 5
-- comes exactly if the input is refused; the text says code and path.
pub record IsPricing (run : Run) : Type 0 where
  pub done : WhereSettled (AsksPrice run.words) run.left_before run.status (λ bytes. (run.status ≡ 0) ↔ HasValid bytes)
  pub price : run.status ≡ 0 → AsksPrice run.words → WhereKnown run.left_before (λ bytes.
      (text : List ℕ) × IsPricedBy bytes text × Wrote run text)
  pub not_met : WhereSettled (AsksPrice run.words) run.left_before run.status
      (λ bytes. (run.status ≡ 9) ↔ HasFaulty bytes)
  pub broken : run.status ≡ 9 → WhereKnown run.left_before (λ bytes.
      (text : List ℕ) × IsFaultedBy bytes text × Wrote run text)
  pub not_met_only : run.status ≡ 9 → AsksPrice run.words
  pub refused : WhereSettled (AsksPrice run.words) run.left_before run.status
      (λ bytes. (run.status ≡ 5) ↔ IsRefusedInput priced_of bytes)
  pub refusal : run.status ≡ 5 → AsksPrice run.words → WhereKnown run.left_before (λ bytes.
      (fault : Fault) → HasFault priced_of bytes fault → Wrote run (text_line (refused_tree fault)))

-- What is promised of words that ask for a solution. Status 0 comes exactly if one is found, 6 exactly if none is.
-- There is none if there are no lists to begin with, or if the best ones of ruin and recreate lack something. Status 6
-- comes of no other words. What is written is a solution, which meets a check: valid lists with their chosen schedules
-- and their cost. They cost no more than the lists of the first cost. With `--log` the watchers' reports follow. Status
-- 5 comes exactly if the input is refused; the text says code and path.
pub record IsSearching (reports : List Event → List ℕ) (run : Run) : Type 0 where
  pub done : (asked : Mode) → WhereSettled (IsAskedFor asked run.words) run.left_before run.status
      (λ bytes. (run.status ≡ 0) ↔ Finds asked bytes)
  pub solution : run.status ≡ 0 → (asked : Mode) → IsAskedFor asked run.words → WhereKnown run.left_before (λ bytes.
      (text : List ℕ) × IsFoundBy asked reports bytes text × Wrote run text)
  pub none_found : (asked : Mode) → WhereSettled (IsAskedFor asked run.words) run.left_before run.status
      (λ bytes. (run.status ≡ 6) ↔ FindsNone asked bytes)
  pub none_found_only : run.status ≡ 6 → IsSolutionAsked run.words
  pub refused : (asked : Mode) → WhereSettled (IsAskedFor asked run.words) run.left_before run.status
      (λ bytes. (run.status ≡ 5) ↔ IsRefusedInput given_of bytes)
  pub refusal : run.status ≡ 5 → (asked : Mode) → IsAskedFor asked run.words → WhereKnown run.left_before (λ bytes.
      (fault : Fault) → HasFault given_of bytes fault → Wrote run (text_line (refused_tree fault)))

-- What is promised of all accepted words. Status 8 comes exactly if the input is too long, and 4 exactly if it is no
-- JSON. Statuses 4, 5 and 8 come of no other words. Status 1 comes exactly if the words are not accepted.
pub record HasCause (run : Run) : Type 0 where
  pub too_long : WhereSettled (ReadsInput run.words) run.left_before run.status
      (λ bytes. (run.status ≡ 8) ↔ IsTooLong bytes)
  pub not_json : WhereSettled (ReadsInput run.words) run.left_before run.status
      (λ bytes. (run.status ≡ 4) ↔ IsNotJson bytes)
  pub too_long_only : run.status ≡ 8 → ReadsInput run.words
  pub not_json_only : run.status ≡ 4 → ReadsInput run.words
  pub refused_only : run.status ≡ 5 → ReadsInput run.words
  pub usage : IsStatusOfAnswer run.status → IsNotAccepted run.words → run.status ≡ 1
  pub usage_only : run.status ≡ 1 → IsNotAccepted run.words

-- the reply
abbrev pub IsReply : (List Event → List ℕ) → Run → Type 0
IsReply reports run = IsReplyOf (program_of reports) run

-- the reply is whole, or memory was wanting
abbrev pub IsComplete : (List Event → List ℕ) → Run → Type 0
IsComplete reports run = IsCompleteBy (program_of reports) run

-- 2 and 3 come of failures alone, and of each failure
abbrev pub HasFailed : Run → Type 0
HasFailed run = HasFailedOf (ReadsInput run.words) run

-- the input is read to its end
abbrev pub IsEmptied : (List Event → List ℕ) → Run → Type 0
IsEmptied reports run = IsEmptiedBy (program_of reports) run

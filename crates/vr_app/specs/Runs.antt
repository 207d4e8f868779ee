-- Of which runs a clause speaks.
use Rattle.std.specs.Prelude.{◌≡◌, ◌≢◌, ℕ, List, true, false, Option, Some, None, String, map, string_bytes}
use Rattle.std.specs.declared.alloc.Global.{Global}
use Rattle.vr_app.specs.Words.{is_read, reads_json, request_of}
use Rattle.vr_app.specs.declared.words.Mode.{Mode}
use Rattle.vr_app.specs.declared.words.Question.{Question}
use Rattle.vr_app.specs.declared.words.Question.TheVariants as question
use Rattle.vr_app.specs.declared.words.Request.TheVariants as request
use Rattle.vr_app.specs.declared.words.Task.TheVariants as task

-- the words, as bytes
abbrev pub bytes_of : List (String Global) → List (List ℕ)
bytes_of words = map string_bytes words

-- the words are not accepted
abbrev pub IsNotAccepted : List (List ℕ) → Type 0
IsNotAccepted words = request_of words ≡ None

-- the words ask for this solution of the input
abbrev pub IsAskedFor : Mode → List (List ℕ) → Type 0
IsAskedFor asked words = request_of words ≡ Some (request.Read (task.Find asked))

-- the words ask for a solution of the input
abbrev pub IsSolutionAsked : List (List ℕ) → Type 0
IsSolutionAsked words = (asked : Mode) × IsAskedFor asked words

-- the words ask this about the solution in the input
abbrev pub Asks : Question → List (List ℕ) → Type 0
Asks asked words = request_of words ≡ Some (request.Read (task.Ask asked))

-- the words ask whether the solution in the input meets the rules of its model
abbrev pub AsksCheck : List (List ℕ) → Type 0
AsksCheck words = Asks question.Check words

-- the words ask how short the routes of the solution in the input could be
abbrev pub AsksSpans : List (List ℕ) → Type 0
AsksSpans words = Asks question.Spans words

-- the words ask about the solution in the input
abbrev pub IsAsking : List (List ℕ) → Type 0
IsAsking words = (asked : Question) × Asks asked words

-- the words ask for the model of a file, with this many vehicles
abbrev pub Imports : ℕ → List (List ℕ) → Type 0
Imports vehicles words = request_of words ≡ Some (request.Import vehicles)

-- the words are accepted, and the input is read
abbrev pub ReadsInput : List (List ℕ) → Type 0
ReadsInput words = is_read (request_of words) ≡ true

-- the words are accepted, and the input is read as JSON: they do not ask for the model of a file
abbrev pub ReadsJson : List (List ℕ) → Type 0
ReadsJson words = reads_json (request_of words) ≡ true

-- the words are not accepted, or the input is not read
abbrev pub ReadsNothing : List (List ℕ) → Type 0
ReadsNothing words = is_read (request_of words) ≡ false

-- a status that is that of an answer: no fault of source or sink, and not out of memory
pub record IsStatusOfAnswer (status : ℕ) : Type 0 where
  pub is_read : status ≢ 2
  pub is_written : status ≢ 3
  pub has_memory : status ≢ 7

-- what is said of the bytes that a source has left, if they are known
abbrev pub WhereKnown : Option (List ℕ) → (List ℕ → Type 0) → Type 0
WhereKnown left P = (bytes : List ℕ) → left ≡ Some bytes → P bytes

-- what is said of the input of a run that was settled, if this is asked of it
abbrev pub WhereSettled : Type 0 → Option (List ℕ) → ℕ → (List ℕ → Type 0) → Type 0
WhereSettled asked left status P = IsStatusOfAnswer status → asked → WhereKnown left P

-- what is said of the input of a run that was settled, if it is read
abbrev pub WhereAnswered : List (List ℕ) → Option (List ℕ) → ℕ → (List ℕ → Type 0) → Type 0
WhereAnswered words left status P = WhereSettled (ReadsInput words) left status P

-- the same, if a solution of it is asked for
abbrev pub WhereSolved : List (List ℕ) → Option (List ℕ) → ℕ → (List ℕ → Type 0) → Type 0
WhereSolved words left status P = WhereSettled (IsSolutionAsked words) left status P

-- the same, if something is asked about its solution
abbrev pub WhereAsked : List (List ℕ) → Option (List ℕ) → ℕ → (List ℕ → Type 0) → Type 0
WhereAsked words left status P = WhereSettled (IsAsking words) left status P

-- the same, if it is a file whose model with this many vehicles is asked for
abbrev pub WhereImported : List (List ℕ) → Option (List ℕ) → ℕ → (ℕ → List ℕ → Type 0) → Type 0
WhereImported words left status P =
    IsStatusOfAnswer status → (vehicles : ℕ) → Imports vehicles words → WhereKnown left (P vehicles)

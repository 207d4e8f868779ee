-- What the program answers.
use Rattle.std.specs.Prelude.{◌≡◌, ◌++◌, ℕ, ℤ, List, Option, Some, None, Result, Ok, Err, codes, nat_lt, length}
use Rattle.std.specs.Prelude.{if◌then◌else◌}
use Rattle.serde_json.specs.Data.{Data}
use Rattle.vr_json.specs.Trees.{text_line}
use Rattle.vr_json.specs.declared.fault.Fault.{Fault}
use Rattle.vr_model.specs.declared.records.Model.{Model}
use Rattle.vr_model.specs.declared.search.Event.{Event}
use Rattle.vr_io.specs.Edges.{Took}
use Rattle.vr_check.specs.Check.{rule_word}
use Rattle.vr_check.specs.declared.finding.Finding.{Finding}
use Rattle.vr_check.specs.declared.finding.Finding.TheVariants.{Meets, Broken}
use Rattle.vr_check.specs.declared.finding.Rule.{Rule}
use Rattle.vr_app.specs.Words.{request_of}
use Rattle.vr_app.specs.Input.{max_input, input_value, model_of_value}
use Rattle.vr_app.specs.Texts.{status_tree, refused_tree, met_tree, broken_tree, summary_of, summary_tree}
use Rattle.vr_app.specs.Checked.{Checked, checked_of, found_in}
use Rattle.vr_app.specs.Spans.{spans_of}
use Rattle.vr_app.specs.Found.{Found, found_for, line_of_found}
use Rattle.vr_app.specs.declared.words.Mode.{Mode}
use Rattle.vr_app.specs.declared.words.Mode.TheVariants as mode
use Rattle.vr_app.specs.declared.words.Question.{Question}
use Rattle.vr_app.specs.declared.words.Question.TheVariants as question
use Rattle.vr_app.specs.declared.words.Request.{Request}
use Rattle.vr_app.specs.declared.words.Request.TheVariants as request
use Rattle.vr_app.specs.declared.words.Task.{Task}
use Rattle.vr_app.specs.declared.words.Task.TheVariants as task
use Rattle.vr_gen.specs.Generated.{generated}
use Rattle.vr_tsplib.specs.Imported.{imported}

-- a status and a text
pub record Reply : Type 0 where
  pub status : ℕ
  pub text : List ℕ

-- a status whose text says it alone
abbrev pub status_reply : ℕ → List ℕ → Reply
status_reply status word = record { status = status; text = text_line (status_tree word) }

-- the words are not accepted
abbrev pub usage : Reply
usage = status_reply 1 (codes "USAGE")

-- the input has too many bytes
abbrev pub too_long : Reply
too_long = status_reply 8 (codes "TOO_LONG")

-- the input is no JSON
abbrev pub not_json : Reply
not_json = status_reply 4 (codes "NOT_JSON")

-- the input is refused
abbrev pub refused : Fault → Reply
refused fault = record { status = 5; text = text_line (refused_tree fault) }

-- the construction gives no first solution
abbrev pub none_found : Reply
none_found = status_reply 6 (codes "ROUTING_FAIL")

-- the whole of what was asked for, in this text
abbrev pub done : List ℕ → Reply
done text = record { status = 0; text = text }

-- the line of a solution, and after it the reports of the watchers if these are asked for
abbrev pub with_reports : Mode → List ℕ → List ℕ → List ℕ
with_reports mode.First line reports = line
with_reports mode.Solve line reports = line
with_reports mode.Log line reports = line ++ reports

-- the reply to what was found for a model; `reports` is what the watchers report after events
abbrev pub reply_to_found : Mode → (List Event → List ℕ) → Model → Option Found → Reply
reply_to_found asked reports model None = none_found
reply_to_found asked reports model (Some found) =
    done (with_reports asked (line_of_found model found) (reports found.outcome.events))

-- the reply to a model, or to the first fault
abbrev pub reply_to_model : Mode → (List Event → List ℕ) → Result Model Fault → Reply
reply_to_model asked reports (Err fault) = refused fault
reply_to_model asked reports (Ok model) = reply_to_found asked reports model (found_for asked model)

-- the tree that answers a question about a solution that meets the rules of its model and has this cost
abbrev pub answer_tree : Question → Checked → ℤ → Data
answer_tree question.Check it cost = met_tree cost
answer_tree question.Spans it cost = spans_of it

-- the rule of this word is broken, there
abbrev pub breaks : List ℕ → ℤ → ℤ → Reply
breaks rule vehicle place = record { status = 9; text = text_line (broken_tree rule vehicle place) }

-- the solution breaks this rule of its model, there
abbrev pub broken : Rule → ℤ → ℤ → Reply
broken rule vehicle place = breaks (rule_word rule) vehicle place

-- the reply to a question, by what the check of the solution finds
abbrev pub reply_to_finding : Question → Checked → Finding → Reply
reply_to_finding asked it (Meets cost) = done (text_line (answer_tree asked it cost))
reply_to_finding asked it (Broken rule vehicle place) = broken rule vehicle place

-- the reply to a question about a model and a solution
abbrev pub reply_to_question : Question → Checked → Reply
reply_to_question asked it = reply_to_finding asked it (found_in it)

-- the same, or the reply to the first fault
abbrev pub reply_to_checked : Question → Result Checked Fault → Reply
reply_to_checked asked (Err fault) = refused fault
reply_to_checked asked (Ok it) = reply_to_question asked it

-- the reply to a tree
abbrev pub reply_to_tree : Task → (List Event → List ℕ) → Data → Reply
reply_to_tree (task.Find asked) reports d = reply_to_model asked reports (model_of_value d)
reply_to_tree (task.Ask asked) reports d = reply_to_checked asked (checked_of d)

-- the reply to a value, if there is one: what is replied to a tree, or that the input is no JSON
abbrev pub reply_to_json : (Data → Reply) → Option Data → Reply
reply_to_json of_tree None = not_json
reply_to_json of_tree (Some d) = of_tree d

-- the reply to the bytes of an input, by what is replied to a tree
unfoldable pub reply_to_bytes : (Data → Reply) → List ℕ → Reply
reply_to_bytes of_tree bytes =
    if nat_lt max_input (length bytes) then too_long else reply_to_json of_tree (input_value bytes)

-- the same of a task
abbrev pub reply_to_input : Task → (List Event → List ℕ) → List ℕ → Reply
reply_to_input it reports bytes = reply_to_bytes (reply_to_tree it reports) bytes

-- the reply to what is imported of a file
abbrev pub reply_to_imported : Result Data Fault → Reply
reply_to_imported (Err fault) = refused fault
reply_to_imported (Ok tree) = done (text_line tree)

-- the reply to the bytes of a file, with this many vehicles
unfoldable pub reply_to_file : ℕ → List ℕ → Reply
reply_to_file vehicles bytes =
    if nat_lt max_input (length bytes) then too_long else reply_to_imported (imported vehicles bytes)

-- the reply that is the model of a number
unfoldable pub reply_generated : ℕ → Reply
reply_generated n = done (text_line (generated n))

-- the reply that reports on the search of the model of number n
abbrev pub summary_of_found : ℕ → Model → Option Found → Reply
summary_of_found n model None = none_found
summary_of_found n model (Some found) = done (text_line (summary_tree (summary_of n model found)))

abbrev pub summary_of_model : ℕ → Result Model Fault → Reply
summary_of_model n (Err fault) = refused fault
summary_of_model n (Ok model) = summary_of_found n model (found_for mode.Solve model)

unfoldable pub reply_of_demo : ℕ → Reply
reply_of_demo n = summary_of_model n (model_of_value (generated n))

-- the reply to a request, or to words that are not accepted
abbrev pub reply_in : (List Event → List ℕ) → Option Request → List ℕ → Reply
reply_in reports None bytes = usage
reply_in reports (Some (request.Read it)) bytes = reply_to_input it reports bytes
reply_in reports (Some (request.Import vehicles)) bytes = reply_to_file vehicles bytes
reply_in reports (Some (request.Generate n)) bytes = reply_generated n
reply_in reports (Some (request.Demo n)) bytes = reply_of_demo n

-- the reply to words and the bytes of an input
abbrev pub reply : (List Event → List ℕ) → List (List ℕ) → List ℕ → Reply
reply reports words bytes = reply_in reports (request_of words) bytes

-- the status is that of the reply, and its text was written
pub record Replies (answer : Reply) (old new : Option (List ℕ)) (given : ℕ) : Type 0 where
  pub status : given ≡ answer.status
  pub written : Took old new answer.text

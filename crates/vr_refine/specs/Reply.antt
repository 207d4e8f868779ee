-- What the program answers.
use Rattle.std.specs.Prelude.{ℕ, List, [], ◌∷◌, Option, Some, None, Result, Ok, Err}
use Rattle.serde_json.specs.Data.{Data}
use Rattle.vr_json.specs.declared.fault.Fault.{Fault}
use Rattle.vr_model.specs.declared.records.Model.{Model}
use Rattle.vr_model.specs.declared.search.Event.{Event}
use Rattle.vr_watch.specs.Reports.{tallied, traced}
use Rattle.vr_app.specs.Found.{found_from, line_of_found}
use Rattle.vr_app.specs.Programs.{Program}
use Rattle.vr_app.specs.Reply.{Reply, breaks, done, refused, reply_to_bytes, reply_to_found, usage}
use Rattle.vr_app.specs.Reports.{joined_reports}
use Rattle.vr_app.specs.declared.words.Mode.{Mode}
use Rattle.vr_app.specs.declared.words.Mode.TheVariants as mode
use Rattle.vr_given.specs.Givens.{given_of}
use Rattle.vr_given.specs.ListFaults.{fault_of_lists, list_rule_word}
use Rattle.vr_given.specs.declared.faults.ListFault.{ListFault}
use Rattle.vr_given.specs.declared.given.Given.{Given}
use Rattle.vr_refine.specs.Inputs.{priced_of}
use Rattle.vr_refine.specs.Wishes.{found_of}
use Rattle.vr_refine.specs.Words.{is_read, request_of}
use Rattle.vr_refine.specs.declared.inputs.Priced.{Priced}
use Rattle.vr_refine.specs.declared.words.Request.{Request}
use Rattle.vr_refine.specs.declared.words.Request.TheVariants.{Find, Price}

-- the reply to lists that are priced: the line of them as they are, or the first rule that they break. Their cost is
-- the first cost too
abbrev pub reply_to_lists : Model → List (List ℕ) → Option ListFault → Reply
reply_to_lists model lists None = done (line_of_found model (found_from mode.First model lists))
reply_to_lists model lists (Some fault) = breaks (list_rule_word fault.rule) fault.spot.vehicle fault.spot.place

-- the same, or the reply to the first fault
abbrev pub reply_to_priced : Result Priced Fault → Reply
reply_to_priced (Err fault) = refused fault
reply_to_priced (Ok it) = reply_to_lists it.model it.lists (fault_of_lists it.model it.lists)

-- the reply to what is found, or to the first fault; `reports` is what the watchers report after events
abbrev pub reply_to_given : Mode → (List Event → List ℕ) → Result Given Fault → Reply
reply_to_given asked reports (Err fault) = refused fault
reply_to_given asked reports (Ok given) = reply_to_found asked reports given.model (found_of asked given)

-- the reply to a tree
abbrev pub reply_to_tree : Request → (List Event → List ℕ) → Data → Reply
reply_to_tree Price reports d = reply_to_priced (priced_of d)
reply_to_tree (Find asked) reports d = reply_to_given asked reports (given_of d)

-- the reply to a request, or to words that are not accepted
abbrev pub reply_in : (List Event → List ℕ) → Option Request → List ℕ → Reply
reply_in reports None bytes = usage
reply_in reports (Some it) bytes = reply_to_bytes (reply_to_tree it reports) bytes

-- the reply to words and the bytes of an input
abbrev pub reply : (List Event → List ℕ) → List (List ℕ) → List ℕ → Reply
reply reports words bytes = reply_in reports (request_of words) bytes

-- the program whose watchers report so
abbrev pub program_of : (List Event → List ℕ) → Program
program_of reports = record { reply = reply reports; is_read = λ words. is_read (request_of words) }

-- the log of events: what a tally reports of them, and then what a trace does
abbrev pub log_of : List Event → List ℕ
log_of = joined_reports (λ report. report) (tallied ∷ traced ∷ [])

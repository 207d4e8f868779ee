-- Replies.
use Rattle.std.proofs.Common.{◌≡◌, ◌∙◌, ◌++◌, ◌≤◌, ℕ, ℤ, List, [], false, Option, Some, None, Result, Ok, Err, refl, ap, sym, subst, arith, option_map, length}
use Rattle.std.specs.Prelude.{flat_map}
use Rattle.std.proofs.lemmas.List.{append-nil}
use Rattle.std.proofs.lemmas.List.Folds.{flat_map-map}
use Rattle.serde_json.specs.Data.{Data, depth}
use Rattle.vr_print.proofs.TreeLemmas.{is_float-whole}
use Rattle.serde_json.specs.Read.{max_depth}
use Rattle.serde_json.specs.Written.{has_float}
use Rattle.vr_json.specs.declared.fault.Fault.{Fault}
use Rattle.vr_model.specs.declared.records.Model.{Model}
use Rattle.vr_model.specs.first.FirstSolutions.{first_lists}
use Rattle.vr_read.proofs.WellFormedModels.{well_formed_from_read}
use Rattle.vr_given.proofs.BeginLemmas.{first_lists-valid}
use Rattle.vr_model.specs.declared.search.Event.{Event}
use Rattle.vr_watch.specs.Told.{Reported}
use Rattle.vr_app.specs.Answers.{AnswersWith, AnswersReply}
use Rattle.vr_app.specs.Causes.{IsAnsweredBy}
use Rattle.vr_app.specs.Found.{Found, found_events, found_from, line_of_found}
use Rattle.vr_app.specs.Input.{max_input, model_of_value, input_value}
use Rattle.vr_app.specs.Reply.{Reply, reply, reply_in, reply_to_found, reply_to_input, reply_to_model, reply_to_tree, with_reports}
use Rattle.vr_app.specs.Reports.{joined_reports}
use Rattle.vr_app.specs.Runs.{IsAskedFor}
use Rattle.vr_app.specs.Texts.{broken_tree, met_tree, refused_tree, status_tree, summary_tree}
use Rattle.vr_app.specs.Status.{status_number}
use Rattle.vr_app.specs.declared.answer.Answer.{Answer}
use Rattle.vr_app.specs.declared.status.Status.TheVariants as all
use Rattle.vr_app.specs.declared.texts.Summary.{Summary}
use Rattle.vr_app.specs.declared.words.Mode.{Mode}
use Rattle.vr_app.specs.declared.words.Mode.TheVariants as mode
use Rattle.vr_app.specs.declared.words.Request.{Request}
use Rattle.vr_app.specs.declared.words.Task.TheVariants as task
use Rattle.vr_app.proofs.InputLemmas.{of_input}
use Rattle.vr_app.proofs.SolutionLemmas.{found-printed}

-- a tree that may be printed: no float stands in it, and it is not too deep
pub record IsPrintable (d : Data) : Type 0 where
  pub whole : has_float d ≡ false
  pub nested : depth d ≤ max_depth

pub status-printable : (status : List ℕ) → IsPrintable (status_tree status)
unfolding status_tree
status-printable status = record { whole = refl; nested = omega arith }

pub refused-printable : (fault : Fault) → IsPrintable (refused_tree fault)
unfolding refused_tree
refused-printable fault = record { whole = refl; nested = omega arith }

pub met-printable : (cost : ℤ) → IsPrintable (met_tree cost)
unfolding met_tree
met-printable cost = record { whole = simp is_float-whole; nested = omega arith }

pub broken-printable : (rule : List ℕ) (vehicle place : ℤ) → IsPrintable (broken_tree rule vehicle place)
unfolding broken_tree
broken-printable rule vehicle place = record { whole = simp is_float-whole; nested = omega arith }

pub summary-printable : (summary : Summary) → IsPrintable (summary_tree summary)
unfolding summary_tree
summary-printable summary = record { whole = simp is_float-whole; nested = omega arith }

-- ---- a reply of status 0 has the text of a solution

module _ (asked : Mode) (reports : List Event → List ℕ) (bytes : List ℕ) where
  abbrev AnsweredWhere : Reply → Type 0
  AnsweredWhere reply = reply.status ≡ 0 → IsAnsweredBy asked reports bytes reply.text

  found-answered : (d : Data) (model : Model) → length bytes ≤ max_input → input_value bytes ≡ Some d → model_of_value d ≡ Ok model
      → (o : Option (List (List ℕ))) → first_lists model ≡ o → AnsweredWhere (reply_to_found asked reports model (option_map (found_from asked model) o))
  found-answered d model short some is None e zero = absurd (omega arith)
  found-answered d model short some is (Some lists) e zero = record {
    model = model;
    found = found_from asked model lists;
    is_model = record { short = short; value = d; is_value = some; is_read = is };
    is_found = ap (option_map (found_from asked model)) e;
    prints = found-printed asked model lists (well_formed_from_read _ d model is) (first_lists-valid model lists e) (λ first. first_lists model ≡ Some first) e;
    text_is = refl;
  }

  model-answered : (d : Data) → length bytes ≤ max_input → input_value bytes ≡ Some d
      → (m : Result Model Fault) → model_of_value d ≡ m → AnsweredWhere (reply_to_model asked reports m)
  model-answered d short some (Err fault) is zero = absurd (omega arith)
  model-answered d short some (Ok model) is zero = found-answered d model short some is (first_lists model) refl zero

  input-answered : AnsweredWhere (reply_to_input (task.Find asked) reports bytes)
  input-answered =
      of_input (reply_to_tree (task.Find asked) reports) bytes AnsweredWhere (λ long zero. absurd (omega arith)) (λ short none zero. absurd (omega arith))
      (λ d short some. model-answered d short some (model_of_value d) refl)

  pub reply-answered : (words : List (List ℕ)) → IsAskedFor asked words
      → (reply reports words bytes).status ≡ 0 → IsAnsweredBy asked reports bytes (reply reports words bytes).text
  reply-answered words is =
      let P : Option Request → Type 0 = λ o. AnsweredWhere (reply_in reports o bytes) in
      subst P (sym is) input-answered

-- ---- what watchers report

-- after they were told of all events, it is what they would have reported of these
pub told-joined : {W : Type 0} (after : W → List Event → List ℕ) (old new : List W) (events : List Event)
    → Reported after old new events → joined_reports after new [] ≡ joined_reports after old events
told-joined after old new events told =
    sym (flat_map-map (λ text. text) (λ w. after w []) new)
    ∙ ap (flat_map (λ text. text)) (told.heard [])
    ∙ flat_map-map (λ text. text) (λ w. after w (events ++ [])) old
    ∙ ap (joined_reports after old) (append-nil events)

-- reports count where they are asked for alone
pub same-reports : (asked : Mode) (line old new : List ℕ) → (asked ≡ mode.Log → new ≡ old) → with_reports asked line new ≡ with_reports asked line old
same-reports mode.First line old new same = refl
same-reports mode.Solve line old new same = refl
same-reports mode.Log line old new same = ap (λ reports. line ++ reports) (same refl)

-- the answer that has the line of what was found, and behind it what watchers report now, is the reply
pub done-replies : (asked : Mode) (reports : List Event → List ℕ) (model : Model) (line now : List ℕ) (given : Answer)
    → (o : Option Found) → Some line ≡ option_map (line_of_found model) o → (asked ≡ mode.Log → now ≡ reports (found_events o))
    → AnswersWith all.Done (with_reports asked line now) given → AnswersReply (reply_to_found asked reports model o) given
done-replies asked reports model line now given None found same is = absurd cc
done-replies asked reports model line now given (Some found) line_is same is =
    let e : line ≡ line_of_found model found = cc in record {
      status_is = ap status_number is.status_is;
      text_is = is.text_is ∙ ap (λ text. with_reports asked text now) e
          ∙ same-reports asked (line_of_found model found) (reports found.outcome.events) now same;
    }

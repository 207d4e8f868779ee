-- What the reply to a question about a solution says of the input.
use Rattle.std.proofs.Common.{◌≡◌, ◌∙◌, ◌≤◌, ◌↔◌, ℕ, List, [], Bool, true, false, Option, Some, None, Result, Ok, Err, refl, ap, sym, subst, arith, length}
use Rattle.std.specs.Prelude.{IsTrue}
use Rattle.serde_json.specs.Data.{Data}
use Rattle.vr_json.specs.Trees.{text_line}
use Rattle.vr_json.specs.declared.fault.Fault.{Fault}
use Rattle.std.specs.Result.{IsErrAnd}
use Rattle.vr_json.specs.Reading.{Answers, seen}
use Rattle.vr_json.specs.declared.fault.ReadFail.{ReadFail}
use Rattle.vr_json.specs.declared.fault.ReadFail.TheVariants.{Refused}
use Rattle.vr_json.proofs.Readings.{Ensures, after, any_value, gives}
use Rattle.vr_model.specs.declared.search.Event.{Event}
use Rattle.vr_model.specs.tables.WellFormed.{IsWellFormed}
use Rattle.vr_given.proofs.GivenLemmas.{model_field_ensures}
use Rattle.vr_check.proofs.AllMet.{met_keeps_all_rules}
use Rattle.vr_check.specs.declared.finding.Finding.{Finding}
use Rattle.vr_check.specs.declared.finding.Finding.TheVariants.{Meets, Broken}
use Rattle.vr_app.specs.Causes.{HasFault, IsNotJson, IsReadAs, IsTooLong}
use Rattle.vr_app.specs.Checked.{Checked, checked_at, checked_of, found_in, is_met}
use Rattle.vr_app.specs.Input.{max_input, input_value}
use Rattle.vr_printed.specs.Printed.{assignment_of}
use Rattle.vr_app.specs.Met.{IsBrokenBy, HasKept, IsMetBy, IsSpannedBy}
use Rattle.vr_app.specs.Spans.{printed_assignment, spans_of, spans_tree}
use Rattle.vr_app.specs.Reply.{Reply, answer_tree, not_json, reply, reply_in, reply_to_checked, reply_to_finding, reply_to_input, reply_to_json, reply_to_tree}
use Rattle.vr_app.specs.Reply.{too_long}
use Rattle.vr_app.specs.Runs.{Asks, ReadsInput, ReadsJson}
use Rattle.vr_app.specs.Texts.{refused_tree}
use Rattle.vr_app.specs.Words.{is_read, reads_json, request_of}
use Rattle.vr_app.specs.declared.words.Question.{Question}
use Rattle.vr_app.specs.declared.words.Question.TheVariants as question
use Rattle.vr_app.specs.declared.words.Request.{Request}
use Rattle.vr_app.specs.declared.words.Request.TheVariants as request
use Rattle.vr_app.specs.declared.words.Task.TheVariants as task
use Rattle.vr_app.proofs.CauseLemmas.{Classifies, done-classifies, fault-classifies, input-classifies, of_input-classifies, undone-classifies}
use Rattle.vr_app.proofs.FileLemmas.{file-classifies}
use Rattle.vr_app.proofs.GeneratedLemmas.{demo-done, generated-done}
use Rattle.vr_app.proofs.InputLemmas.{of_input, reply-short}
use Rattle.vr_app.proofs.SpanLemmas.{reports_shortest}

-- ---- what is read

-- a failure stays one, of a function of the value
pub seen_fails : {A B : Type 0} (P : ReadFail → Type 0) (g : A → B) (r : Result A ReadFail) → IsErrAnd r P → IsErrAnd (seen g r) P
seen_fails P g (Ok x) h = absurd h
seen_fails P g (Err e) h = h

-- a refusal stays one, of a function of the value
pub seen_fault : {A B : Type 0} (g : A → B) (r : Result A ReadFail) (f h : Fault) → f ≡ h → Answers r (Err f) → Answers (seen g r) (Err h)
seen_fault g (Ok x) f h e a = let k = a.value in absurd cc
seen_fault g (Err fail) f h e a = record {
  value = tt;
  refused = λ fault is. let same : fail ≡ Refused fault = cc in let known = a.refused fault (ap Err same) in let k : f ≡ fault = cc in ap Err (sym e ∙ k);
}

checked_ensures : (d : Data) → Ensures (λ it. IsWellFormed it.model) (checked_of d)
unfolding checked_at
checked_ensures d =
    after (model_field_ensures [] d) λ model well.
    after any_value λ solution _.
    after any_value λ others _.
    gives well

pub checked-well_formed : (d : Data) (it : Checked) → checked_of d ≡ Ok it → IsWellFormed it.model
checked-well_formed d it is = (checked_ensures d).of_value it is

-- ---- which inputs have a status

abbrev pub meets : Checked → Type 0
meets it = IsTrue (is_met (found_in it))

abbrev pub breaks : Checked → Type 0
breaks it = is_met (found_in it) ≡ false

abbrev pub ClassifiesMet : List ℕ → ℕ → Type 0
ClassifiesMet bytes status = Classifies checked_of 9 meets breaks bytes status

module _ (asked : Question) (reports : List Event → List ℕ) (bytes : List ℕ) where
  module _ (d : Data) (short : length bytes ≤ max_input) (some : input_value bytes ≡ Some d) where
    finding-classifies : (it : Checked) → checked_of d ≡ Ok it → (f : Finding) → found_in it ≡ f → ClassifiesMet bytes (reply_to_finding asked it f).status
    finding-classifies it is (Meets cost) e =
        done-classifies checked_of 9 meets breaks (omega arith) (λ e. absurd (omega arith))
        bytes d short some it is (ap is_met e) (λ h. let k = sym (ap is_met e) ∙ h in absurd cc)
    finding-classifies it is (Broken rule vehicle place) e =
        undone-classifies checked_of 9 meets breaks (omega arith) (λ e. absurd (omega arith))
        bytes d short some it is (ap is_met e) (λ h. let k = sym (ap is_met e) ∙ h in absurd cc)

    checked-classifies : (m : Result Checked Fault) → checked_of d ≡ m → ClassifiesMet bytes (reply_to_checked asked m).status
    checked-classifies (Err fault) is = fault-classifies checked_of 9 meets breaks (omega arith) (λ e. absurd (omega arith)) bytes d short some fault is
    checked-classifies (Ok it) is = finding-classifies it is (found_in it) refl

  check-classifies : ClassifiesMet bytes (reply_to_input (task.Ask asked) reports bytes).status
  check-classifies =
      of_input-classifies checked_of 9 meets breaks (omega arith) (λ e. absurd (omega arith)) bytes
      (reply_to_tree (task.Ask asked) reports) (λ d short some. checked-classifies d short some (checked_of d) refl)

  check-refused : (fault : Fault) → HasFault checked_of bytes fault → (reply_to_input (task.Ask asked) reports bytes).text ≡ text_line (refused_tree fault)
  check-refused fault r =
      ap (λ reply. reply.text) (reply-short (reply_to_tree (task.Ask asked) reports) bytes r.short
      ∙ ap (reply_to_json (reply_to_tree (task.Ask asked) reports)) r.is_value ∙ ap (reply_to_checked asked) r.is_fault)

-- ---- what the text says

-- the solution keeps all rules of its model, and the text answers the question about it
pub record IsKeptBy (asked : Question) (bytes text : List ℕ) : Type 0 where
  pub kept : HasKept bytes
  pub text_is : text ≡ text_line (answer_tree asked kept.it kept.cost)

-- a reply answers the question about a solution that keeps all rules, or says the rule that is broken
pub record Finds (asked : Question) (bytes : List ℕ) (answer : Reply) : Type 0 where
  pub met : answer.status ≡ 0 → IsKeptBy asked bytes answer.text
  pub broken : answer.status ≡ 9 → IsBrokenBy bytes answer.text

-- so does one of another status
finds_none : (asked : Question) (bytes : List ℕ) (answer : Reply) → (answer.status ≡ 0 → ⊥) → (answer.status ≡ 9 → ⊥) → Finds asked bytes answer
finds_none asked bytes answer not_0 not_9 = record { met = λ e. absurd (not_0 e); broken = λ e. absurd (not_9 e) }

module _ (asked : Question) (reports : List Event → List ℕ) (bytes : List ℕ) where
  finding-finds : (it : Checked) → IsWellFormed it.model → IsReadAs checked_of bytes it
      → (f : Finding) → found_in it ≡ f → Finds asked bytes (reply_to_finding asked it f)
  finding-finds it well is (Meets cost) e =
      let k = met_keeps_all_rules it.model it.solution cost well e in record {
        met = λ zero. record {
          kept = record { it = it; printed = k.0; cost = cost; is_read = is; is_found = e; is_printed = k.1; keeps = k.2 };
          text_is = refl;
        };
        broken = λ nine. absurd (omega arith);
      }
  finding-finds it well is (Broken rule vehicle place) e = record {
    met = λ zero. absurd (omega arith);
    broken = λ nine. record { it = it; rule = rule; vehicle = vehicle; place = place; is_read = is; is_found = e; text_is = refl };
  }

  checked-finds : (d : Data) → length bytes ≤ max_input → input_value bytes ≡ Some d
      → (m : Result Checked Fault) → checked_of d ≡ m → Finds asked bytes (reply_to_checked asked m)
  checked-finds d short some (Err fault) is = finds_none asked bytes _ (λ e. absurd (omega arith)) (λ e. absurd (omega arith))
  checked-finds d short some (Ok it) is =
      finding-finds it (checked-well_formed d it is) (record { short = short; value = d; is_value = some; is_read = is }) (found_in it) refl

  check-finds : Finds asked bytes (reply_to_input (task.Ask asked) reports bytes)
  check-finds = of_input (reply_to_tree (task.Ask asked) reports) bytes (Finds asked bytes)
      (λ long. finds_none asked bytes too_long (λ e. absurd (omega arith)) (λ e. absurd (omega arith)))
      (λ short none. finds_none asked bytes not_json (λ e. absurd (omega arith)) (λ e. absurd (omega arith)))
      (λ d short some. checked-finds d short some (checked_of d) refl)

-- what is so of `check`, and of `spans`
pub kept-met : (bytes text : List ℕ) → IsKeptBy question.Check bytes text → IsMetBy bytes text
kept-met bytes text is = record { kept = is.kept; text_is = is.text_is }

pub kept-spanned : (bytes text : List ℕ) → IsKeptBy question.Spans bytes text → IsSpannedBy bytes text
unfolding spans_of
kept-spanned bytes text is =
    let kept = is.kept in record {
      kept = kept;
      shortest = reports_shortest kept.it.model (assignment_of kept.printed.routes) kept.keeps.plans_are_schedules;
      text_is = is.text_is ∙ ap (λ printed. text_line (spans_tree kept.it.model (printed_assignment printed))) kept.is_printed;
    }

module _ (asked : Question) (reports : List Event → List ℕ) (words : List (List ℕ)) (bytes : List ℕ) (asks : Asks asked words) where
  pub asked_words-classify : ClassifiesMet bytes (reply reports words bytes).status
  asked_words-classify =
      let P : Option Request → Type 0 = λ o. ClassifiesMet bytes (reply_in reports o bytes).status in
      subst P (sym asks) (check-classifies asked reports bytes)

  pub asked_words-find : Finds asked bytes (reply reports words bytes)
  asked_words-find = let P : Option Request → Type 0 = λ o. Finds asked bytes (reply_in reports o bytes) in subst P (sym asks) (check-finds asked reports bytes)

  -- a refusal says the fault
  pub asked_words-refused : (fault : Fault) → HasFault checked_of bytes fault → (reply reports words bytes).text ≡ text_line (refused_tree fault)
  asked_words-refused fault r = ap (λ o. (reply_in reports o bytes).text) asks ∙ check-refused asked reports bytes fault r

-- ---- words that read

-- which inputs are too long or no JSON, whatever these words ask of them
pub record ClassifiesText (words : List (List ℕ)) (bytes : List ℕ) (status : ℕ) : Type 0 where
  pub too_long : (status ≡ 8) ↔ IsTooLong bytes
  pub not_json : (status ≡ 4) ↔ (ReadsJson words × IsNotJson bytes)

pub read-classifies : (reports : List Event → List ℕ) (words : List (List ℕ)) (bytes : List ℕ)
    → ReadsInput words → ClassifiesText words bytes (reply reports words bytes).status
read-classifies reports words bytes h = record { too_long = long (request_of words) h; not_json = json (request_of words) }
  where
    long : (o : Option Request) → is_read o ≡ true → ((reply_in reports o bytes).status ≡ 8) ↔ IsTooLong bytes
    long None h = absurd cc
    long (Some (request.Read (task.Find asked))) h = (input-classifies asked reports bytes).too_long
    long (Some (request.Read (task.Ask asked))) h = (check-classifies asked reports bytes).too_long
    long (Some (request.Import vehicles)) h = (file-classifies vehicles bytes).too_long
    long (Some (request.Generate n)) h = absurd cc
    long (Some (request.Demo n)) h = absurd cc

    with_json : {A B : Type 0} (b : Bool) → b ≡ true → A ↔ B → A ↔ ((b ≡ true) × B)
    with_json b e same = (λ a. (e, same.0 a), λ h. same.1 h.1)

    json : (o : Option Request) → ((reply_in reports o bytes).status ≡ 4) ↔ ((reads_json o ≡ true) × IsNotJson bytes)
    json None = (λ e. absurd (omega arith), λ h. absurd (let k = h.0 in cc))
    json (Some (request.Read (task.Find asked))) = with_json true refl (input-classifies asked reports bytes).not_json
    json (Some (request.Read (task.Ask asked))) = with_json true refl (check-classifies asked reports bytes).not_json
    json (Some (request.Import vehicles)) = (λ e. absurd ((file-classifies vehicles bytes).json e), λ h. absurd (let k = h.0 in cc))
    json (Some (request.Generate n)) = (λ e. absurd (omega (arith, e, generated-done n)), λ h. absurd (let k = h.0 in cc))
    json (Some (request.Demo n)) = (λ e. absurd (omega (arith, e, demo-done n)), λ h. absurd (let k = h.0 in cc))

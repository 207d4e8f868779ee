-- What holds of a run, by how it ends.
use Rattle.std.proofs.Common.{◌≡◌, ◌∙◌, ◌⊎◌, ℕ, List, [], Option, ap, sym, subst}
use Rattle.vr_io.specs.Edges.{Took}
use Rattle.serde_json.specs.Data.{Data}
use Rattle.vr_json.specs.Trees.{text_line}
use Rattle.vr_json.specs.declared.fault.Fault.{Fault}
use Rattle.vr_model.specs.declared.search.Event.{Event}
use Rattle.vr_app.specs.Causes.{HasFault, HasFlaw, IsAnsweredBy, IsImportedAs}
use Rattle.vr_app.specs.Checked.{checked_of}
use Rattle.vr_app.specs.Ended.{Ran}
use Rattle.vr_app.specs.Input.{model_of_value}
use Rattle.vr_app.specs.Met.{IsBrokenBy, IsMetBy, IsSpannedBy}
use Rattle.vr_app.specs.Reply.{reply, reply_in, reply_to_file}
use Rattle.vr_app.specs.Runs.{Imports, IsAskedFor, IsAsking, AsksCheck, IsNotAccepted, IsStatusOfAnswer, IsSolutionAsked, AsksSpans, ReadsNothing}
use Rattle.vr_app.specs.Runs.{WhereAnswered, WhereAsked, WhereImported, WhereSolved, WhereKnown}
use Rattle.vr_app.specs.Texts.{refused_tree}
use Rattle.vr_app.specs.Words.{is_read}
use Rattle.vr_app.specs.declared.words.Mode.{Mode}
use Rattle.vr_app.specs.declared.words.Question.TheVariants as question
use Rattle.vr_app.specs.declared.words.Request.{Request}
use Rattle.vr_app.proofs.CauseLemmas.{ClassifiesFirst, solved-refused, solved-classifies}
use Rattle.vr_app.proofs.EndLemmas.{not_met_only, replies, settled_0, settled_5, settled_9, settled_by, unread}
use Rattle.vr_app.proofs.GeneratedLemmas.{or-else, unread-done}
use Rattle.vr_app.proofs.FileLemmas.{ClassifiesFile, file-refused, file-classifies, file-reported}
use Rattle.vr_app.proofs.MetLemmas.{ClassifiesMet, ClassifiesText, asked_words-find, asked_words-refused, asked_words-classify, kept-met, kept-spanned}
use Rattle.vr_app.proofs.MetLemmas.{read-classifies}
use Rattle.vr_app.proofs.ReplyLemmas.{reply-answered}

module _ {K : Type 0} {written : K → Option (List ℕ)} {faults : K → ℕ} {reports : List Event → List ℕ} {words : List (List ℕ)}
    {left_before left_after : Option (List ℕ)} {read_faults_before read_faults_after : ℕ} {old new : K} {status : ℕ}
    (ran : Ran written faults reports words left_before left_after read_faults_before read_faults_after old new status) where
  -- which inputs have the status
  pub classifies-text : WhereAnswered words left_before status (λ bytes. ClassifiesText words bytes status)
  classifies-text settled reads bytes known =
      subst (ClassifiesText words bytes) (sym (replies ran.by settled bytes known).status) (read-classifies reports words bytes reads)

  pub classifies-first : WhereSolved words left_before status (λ bytes. ClassifiesFirst bytes status)
  classifies-first settled solves bytes known =
      subst (ClassifiesFirst bytes) (sym (replies ran.by settled bytes known).status) (solved-classifies reports words bytes solves)

  pub classifies-met : WhereAsked words left_before status (λ bytes. ClassifiesMet bytes status)
  classifies-met settled asks bytes known =
      subst (ClassifiesMet bytes) (sym (replies ran.by settled bytes known).status) (asked_words-classify asks.0 reports words bytes asks.1)

  pub classifies-file : WhereImported words left_before status (λ vehicles bytes. ClassifiesFile vehicles bytes status)
  classifies-file settled vehicles imports bytes known =
      let P : Option Request → Type 0 = λ o. ClassifiesFile vehicles bytes (reply_in reports o bytes).status in
      subst (ClassifiesFile vehicles bytes) (sym (replies ran.by settled bytes known).status) (subst P (sym imports) (file-classifies vehicles bytes))

  -- which texts are written
  pub solution : status ≡ 0 → (asked : Mode) → IsAskedFor asked words
      → WhereKnown left_before (λ bytes. (text : List ℕ) × IsAnsweredBy asked reports bytes text × Took (written old) (written new) text)
  solution e asked is bytes known =
      let r = replies ran.by (settled_by settled_0 e) bytes known in
      ((reply reports words bytes).text, reply-answered asked reports bytes words is (sym r.status ∙ e), r.written)

  pub kept : status ≡ 0 → AsksCheck words → WhereKnown left_before (λ bytes. (text : List ℕ) × IsMetBy bytes text × Took (written old) (written new) text)
  kept e checks bytes known =
      let r = replies ran.by (settled_by settled_0 e) bytes known in
      ((reply reports words bytes).text, kept-met bytes _ ((asked_words-find question.Check reports words bytes checks).met (sym r.status ∙ e)), r.written)

  pub spans : status ≡ 0 → AsksSpans words → WhereKnown left_before (λ bytes. (text : List ℕ) × IsSpannedBy bytes text × Took (written old) (written new) text)
  spans e asks bytes known =
      let r = replies ran.by (settled_by settled_0 e) bytes known in
      ((reply reports words bytes).text, kept-spanned bytes _ ((asked_words-find question.Spans reports words bytes asks).met (sym r.status ∙ e)), r.written)

  pub model : status ≡ 0 → (vehicles : ℕ) → Imports vehicles words
      → WhereKnown left_before (λ bytes. (tree : Data) × IsImportedAs vehicles bytes tree × Took (written old) (written new) (text_line tree))
  model e vehicles imports bytes known =
      let r = replies ran.by (settled_by settled_0 e) bytes known in
      let same : reply reports words bytes ≡ reply_to_file vehicles bytes = ap (λ o. reply_in reports o bytes) imports in
      let is = file-reported vehicles bytes (sym (ap (λ reply. reply.status) same) ∙ sym r.status ∙ e) in
      (is.0, is.1, subst (Took (written old) (written new)) (ap (λ reply. reply.text) same ∙ is.2) r.written)

  pub flaw : status ≡ 5 → (vehicles : ℕ) → Imports vehicles words
      → WhereKnown left_before (λ bytes. (fault : Fault) → HasFlaw vehicles bytes fault → Took (written old) (written new) (text_line (refused_tree fault)))
  flaw e vehicles imports bytes known fault has =
      let same : reply reports words bytes ≡ reply_to_file vehicles bytes = ap (λ o. reply_in reports o bytes) imports in
      subst (Took (written old) (written new)) (ap (λ reply. reply.text) same ∙ file-refused vehicles bytes fault has)
      (replies ran.by (settled_by settled_5 e) bytes known).written

  pub broken : status ≡ 9 → WhereKnown left_before (λ bytes. (text : List ℕ) × IsBrokenBy bytes text × Took (written old) (written new) text)
  broken e bytes known =
      let r = replies ran.by (settled_by settled_9 e) bytes known in
      let asks = not_met_only ran.by e in
      ((reply reports words bytes).text, (asked_words-find asks.0 reports words bytes asks.1).broken (sym r.status ∙ e), r.written)

  pub refusal : status ≡ 5 → IsSolutionAsked words → WhereKnown left_before
      (λ bytes. (fault : Fault) → HasFault model_of_value bytes fault → Took (written old) (written new) (text_line (refused_tree fault)))
  refusal e solves bytes known fault has = subst (Took (written old) (written new))
      (solved-refused reports words bytes fault solves has) (replies ran.by (settled_by settled_5 e) bytes known).written

  pub check_refusal : status ≡ 5 → IsAsking words
      → WhereKnown left_before (λ bytes. (fault : Fault) → HasFault checked_of bytes fault → Took (written old) (written new) (text_line (refused_tree fault)))
  check_refusal e asks bytes known fault has = subst (Took (written old) (written new))
      (asked_words-refused asks.0 reports words bytes asks.1 fault has) (replies ran.by (settled_by settled_5 e) bytes known).written

  -- of words that read nothing
  pub usage : IsStatusOfAnswer status → IsNotAccepted words → status ≡ 1
  usage settled none = (unread ran.by settled (ap is_read none) []).status ∙ ap (λ o. (reply_in reports o []).status) none

  pub numbered : IsStatusOfAnswer status → ReadsNothing words → IsNotAccepted words ⊎ (status ≡ 0)
  numbered settled none = or-else (λ e. (unread ran.by settled none []).status ∙ e) (unread-done reports words [] none)

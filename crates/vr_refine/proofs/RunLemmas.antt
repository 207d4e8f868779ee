-- What holds of a run, by how it ends.
use Rattle.std.proofs.Common.{◌≡◌, ◌∙◌, ℕ, List, [], Option, Some, None, refl, ap, sym, subst, arith}
use Rattle.std.specs.Prelude.{◌≢◌}
use Rattle.vr_io.specs.Edges.{Took}
use Rattle.vr_json.specs.Trees.{text_line}
use Rattle.vr_json.specs.declared.fault.Fault.{Fault}
use Rattle.vr_model.specs.declared.search.Event.{Event}
use Rattle.vr_app.specs.Causes.{HasFault}
use Rattle.vr_app.specs.Runs.{IsStatusOfAnswer, WhereKnown, WhereSettled}
use Rattle.vr_app.specs.Texts.{refused_tree}
use Rattle.vr_app.specs.declared.words.Mode.{Mode}
use Rattle.vr_app.proofs.EndLemmas.{not_met_only, replies, settled_0, settled_4, settled_5, settled_8, settled_9, settled_by, unread}
use Rattle.vr_refine.specs.Causes.{IsFaultedBy, IsFoundBy, IsPricedBy}
use Rattle.vr_refine.specs.Ended.{Ran}
use Rattle.vr_given.specs.Givens.{given_of}
use Rattle.vr_refine.specs.Inputs.{priced_of}
use Rattle.vr_refine.specs.Promises.{AsksPrice, IsAskedFor, IsNotAccepted, IsSolutionAsked, ReadsInput}
use Rattle.vr_refine.specs.Reply.{reply, reply_in}
use Rattle.vr_refine.specs.Words.{is_read, request_of}
use Rattle.vr_refine.specs.declared.words.Request.{Request}
use Rattle.vr_refine.specs.declared.words.Request.TheVariants.{Find, Price}
use Rattle.vr_refine.proofs.PromiseLemmas.{ClassifiesFound, ClassifiesPriced, ClassifiesText, asked-classify, asked-found, asked-refused, read-classify}
use Rattle.vr_refine.proofs.PromiseLemmas.{words-classify, words-price, words-refused}

-- accepted words that ask for no price ask for a solution
pub solution_asked : (words : List (List ℕ)) (it : Request) → request_of words ≡ Some it → it ≢ Price → IsSolutionAsked words
solution_asked words Price is other = absurd (other refl)
solution_asked words (Find asked) is other = (asked, is)

module _ {K : Type 0} {written : K → Option (List ℕ)} {faults : K → ℕ} {reports : List Event → List ℕ} {words : List (List ℕ)}
    {left_before left_after : Option (List ℕ)} {read_faults_before read_faults_after : ℕ} {old new : K} {status : ℕ}
    (ran : Ran written faults reports words left_before left_after read_faults_before read_faults_after old new status) where
  -- which inputs have the status
  pub classifies-text : WhereSettled (ReadsInput words) left_before status (λ bytes. ClassifiesText bytes status)
  classifies-text settled reads bytes known =
      subst (ClassifiesText bytes) (sym (replies ran.by settled bytes known).status) (read-classify reports words bytes reads)

  pub classifies-priced : WhereSettled (AsksPrice words) left_before status (λ bytes. ClassifiesPriced bytes status)
  classifies-priced settled asks bytes known =
      subst (ClassifiesPriced bytes) (sym (replies ran.by settled bytes known).status) (words-classify reports words bytes asks)

  pub classifies-found : (asked : Mode) → WhereSettled (IsAskedFor asked words) left_before status (λ bytes. ClassifiesFound asked bytes status)
  classifies-found asked settled asks bytes known =
      subst (ClassifiesFound asked bytes) (sym (replies ran.by settled bytes known).status) (asked-classify reports words bytes asked asks)

  -- which texts are written
  pub price : status ≡ 0 → AsksPrice words → WhereKnown left_before (λ bytes. (text : List ℕ) × IsPricedBy bytes text × Took (written old) (written new) text)
  price e asks bytes known =
      let r = replies ran.by (settled_by settled_0 e) bytes known in
      ((reply reports words bytes).text, (words-price reports words bytes asks).priced (sym r.status ∙ e), r.written)

  pub broken : status ≡ 9 → WhereKnown left_before (λ bytes. (text : List ℕ) × IsFaultedBy bytes text × Took (written old) (written new) text)
  broken e bytes known =
      let r = replies ran.by (settled_by settled_9 e) bytes known in
      ((reply reports words bytes).text, (words-price reports words bytes (not_met_only ran.by e)).faulted (sym r.status ∙ e), r.written)

  pub refusal : status ≡ 5 → AsksPrice words
      → WhereKnown left_before (λ bytes. (fault : Fault) → HasFault priced_of bytes fault → Took (written old) (written new) (text_line (refused_tree fault)))
  refusal e asks bytes known fault has =
      subst (Took (written old) (written new)) (words-refused reports words bytes asks fault has) (replies ran.by (settled_by settled_5 e) bytes known).written

  pub solution : status ≡ 0 → (asked : Mode) → IsAskedFor asked words
      → WhereKnown left_before (λ bytes. (text : List ℕ) × IsFoundBy asked reports bytes text × Took (written old) (written new) text)
  solution e asked asks bytes known =
      let r = replies ran.by (settled_by settled_0 e) bytes known in
      ((reply reports words bytes).text, asked-found reports words bytes asked asks (sym r.status ∙ e), r.written)

  pub search_refusal : status ≡ 5 → (asked : Mode) → IsAskedFor asked words
      → WhereKnown left_before (λ bytes. (fault : Fault) → HasFault given_of bytes fault → Took (written old) (written new) (text_line (refused_tree fault)))
  search_refusal e asked asks bytes known fault has = subst (Took (written old) (written new))
      (asked-refused reports words bytes asked asks fault has) (replies ran.by (settled_by settled_5 e) bytes known).written

  -- of words that are not accepted
  pub usage : IsStatusOfAnswer status → IsNotAccepted words → status ≡ 1
  usage settled none = (unread ran.by settled (ap is_read none) []).status ∙ ap (λ o. (reply_in reports o []).status) none

  -- what is neither a failure nor refused words comes of accepted ones
  pub accepted : IsStatusOfAnswer status → status ≢ 1 → ReadsInput words
  accepted settled other = by (request_of words) refl
    where
      by : (o : Option Request) → request_of words ≡ o → ReadsInput words
      by None e = absurd (other (usage settled e))
      by (Some it) e = ap is_read e

  pub too_long_only : status ≡ 8 → ReadsInput words
  too_long_only e = accepted (settled_by settled_8 e) (λ one. omega (arith, e, one))

  pub not_json_only : status ≡ 4 → ReadsInput words
  not_json_only e = accepted (settled_by settled_4 e) (λ one. omega (arith, e, one))

  pub refused_only : status ≡ 5 → ReadsInput words
  refused_only e = accepted (settled_by settled_5 e) (λ one. omega (arith, e, one))

-- What holds of a run of any program, by how it ends.
use Rattle.std.proofs.Common.{◌≡◌, ◌∙◌, ◌⊎◌, ℕ, true, false, List, [], ◌∷◌, get_or, Option, Some, Result, Ok, Err, inl, inr, refl, ap, sym, subst, arith}
use Rattle.std.specs.Prelude.{◌≢◌, IfOk, IsErrOf}
use Rattle.vr_io.specs.Edges.{Rose, Took}
use Rattle.vr_io.specs.Whole.{TookFront}
use Rattle.vr_app.specs.Answers.{AnswersReply, IsOfAnswer}
use Rattle.vr_app.specs.Ended.{Ends, IsCut, IsSilent, IsAnswered, RanBy, RespondsBy}
use Rattle.vr_app.specs.Programs.{Program}
use Rattle.vr_app.specs.Reply.{Replies, Reply}
use Rattle.vr_app.specs.Runs.{IsStatusOfAnswer, WhereKnown}
use Rattle.vr_app.specs.Status.{status_number}
use Rattle.vr_app.specs.declared.answer.Answer.{Answer}
use Rattle.vr_app.specs.declared.status.Status.{Status}
use Rattle.vr_app.specs.declared.status.Status.TheVariants as all
use Rattle.vr_app.proofs.GeneratedLemmas.{or-else}

-- ---- statuses

-- the status of a number
abbrev status_of : ℕ → Status
status_of n =
    get_or (all.Done ∷ all.Usage ∷ all.ReadFault ∷ all.WriteFault ∷ all.NotJson
    ∷ all.Refused ∷ all.NoneFound ∷ all.NoMemory ∷ all.TooLong ∷ all.NotMet ∷ []) n all.Done

status_back : (status : Status) → status_of (status_number status) ≡ status
status_back all.Done = refl
status_back all.Usage = refl
status_back all.ReadFault = refl
status_back all.WriteFault = refl
status_back all.NotJson = refl
status_back all.Refused = refl
status_back all.NoneFound = refl
status_back all.NoMemory = refl
status_back all.TooLong = refl
status_back all.NotMet = refl

-- two statuses of one number are the same
pub same_status : (x y : Status) → status_number x ≡ status_number y → x ≡ y
same_status x y e = sym (status_back x) ∙ ap status_of e ∙ status_back y

pub settled_0 : IsStatusOfAnswer 0
settled_0 = record { is_read = λ e. absurd (omega arith); is_written = λ e. absurd (omega arith); has_memory = λ e. absurd (omega arith) }

pub settled_1 : IsStatusOfAnswer 1
settled_1 = record { is_read = λ e. absurd (omega arith); is_written = λ e. absurd (omega arith); has_memory = λ e. absurd (omega arith) }

pub settled_4 : IsStatusOfAnswer 4
settled_4 = record { is_read = λ e. absurd (omega arith); is_written = λ e. absurd (omega arith); has_memory = λ e. absurd (omega arith) }

pub settled_5 : IsStatusOfAnswer 5
settled_5 = record { is_read = λ e. absurd (omega arith); is_written = λ e. absurd (omega arith); has_memory = λ e. absurd (omega arith) }

pub settled_6 : IsStatusOfAnswer 6
settled_6 = record { is_read = λ e. absurd (omega arith); is_written = λ e. absurd (omega arith); has_memory = λ e. absurd (omega arith) }

pub settled_8 : IsStatusOfAnswer 8
settled_8 = record { is_read = λ e. absurd (omega arith); is_written = λ e. absurd (omega arith); has_memory = λ e. absurd (omega arith) }

pub settled_9 : IsStatusOfAnswer 9
settled_9 = record { is_read = λ e. absurd (omega arith); is_written = λ e. absurd (omega arith); has_memory = λ e. absurd (omega arith) }

pub settled_by : {n status : ℕ} → IsStatusOfAnswer n → status ≡ n → IsStatusOfAnswer status
settled_by is e = subst IsStatusOfAnswer (sym e) is

-- an answer has none of the statuses of failures
answer-settles : (status : Status) → IsOfAnswer status → IsStatusOfAnswer (status_number status)
answer-settles status (inl e) = settled_by settled_1 (ap status_number e)
answer-settles status (inr (inr e)) = settled_by settled_8 (ap status_number e)
answer-settles status (inr (inl (inl (inl (inl e))))) = settled_by settled_0 (ap status_number e)
answer-settles status (inr (inl (inl (inl (inr e))))) = settled_by settled_6 (ap status_number e)
answer-settles status (inr (inl (inl (inr e)))) = settled_by settled_5 (ap status_number e)
answer-settles status (inr (inl (inr (inl e)))) = settled_by settled_4 (ap status_number e)
answer-settles status (inr (inl (inr (inr e)))) = settled_by settled_9 (ap status_number e)

-- ---- how a run ends, by its status

module _ {K : Type 0} (written : K → Option (List ℕ)) (faults : K → ℕ) (P : Answer → Type 0) (failed : Type 0) (old new : K) (status : ℕ) where
  -- a status that is that of an answer is that of a written one
  pub end-written : Ends written faults P failed old new status → IsStatusOfAnswer status → IsAnswered P (written old) (written new) status
  end-written (inl is) settled = is
  end-written (inr (inl cut)) settled = absurd (settled.is_written cut.status_is)
  end-written (inr (inr (inl silent))) settled = absurd (settled.is_read silent.0.status_is)
  end-written (inr (inr (inr silent))) settled = absurd (settled.has_memory silent.status_is)

  -- where neither source nor sink failed, there is a written answer, or memory was wanting
  end-whole : Ends written faults P failed old new status → (failed → ⊥)
      → (Rose (faults old) (faults new) → ⊥) → (status ≡ 7) ⊎ IsAnswered P (written old) (written new) status
  end-whole (inl is) calm quiet = inr is
  end-whole (inr (inl cut)) calm quiet = absurd (quiet cut.fault)
  end-whole (inr (inr (inl silent))) calm quiet = absurd (calm silent.1)
  end-whole (inr (inr (inr silent))) calm quiet = inl silent.status_is

  module _ (settles : (answer : Answer) → P answer → IsStatusOfAnswer (status_number answer.status)) where
    end-cut : Ends written faults P failed old new status → status ≡ 3 → IsCut P (written old) (written new) (faults old) (faults new) status
    end-cut (inl is) e = absurd ((settles is.answer is.responds).is_written (sym is.status_is ∙ e))
    end-cut (inr (inl cut)) e = cut
    end-cut (inr (inr (inl silent))) e = absurd (omega (arith, e, silent.0.status_is))
    end-cut (inr (inr (inr silent))) e = absurd (omega (arith, e, silent.status_is))

    end-failed : Ends written faults P failed old new status → status ≡ 2 → IsSilent all.ReadFault old new status × failed
    end-failed (inl is) e = absurd ((settles is.answer is.responds).is_read (sym is.status_is ∙ e))
    end-failed (inr (inl cut)) e = absurd (omega (arith, e, cut.status_is))
    end-failed (inr (inr (inl silent))) e = silent
    end-failed (inr (inr (inr silent))) e = absurd (omega (arith, e, silent.status_is))

    end-starved : Ends written faults P failed old new status → status ≡ 7 → IsSilent all.NoMemory old new status
    end-starved (inl is) e = absurd ((settles is.answer is.responds).has_memory (sym is.status_is ∙ e))
    end-starved (inr (inl cut)) e = absurd (omega (arith, e, cut.status_is))
    end-starved (inr (inr (inl silent))) e = absurd (omega (arith, e, silent.0.status_is))
    end-starved (inr (inr (inr silent))) e = silent

-- what is delivered of an answer of which P holds
pub delivered : {K : Type 0} (written : K → Option (List ℕ)) (faults : K → ℕ) (P Q : Answer → Type 0) (failed cause : Type 0) (old new : K) (status : ℕ)
    → ((answer : Answer) → P answer → Q answer) → (failed → cause) → Ends written faults P failed old new status → Ends written faults Q cause old new status
delivered written faults P Q failed cause old new status f g (inl is) =
    inl (record { answer = is.answer; responds = f is.answer is.responds; status_is = is.status_is; took = is.took })
delivered written faults P Q failed cause old new status f g (inr (inl cut)) =
    inr (inl (record { answer = cut.answer; responds = f cut.answer cut.responds; status_is = cut.status_is; took = cut.took; fault = cut.fault }))
delivered written faults P Q failed cause old new status f g (inr (inr (inl silent))) = inr (inr (inl (silent.0, g silent.1)))
delivered written faults P Q failed cause old new status f g (inr (inr (inr silent))) = inr (inr (inr silent))

-- what holds of the value of a result holds of the value that it is
pub of_ok : {A E : Type 0} {r : Result A E} (P : A → Type 0) → IfOk r P → (x : A) → r ≡ Ok x → P x
of_ok P h x e = subst (λ r. IfOk r P) e h

-- a result that is an error is that error
pub of_err : {A E : Type 0} {r : Result A E} {e : E} → r ≡ Err e → IsErrOf r e
of_err {e = e} is = subst (λ r. IsErrOf r e) (sym is) refl

-- ---- the clauses of a run

module _ {K : Type 0} {written : K → Option (List ℕ)} {faults : K → ℕ} {program : Program} {unknown asking : Type 0}
    {words : List (List ℕ)} {left_before left_after : Option (List ℕ)} {read_faults_before read_faults_after : ℕ} {old new : K} {status : ℕ}
    (ran : RanBy written faults program unknown asking words left_before left_after read_faults_before read_faults_after old new status) where
  abbrev P : Answer → Type 0
  P = RespondsBy program unknown asking words left_before left_after

  abbrev F : Type 0
  F = Rose read_faults_before read_faults_after × (program.is_read words ≡ true)

  settles : (answer : Answer) → P answer → IsStatusOfAnswer (status_number answer.status)
  settles answer is = answer-settles answer.status is.settled

  is_written : IsStatusOfAnswer status → IsAnswered P (written old) (written new) status
  is_written = end-written written faults P F old new status ran.ends

  is_cut : status ≡ 3 → IsCut P (written old) (written new) (faults old) (faults new) status
  is_cut = end-cut written faults P F old new status settles ran.ends

  pub is_failed : status ≡ 2 → IsSilent all.ReadFault old new status × F
  is_failed = end-failed written faults P F old new status settles ran.ends

  pub is_starved : status ≡ 7 → IsSilent all.NoMemory old new status
  is_starved = end-starved written faults P F old new status settles ran.ends

  -- a written answer that is a reply
  written-replies : {r : Reply} (is : IsAnswered P (written old) (written new) status) → AnswersReply r is.answer → Replies r (written old) (written new) status
  written-replies is has = record { status = is.status_is ∙ has.status_is; written = subst (Took (written old) (written new)) has.text_is is.took }

  pub replies : IsStatusOfAnswer status → WhereKnown left_before (λ bytes. Replies (program.reply words bytes) (written old) (written new) status)
  replies settled bytes known = let is = is_written settled in written-replies is (is.responds.replies bytes known)

  pub unread : IsStatusOfAnswer status → program.is_read words ≡ false → (bytes : List ℕ)
      → Replies (program.reply words bytes) (written old) (written new) status
  unread settled none bytes = let is = is_written settled in written-replies is (is.responds.unread none bytes)

  pub usage_only : status ≡ 1 → unknown
  usage_only e = let is = is_written (settled_by settled_1 e) in is.responds.usage_only (same_status is.answer.status all.Usage (sym is.status_is ∙ e))

  pub not_met_only : status ≡ 9 → asking
  not_met_only e = let is = is_written (settled_by settled_9 e) in is.responds.not_met_only (same_status is.answer.status all.NotMet (sym is.status_is ∙ e))

  -- where the sink fails
  pub write_fault : status ≡ 3 → Rose (faults old) (faults new)
  write_fault e = (is_cut e).fault

  pub front : status ≡ 3 → WhereKnown left_before (λ bytes. TookFront (written old) (written new) (program.reply words bytes).text)
  front e bytes known = let is = is_cut e in subst (TookFront (written old) (written new)) (is.responds.replies bytes known).text_is is.took

  pub unread_front : status ≡ 3 → program.is_read words ≡ false → (bytes : List ℕ) → TookFront (written old) (written new) (program.reply words bytes).text
  unread_front e none bytes = let is = is_cut e in subst (TookFront (written old) (written new)) (is.responds.unread none bytes).text_is is.took

  -- where neither source nor sink fails
  whole : (F → ⊥) → (Rose (faults old) (faults new) → ⊥) → (status ≡ 7) ⊎ IsAnswered P (written old) (written new) status
  whole = end-whole written faults P F old new status ran.ends

  pub complete : WhereKnown left_before (λ bytes. (Rose read_faults_before read_faults_after → ⊥)
      → (Rose (faults old) (faults new) → ⊥) → (status ≡ 7) ⊎ Replies (program.reply words bytes) (written old) (written new) status)
  complete bytes known calm quiet = or-else (λ is. written-replies is (is.responds.replies bytes known)) (whole (λ f. calm f.0) quiet)

  pub complete_unread : program.is_read words ≡ false → (Rose (faults old) (faults new) → ⊥)
      → (bytes : List ℕ) → (status ≡ 7) ⊎ Replies (program.reply words bytes) (written old) (written new) status
  complete_unread none quiet bytes = or-else (λ is. written-replies is (is.responds.unread none bytes)) (whole (λ f. let k = sym f.1 ∙ none in absurd cc) quiet)

  -- the source was read to its end
  pub emptied : program.is_read words ≡ true → status ≢ 2 → status ≢ 7 → status ≢ 8
      → WhereKnown left_before (λ bytes. (status ≡ 3 → (program.reply words bytes).status ≢ 8) → left_after ≡ Some [])
  emptied reads read memory long bytes known cut_long = by ran.ends
    where
      by : Ends written faults P F old new status → left_after ≡ Some []
      by (inl is) = is.responds.emptied reads (λ e. long (is.status_is ∙ ap status_number e)) bytes known
      by (inr (inl is)) =
          is.responds.emptied reads (λ e. cut_long is.status_is (sym (is.responds.replies bytes known).status_is ∙ ap status_number e)) bytes known
      by (inr (inr (inl silent))) = absurd (read silent.0.status_is)
      by (inr (inr (inr silent))) = absurd (memory silent.status_is)

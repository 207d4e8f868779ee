-- What words ask for, by the status of an answer to them.
use Rattle.std.proofs.Common.{◌≡◌, ◌∙◌, ◌⊎◌, ◌≤◌, ℕ, true, List, Option, Some, None, inl, inr, refl, ap, sym, arith}
use Rattle.vr_app.specs.Answers.{AnswersReply, IsOfChecking, IsOfSolving}
use Rattle.vr_app.specs.Reply.{reply_of_demo}
use Rattle.vr_app.specs.Runs.{IsAsking, IsNotAccepted, IsSolutionAsked, ReadsInput, ReadsJson}
use Rattle.vr_app.specs.Status.{status_number}
use Rattle.vr_app.specs.Statuses.{IsOfRequest, SettlesAs}
use Rattle.vr_app.specs.Words.{is_read, reads_json, request_of}
use Rattle.vr_app.specs.declared.answer.Answer.{Answer}
use Rattle.vr_app.specs.declared.status.Status.{Status}
use Rattle.vr_app.specs.declared.status.Status.TheVariants as all
use Rattle.vr_app.specs.declared.words.Mode.{Mode}
use Rattle.vr_app.specs.declared.words.Question.{Question}
use Rattle.vr_app.specs.declared.words.Request.{Request}
use Rattle.vr_app.specs.declared.words.Request.TheVariants as request
use Rattle.vr_app.specs.declared.words.Task.TheVariants as task
use Rattle.vr_app.proofs.EndLemmas.{same_status, settled_4, settled_5, settled_6, settled_8, settled_by}
use Rattle.vr_app.proofs.GeneratedLemmas.{demo-done}

-- ---- statuses as numbers

-- of these statuses of an answer, that of this number is none
clash : (s t : Status) (n : ℕ) → s ≡ t → status_number s ≡ n → (status_number t ≡ n → ⊥) → ⊥
clash s t n e h never = never (ap status_number (sym e) ∙ h)

module _ (s : Status) (n : ℕ) (e : status_number s ≡ n) where
  -- a solution is asked for, where 9 comes not; else a question is, where 6 comes not
  no_9_solving : n ≡ 9 → IsOfSolving s ⊎ (s ≡ all.NotJson) ⊎ (s ≡ all.TooLong) → ⊥
  no_9_solving k (inl (inl (inl h))) = clash s _ n h e (λ m. omega (arith, m, k))
  no_9_solving k (inl (inl (inr h))) = clash s _ n h e (λ m. omega (arith, m, k))
  no_9_solving k (inl (inr h)) = clash s _ n h e (λ m. omega (arith, m, k))
  no_9_solving k (inr (inl h)) = clash s _ n h e (λ m. omega (arith, m, k))
  no_9_solving k (inr (inr h)) = clash s _ n h e (λ m. omega (arith, m, k))

  no_1_solving : n ≡ 1 → IsOfSolving s ⊎ (s ≡ all.NotJson) ⊎ (s ≡ all.TooLong) → ⊥
  no_1_solving k (inl (inl (inl h))) = clash s _ n h e (λ m. omega (arith, m, k))
  no_1_solving k (inl (inl (inr h))) = clash s _ n h e (λ m. omega (arith, m, k))
  no_1_solving k (inl (inr h)) = clash s _ n h e (λ m. omega (arith, m, k))
  no_1_solving k (inr (inl h)) = clash s _ n h e (λ m. omega (arith, m, k))
  no_1_solving k (inr (inr h)) = clash s _ n h e (λ m. omega (arith, m, k))

  no_6_checking : n ≡ 6 → IsOfChecking s ⊎ (s ≡ all.NotJson) ⊎ (s ≡ all.TooLong) → ⊥
  no_6_checking k (inl (inl h)) = clash s _ n h e (λ m. omega (arith, m, k))
  no_6_checking k (inl (inr (inl h))) = clash s _ n h e (λ m. omega (arith, m, k))
  no_6_checking k (inl (inr (inr h))) = clash s _ n h e (λ m. omega (arith, m, k))
  no_6_checking k (inr (inl h)) = clash s _ n h e (λ m. omega (arith, m, k))
  no_6_checking k (inr (inr h)) = clash s _ n h e (λ m. omega (arith, m, k))

  no_1_checking : n ≡ 1 → IsOfChecking s ⊎ (s ≡ all.NotJson) ⊎ (s ≡ all.TooLong) → ⊥
  no_1_checking k (inl (inl h)) = clash s _ n h e (λ m. omega (arith, m, k))
  no_1_checking k (inl (inr (inl h))) = clash s _ n h e (λ m. omega (arith, m, k))
  no_1_checking k (inl (inr (inr h))) = clash s _ n h e (λ m. omega (arith, m, k))
  no_1_checking k (inr (inl h)) = clash s _ n h e (λ m. omega (arith, m, k))
  no_1_checking k (inr (inr h)) = clash s _ n h e (λ m. omega (arith, m, k))

  -- of words that are not accepted only 1 comes, of words that read nothing only 0, of a file 0, 5 and 8
  no_other : (t : Status) → s ≡ t → (status_number t ≡ n → ⊥) → ⊥
  no_other t h never = clash s t n h e never

  no_file : ((n ≡ 0) ⊎ (n ≡ 5) ⊎ (n ≡ 8) → ⊥) → ((s ≡ all.Done) ⊎ (s ≡ all.Refused)) ⊎ (s ≡ all.TooLong) → ⊥
  no_file never (inl (inl h)) = no_other all.Done h (λ m. never (inl (sym m)))
  no_file never (inl (inr h)) = no_other all.Refused h (λ m. never (inr (inl (sym m))))
  no_file never (inr h) = no_other all.TooLong h (λ m. never (inr (inr (sym m))))

  -- ---- what is asked for

  asks_nothing : n ≡ 1 → (o : Option Request) → IsOfRequest o s → o ≡ None
  asks_nothing k None h = refl
  asks_nothing k (Some (request.Read (task.Find mode))) h = absurd (no_1_solving k h)
  asks_nothing k (Some (request.Read (task.Ask question))) h = absurd (no_1_checking k h)
  asks_nothing k (Some (request.Import vehicles)) h =
      absurd (no_file (λ m. elim m [ inl a ↦ omega (arith, a, k) | inr (inl a) ↦ omega (arith, a, k) | inr (inr a) ↦ omega (arith, a, k) ]) h)
  asks_nothing k (Some (request.Generate number)) h = absurd (no_other all.Done h (λ m. omega (arith, m, k)))
  asks_nothing k (Some (request.Demo number)) h = absurd (no_other all.Done h (λ m. omega (arith, m, k)))

  asks_solution : n ≡ 6 → (o : Option Request) → IsOfRequest o s → (mode : Mode) × (o ≡ Some (request.Read (task.Find mode)))
  asks_solution k None h = absurd (no_other all.Usage h (λ m. omega (arith, m, k)))
  asks_solution k (Some (request.Read (task.Find mode))) h = (mode, refl)
  asks_solution k (Some (request.Read (task.Ask question))) h = absurd (no_6_checking k h)
  asks_solution k (Some (request.Import vehicles)) h =
      absurd (no_file (λ m. elim m [ inl a ↦ omega (arith, a, k) | inr (inl a) ↦ omega (arith, a, k) | inr (inr a) ↦ omega (arith, a, k) ]) h)
  asks_solution k (Some (request.Generate number)) h = absurd (no_other all.Done h (λ m. omega (arith, m, k)))
  asks_solution k (Some (request.Demo number)) h = absurd (no_other all.Done h (λ m. omega (arith, m, k)))

  asks_question : n ≡ 9 → (o : Option Request) → IsOfRequest o s → (question : Question) × (o ≡ Some (request.Read (task.Ask question)))
  asks_question k None h = absurd (no_other all.Usage h (λ m. omega (arith, m, k)))
  asks_question k (Some (request.Read (task.Find mode))) h = absurd (no_9_solving k h)
  asks_question k (Some (request.Read (task.Ask question))) h = (question, refl)
  asks_question k (Some (request.Import vehicles)) h =
      absurd (no_file (λ m. elim m [ inl a ↦ omega (arith, a, k) | inr (inl a) ↦ omega (arith, a, k) | inr (inr a) ↦ omega (arith, a, k) ]) h)
  asks_question k (Some (request.Generate number)) h = absurd (no_other all.Done h (λ m. omega (arith, m, k)))
  asks_question k (Some (request.Demo number)) h = absurd (no_other all.Done h (λ m. omega (arith, m, k)))

  asks_json : n ≡ 4 → (o : Option Request) → IsOfRequest o s → reads_json o ≡ true
  asks_json k None h = absurd (no_other all.Usage h (λ m. omega (arith, m, k)))
  asks_json k (Some (request.Read it)) h = refl
  asks_json k (Some (request.Import vehicles)) h =
      absurd (no_file (λ m. elim m [ inl a ↦ omega (arith, a, k) | inr (inl a) ↦ omega (arith, a, k) | inr (inr a) ↦ omega (arith, a, k) ]) h)
  asks_json k (Some (request.Generate number)) h = absurd (no_other all.Done h (λ m. omega (arith, m, k)))
  asks_json k (Some (request.Demo number)) h = absurd (no_other all.Done h (λ m. omega (arith, m, k)))

  asks_input : 2 ≤ n → (o : Option Request) → IsOfRequest o s → is_read o ≡ true
  asks_input k None h = absurd (no_other all.Usage h (λ m. omega (arith, m, k)))
  asks_input k (Some (request.Read it)) h = refl
  asks_input k (Some (request.Import vehicles)) h = refl
  asks_input k (Some (request.Generate number)) h = absurd (no_other all.Done h (λ m. omega (arith, m, k)))
  asks_input k (Some (request.Demo number)) h = absurd (no_other all.Done h (λ m. omega (arith, m, k)))

-- the status of an answer tells what the words ask for
module _ (words : List (List ℕ)) (status : Status) (is : IsOfRequest (request_of words) status) where
  pub usage_of : status ≡ all.Usage → IsNotAccepted words
  usage_of e = asks_nothing status 1 (ap status_number e) refl (request_of words) is

  pub not_met_of : status ≡ all.NotMet → IsAsking words
  not_met_of e = asks_question status 9 (ap status_number e) refl (request_of words) is

-- so does the status of a run
module _ (words : List (List ℕ)) (given : ℕ) (settles : SettlesAs words given) where
  pub none_found_only : given ≡ 6 → IsSolutionAsked words
  none_found_only e = let is = settles (settled_by settled_6 e) in asks_solution is.0 6 (sym is.1 ∙ e) refl (request_of words) is.2

  pub too_long_only : given ≡ 8 → ReadsInput words
  too_long_only e = let is = settles (settled_by settled_8 e) in asks_input is.0 8 (sym is.1 ∙ e) (omega arith) (request_of words) is.2

  pub not_json_only : given ≡ 4 → ReadsJson words
  not_json_only e = let is = settles (settled_by settled_4 e) in asks_json is.0 4 (sym is.1 ∙ e) refl (request_of words) is.2

  pub refused_only : given ≡ 5 → ReadsInput words
  refused_only e = let is = settles (settled_by settled_5 e) in asks_input is.0 5 (sym is.1 ∙ e) (omega arith) (request_of words) is.2

-- a summary is given with 0
pub demo_is_done : (number : ℕ) (answer : Answer) → AnswersReply (reply_of_demo number) answer → answer.status ≡ all.Done
demo_is_done number answer is = same_status answer.status all.Done (is.status_is ∙ demo-done number)

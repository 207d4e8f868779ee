-- An answer of the code beside a reply.
use Rattle.std.specs.Prelude.{◌≡◌, ◌⊎◌, ℕ, List}
use Rattle.vr_app.specs.declared.status.Status.{Status}
use Rattle.vr_app.specs.declared.status.Status.TheVariants as all
use Rattle.vr_app.specs.Status.{status_number}
use Rattle.vr_app.specs.declared.answer.Answer.{Answer}
use Rattle.vr_app.specs.Reply.{Reply}

-- the answer has this status and this text
pub record AnswersWith (status : Status) (text : List ℕ) (answer : Answer) : Type 0 where
  pub status_is : answer.status ≡ status
  pub text_is : answer.text ≡ text

-- the answer is this reply
pub record AnswersReply (reply : Reply) (answer : Answer) : Type 0 where
  pub status_is : status_number answer.status ≡ reply.status
  pub text_is : answer.text ≡ reply.text

-- the status of an answer to a file
abbrev pub IsOfFile : Status → Type 0
IsOfFile status = (status ≡ all.Done) ⊎ (status ≡ all.Refused)

-- the status of an answer to a model
abbrev pub IsOfModel : Status → Type 0
IsOfModel status = (status ≡ all.Done) ⊎ (status ≡ all.NoneFound)

-- the status of an answer to a value that should be a model
abbrev pub IsOfSolving : Status → Type 0
IsOfSolving status = IsOfModel status ⊎ (status ≡ all.Refused)

-- the status of an answer to a value about whose solution something is asked
abbrev pub IsOfChecking : Status → Type 0
IsOfChecking status = (status ≡ all.Done) ⊎ (status ≡ all.NotMet) ⊎ (status ≡ all.Refused)

-- the status of an answer to an input that is not too long
abbrev pub IsOfShort : Status → Type 0
IsOfShort status = IsOfSolving status ⊎ (status ≡ all.NotJson) ⊎ (status ≡ all.NotMet)

-- the status of an answer to an input
abbrev pub IsOfInput : Status → Type 0
IsOfInput status = IsOfShort status ⊎ (status ≡ all.TooLong)

-- the status of an answer
abbrev pub IsOfAnswer : Status → Type 0
IsOfAnswer status = (status ≡ all.Usage) ⊎ IsOfInput status

-- How a call that reads a line step by step answers its definition: an answer names the steps that were made.
use Rattle.std.proofs.Common.{◌≡◌, ◌∙◌, Result, Ok, Err, refl, sym, ap, subst}
use Rattle.std.specs.Result.{IsErrAnd}
use Rattle.vr_json.specs.Reading.{and_then, seen}
use Rattle.vr_tsplib.specs.Flaws.{AnswersLine}
use Rattle.vr_tsplib.specs.declared.flaws.Flaw.{Flaw}
use Rattle.vr_tsplib.specs.declared.flaws.LineFail.{LineFail}
use Rattle.vr_tsplib.specs.declared.flaws.LineFail.TheVariants.{Flawed}

-- a step of the definition gave x, and the rest answers
pub known : {A B : Type 0} {r : Result A Flaw} {x : A} {a : Result B LineFail} (f : A → Result B Flaw)
    → r ≡ Ok x → AnswersLine a (f x) → AnswersLine a (and_then r f)
unfolding and_then
known f h k = rw h k

-- a step of the definition has a flaw, which is the answer
pub flawed : {A B : Type 0} {r : Result A Flaw} {flaw : Flaw} (a : Result B LineFail) (f : A → Result B Flaw)
    → r ≡ Err flaw → IsErrAnd a (λ e. e ≡ Flawed flaw) → AnswersLine a (and_then r f)
unfolding and_then
flawed (Ok x) f h same = absurd same
flawed {flaw = flaw} (Err e) f h same = record { value = tt; flawed = λ other is. let one : flaw ≡ other = cc in rw h (ap Err one) }

-- a call that may want memory gave x, and the rest answers
pub then : {A B : Type 0} {r : Result A Flaw} {x : A} {a : Result B LineFail} (f : A → Result B Flaw)
    → AnswersLine (Ok x) r → AnswersLine a (f x) → AnswersLine a (and_then r f)
then f h k = known f h.value k

-- such a call failed, and its failure is the answer
pub stops : {A B : Type 0} {r : Result A Flaw} {e : LineFail} (a : Result B LineFail) (f : A → Result B Flaw)
    → AnswersLine {A = A} (Err e) r → IsErrAnd a (λ d. d ≡ e) → AnswersLine a (and_then r f)
unfolding and_then
stops (Ok x) f h same = absurd same
stops {e = e} (Err d) f h same = record { value = tt; flawed = λ flaw is. let fails : e ≡ Flawed flaw = cc in rw (h.flawed flaw (ap Err fails)) refl }

-- the last step gives the value
pub gives : {A : Type 0} {x y : A} → x ≡ y → AnswersLine (Ok x) (Ok y)
gives e = record { value = ap Ok (sym e); flawed = λ flaw is. cc }

-- ---- of a function of the value that a call gave

-- a flaw stays one
pub fails_seen : {A B : Type 0} {reading : Result B Flaw} {flaw : Flaw} (g : A → B) (a : Result A LineFail)
    → reading ≡ Err flaw → IsErrAnd a (λ e. e ≡ Flawed flaw) → AnswersLine (seen g a) reading
fails_seen g (Ok x) h same = absurd same
fails_seen {flaw = flaw} g (Err e) h same = record { value = tt; flawed = λ other is. let one : flaw ≡ other = cc in h ∙ ap Err one }

-- the failure of a step is the answer
pub stops_seen : {A B C : Type 0} {r : Result B Flaw} {e : LineFail} (g : A → C) (a : Result A LineFail) (f : B → Result C Flaw)
    → AnswersLine {A = B} (Err e) r → IsErrAnd a (λ d. d ≡ e) → AnswersLine (seen g a) (and_then r f)
unfolding and_then
stops_seen g (Ok x) f h same = absurd same
stops_seen {e = e} g (Err d) f h same = record { value = tt; flawed = λ flaw is. let fails : e ≡ Flawed flaw = cc in rw (h.flawed flaw (ap Err fails)) refl }

-- ---- of a reading that is another one

pub line_value : {A : Type 0} {x : A} {reading : Result A Flaw} → reading ≡ Ok x → AnswersLine (Ok x) reading
line_value e = record { value = e; flawed = λ flaw is. cc }

pub changed : {A : Type 0} {a : Result A LineFail} {r s : Result A Flaw} → r ≡ s → AnswersLine a s → AnswersLine a r
changed {A} {a} e h = let P : Result A Flaw → Type 0 = λ r. AnswersLine a r in subst P (sym e) h

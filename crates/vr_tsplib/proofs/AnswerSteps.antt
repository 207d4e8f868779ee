-- How a call answers a reading whose lines were read one by one.
use Rattle.std.proofs.Common.{◌≡◌, ◌∙◌, ℕ, Result, Ok, Err, refl, sym, ap, subst}
use Rattle.std.specs.Result.{IsErrAnd}
use Rattle.vr_json.specs.declared.fault.Fault.{Fault}
use Rattle.vr_json.specs.declared.fault.ReadFail.{ReadFail}
use Rattle.vr_json.specs.declared.fault.ReadFail.TheVariants.{Refused, NoMemory as NoMemoryFail}
use Rattle.vr_json.specs.Reading.{Answers, and_then, seen}
use Rattle.vr_tsplib.specs.declared.flaws.Flaw.{Flaw}
use Rattle.vr_tsplib.specs.declared.flaws.LineFail.{LineFail}
use Rattle.vr_tsplib.specs.declared.flaws.LineFail.TheVariants.{Flawed, NoMemory}
use Rattle.vr_tsplib.specs.Flaws.{RefusesLine, AnswersLine, at_line, fault_in_line}

-- ---- a line

pub at_value : {A : Type 0} {x : A} {reading : Result A Flaw} (number : ℕ) → reading ≡ Ok x → at_line number reading ≡ Ok x
unfolding at_line
at_value number e = ap (at_line number) e

at_flaw : {A : Type 0} {flaw : Flaw} {reading : Result A Flaw} (number : ℕ) → reading ≡ Err flaw → at_line number reading ≡ Err (fault_in_line flaw number)
unfolding at_line
at_flaw number e = ap (at_line number) e

-- a line that is not taken is refused
pub refused : {A : Type 0} {reading : Result A Flaw} (fail : LineFail) (number : ℕ) (e : ReadFail)
    → AnswersLine {A = A} (Err fail) reading → RefusesLine fail number e → Answers {A = A} (Err e) (at_line number reading)
refused (Flawed flaw) number e h k = record {
  value = tt;
  refused = λ fault is. let one : e ≡ Refused fault = cc in at_flaw number (h.flawed flaw refl) ∙ ap Err (sym (k fault one));
}
refused NoMemory number e h k = record { value = tt; refused = λ fault is. let one : e ≡ Refused fault = cc in cc }

pub line_flaw : {A : Type 0} {flaw : Flaw} {reading : Result A Flaw} → reading ≡ Err flaw → AnswersLine {A = A} (Err (Flawed flaw)) reading
line_flaw {flaw = flaw} e = record { value = tt; flawed = λ other is. let one : flaw ≡ other = cc in e ∙ ap Err one }

-- ---- a reading

pub answers_value : {A : Type 0} {x : A} {reading : Result A Fault} → reading ≡ Ok x → Answers (Ok x) reading
answers_value e = record { value = e; refused = λ fault is. cc }

pub changed : {A : Type 0} {a : Result A ReadFail} {r s : Result A Fault} → r ≡ s → Answers a r → Answers a s
changed {A} {a} e h = let P : Result A Fault → Type 0 = λ r. Answers a r in subst P e h

-- the failure of a step is the answer
pub stops_seen : {A B C : Type 0} {r : Result B Fault} {e : ReadFail} (g : A → C) (a : Result A ReadFail) (f : B → Result C Fault)
    → Answers {A = B} (Err e) r → IsErrAnd a (λ d. d ≡ e) → Answers (seen g a) (and_then r f)
unfolding and_then
stops_seen g (Ok x) f h same = absurd same
stops_seen {e = e} g (Err d) f h same =
    record { value = tt; refused = λ fault is. let fails : e ≡ Refused fault = cc in rw (h.refused fault (ap Err fails)) refl }

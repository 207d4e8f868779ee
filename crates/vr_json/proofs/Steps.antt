-- How a call that reads step by step answers its definition: an answer names the steps that were made.
use Rattle.std.proofs.Common.{◌≡◌, ℕ, Bool, List, Result, Ok, Err, refl, sym, subst, ap, ap₂}
use Rattle.std.specs.Prelude.{⊤}
use Rattle.std.specs.Result.{IsErrAnd}
use Rattle.vr_json.specs.declared.fault.Fault.{Fault}
use Rattle.vr_json.specs.declared.fault.ReadFail.{ReadFail}
use Rattle.vr_json.specs.declared.fault.ReadFail.TheVariants.{Refused}
use Rattle.vr_json.specs.declared.fault.Cause.{Cause}
use Rattle.serde_json.specs.Data.{Data}
use Rattle.vr_json.specs.Reading.{ReaderOf, and_then, optional, refuse_if, Answers}

-- a step gave x, and the rest answers
pub then : {A B : Type 0} {r : Result A Fault} {x : A} {a : Result B ReadFail} (f : A → Result B Fault)
    → Answers (Ok x) r → Answers a (f x) → Answers a (and_then r f)
unfolding and_then
then f h k = rw h.value k

-- a step failed, and its failure is the answer
pub stops : {A B : Type 0} {r : Result A Fault} {e : ReadFail} (a : Result B ReadFail) (f : A → Result B Fault)
    → Answers {A = A} (Err e) r → IsErrAnd a (λ d. d ≡ e) → Answers a (and_then r f)
unfolding and_then
stops (Ok x) f h same = absurd same
stops {e = e} (Err d) f h same = record { value = tt; refused = λ fault is. let fails : e ≡ Refused fault = cc in rw (h.refused fault (ap Err fails)) refl }

-- the last step gives the value
pub gives : {A : Type 0} {x y : A} → x ≡ y → Answers (Ok x) (Ok y)
gives e = record { value = ap Ok (sym e); refused = λ fault is. cc }

-- a rule was asked of a value and a place that are those of the definition
pub asked : {a : Result ⊤ ReadFail} (cause : Cause) {b c : Bool} {p q : List ℕ}
    → b ≡ c → p ≡ q → Answers a (refuse_if b cause p) → Answers a (refuse_if c cause q)
asked {a = a} cause e f h = let P : Result ⊤ Fault → Type 0 = λ r. Answers a r in subst P (ap₂ (λ b p. refuse_if b cause p) e f) h

-- a field that may be absent was read with the value that the definition has then
pub otherwise : {A : Type 0} {a : Result A ReadFail} (key : List ℕ) (read : ReaderOf A) (path : List ℕ) (d : Data) {x y : A}
    → x ≡ y → Answers a (optional key x read path d) → Answers a (optional key y read path d)
otherwise {A = A} {a = a} key read path d e h = let P : A → Type 0 = λ x. Answers a (optional key x read path d) in subst P e h

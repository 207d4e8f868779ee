-- Steps of a reading that wants no memory.
use Rattle.std.proofs.Common.{◌≡◌, Result, Ok, Err, ap}
use Rattle.vr_json.specs.Reading.{and_then}

-- a step gave x, and the rest goes on
pub goes : {A B E : Type 0} {r : Result A E} {x : A} (f : A → Result B E) → r ≡ Ok x → and_then r f ≡ f x
unfolding and_then
goes f h = ap (λ r. and_then r f) h

-- a step failed
pub halts : {A B E : Type 0} {r : Result A E} {e : E} (f : A → Result B E) → r ≡ Err e → and_then r f ≡ Err e
unfolding and_then
halts f h = ap (λ r. and_then r f) h

-- What is known of values that were made, where they are taken together.
use Rattle.std.proofs.Common.{◌≡◌, Result, Ok, subst}
use Rattle.std.specs.Prelude.{IfOk}

-- what is so of a value wherever it was made
pub of_value : {A : Type 0} {E : Type 0} (P : A → Type 0) (made : Result A E) (x : A) → made ≡ Ok x → IfOk made P → P x
of_value P made x is holds = subst (λ r. IfOk r P) is holds

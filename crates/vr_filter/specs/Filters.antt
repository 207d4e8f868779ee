-- What a filter keeps.
use Rattle.std.specs.Prelude.{◌≡◌, ℕ, Bool, List}

-- the rule holds of the same lists as before
abbrev pub IsSameRule : (List (List ℕ) → Bool) → (List (List ℕ) → Bool) → Type 0
IsSameRule before now = (lists : List (List ℕ)) → now lists ≡ before lists

-- each change weighs as before
abbrev pub IsSameWeight : (List (List ℕ) → List (List ℕ) → ℕ) → (List (List ℕ) → List (List ℕ) → ℕ) → Type 0
IsSameWeight before now = (lists later : List (List ℕ)) → now lists later ≡ before lists later

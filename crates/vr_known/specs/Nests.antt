-- Moves that may be there.
use Rattle.std.specs.Prelude.{ℕ, Bool, List, [], map, filter, Option, Some, None}
use Rattle.vr_model.specs.tables.Numbers.{each, from_to}

-- the moves of a list that may be there
abbrev pub rest_inside : {L A : Type 0} → (L → List A) → Option L → List A
rest_inside rest None = []
rest_inside rest (Some inner) = rest inner

-- what f gives of the numbers from a on, below b, that pass
abbrev pub run_of : {A : Type 0} → (ℕ → Bool) → (ℕ → A) → ℕ → ℕ → List A
run_of passes f a b = map f (filter passes (from_to a b))

-- the lists of the numbers from a on, below b, that pass, joined
abbrev pub joined_of : {A : Type 0} → (ℕ → Bool) → (ℕ → List A) → ℕ → ℕ → List A
joined_of passes f a b = each (filter passes (from_to a b)) f

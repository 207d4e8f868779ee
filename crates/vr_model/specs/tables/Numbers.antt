-- Whole numbers and lists of them, as the other definitions use them.
use Rattle.std.specs.Prelude.{ℕ, ◌-◌, Bool, true, false, ◌&&◌, ◌||◌, List, [], ◌∷◌, ℤ, pos, ◌+ℤ◌, int_lt, int_le}
use Rattle.std.specs.Prelude.{slice_index_or, flat_map}
use Rattle.std.specs.List.{range_with_len}

-- the greatest cumul, 2 ^ 36
abbrev pub horizon : ℤ
horizon = pos 68719476736

-- the sum of a list of numbers
abbrev pub total : List ℤ → ℤ
total [] = pos 0
total (x ∷ xs) = x +ℤ total xs

-- the sum of what f gives of each entry
abbrev pub total_by : {A : Type 0} → (A → ℤ) → List A → ℤ
total_by f [] = pos 0
total_by f (x ∷ xs) = f x +ℤ total_by f xs

-- x lies in lo..=hi
abbrev pub within : ℤ → ℤ → ℤ → Bool
within lo hi x = int_le lo x && int_le x hi

-- two numbers are the same
abbrev pub is_same_number : ℤ → ℤ → Bool
is_same_number x y = within x x y

-- the number at a place of a list, 0 past its end
abbrev pub number_at : List ℤ → ℕ → ℤ
number_at xs k = slice_index_or xs k (pos 0)

-- the numbers 0, 1, .. below n
abbrev pub below : ℕ → List ℕ
below n = range_with_len 0 n

-- the numbers from a on, below b
abbrev pub from_to : ℕ → ℕ → List ℕ
from_to a b = range_with_len a (b - a)

-- for each x of a list in order, what f gives of x
abbrev pub each : {A B : Type 0} → List A → (A → List B) → List B
each xs f = flat_map f xs

-- two lists are as long as each other, and the test passes at each two entries of one place
abbrev pub are_same_by : {A : Type 0} → (A → A → Bool) → List A → List A → Bool
are_same_by same [] [] = true
are_same_by same [] (y ∷ ys) = false
are_same_by same (x ∷ xs) [] = false
are_same_by same (x ∷ xs) (y ∷ ys) = same x y && are_same_by same xs ys

-- a list of numbers comes before another in lexicographic order, or is the same
abbrev pub is_lex_le : List ℤ → List ℤ → Bool
is_lex_le [] ys = true
is_lex_le (x ∷ xs) [] = false
is_lex_le (x ∷ xs) (y ∷ ys) = int_lt x y || (int_le x y && is_lex_le xs ys)

-- a list of numbers comes before another in lexicographic order, and is not the same
abbrev pub is_lex_less : List ℤ → List ℤ → Bool
is_lex_less xs [] = false
is_lex_less [] (y ∷ ys) = true
is_lex_less (x ∷ xs) (y ∷ ys) = int_lt x y || (int_le x y && is_lex_less xs ys)

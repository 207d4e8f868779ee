-- Numbers, and lines of them.
use Rattle.std.specs.Prelude.{ℕ, ◌+◌, ◌-◌, ◌*◌, ◌==◌, ◌&&◌, List, [], ◌∷◌, Bool, length, drop, slice_index, nat_le}
use Rattle.std.specs.Prelude.{if◌then◌else◌, ℤ, pos, negsuc, neg_ℤ}
use Rattle.std.specs.Prelude.{int_le, is_some, option_map, Option, Some, None, Result, Ok, Err}
use Rattle.std.specs.List.{list_all}
use Rattle.std.specs.Option.{ok_or}
use Rattle.vr_json.specs.Reading.{◌>>=◌}
use Rattle.vr_tsplib.specs.Texts.{has_byte, before_byte, after_byte}
use Rattle.vr_tsplib.specs.declared.flaws.Flaw.{Flaw}
use Rattle.vr_tsplib.specs.declared.flaws.Flaw.TheVariants.{FaultyLine, OutOfRange}

abbrev pub is_digit : ℕ → Bool
is_digit b = nat_le 48 b && nat_le b 57

abbrev pub is_zero : ℕ → Bool
is_zero b = b == 48

-- the value of digits that come after those of n
unfoldable pub digits_behind : ℕ → List ℕ → Option ℕ
digits_behind n [] = Some n
digits_behind n (b ∷ text) = if is_digit b then digits_behind (n * 10 + (b - 48)) text else None

abbrev pub is_short : List ℕ → Bool
is_short text = nat_le 1 (length text) && nat_le (length text) 15

-- the value of 1 to 15 digits
unfoldable pub digits : List ℕ → Option ℕ
digits text = if is_short text then digits_behind 0 text else None

-- a number without a sign: 1 to 15 digits, then optionally a point and any count of zeros
unfoldable pub unsigned : List ℕ → Option ℕ
unsigned text =
    if has_byte 46 text
    then (if list_all is_zero (after_byte 46 text) then digits (before_byte 46 text) else None)
    else digits text

-- a number: an optional `-`, and a number without a sign
unfoldable pub number_of : List ℕ → Option ℤ
number_of word =
    if slice_index word 0 == 45
    then option_map (λ n. neg_ℤ (pos n)) (unsigned (drop 1 word))
    else option_map pos (unsigned word)

-- a word that must be a number
abbrev pub number : List ℕ → Result ℤ Flaw
number word = ok_or (number_of word) FaultyLine

abbrev pub is_number : List ℕ → Bool
is_number word = is_some (number_of word)

-- one word, and nothing after it
unfoldable pub one_word : List (List ℕ) → Result (List ℕ) Flaw
one_word (word ∷ []) = Ok word
one_word _ = Err FaultyLine

-- one number, two numbers, three numbers, and nothing after them
abbrev pub one_number : List (List ℕ) → Result ℤ Flaw
one_number ws = one_word ws >>= number

-- the number at the front, and the words after it
unfoldable pub first_number : List (List ℕ) → Result (ℤ × List (List ℕ)) Flaw
first_number [] = Err FaultyLine
first_number (word ∷ rest) = number word >>= λ z. Ok (z, rest)

unfoldable pub two_numbers : List (List ℕ) → Result (ℤ × ℤ) Flaw
two_numbers ws = do
  first ← first_number ws
  second ← one_number first.1
  Ok (first.0, second)

unfoldable pub three_numbers : List (List ℕ) → Result (ℤ × ℤ × ℤ) Flaw
three_numbers ws = do
  first ← first_number ws
  others ← two_numbers first.1
  Ok (first.0, others.0, others.1)

-- a number that must lie in lo..=hi
abbrev pub whole_in : ℤ → ℤ → ℤ → Result ℤ Flaw
whole_in lo hi z = if int_le lo z && int_le z hi then Ok z else Err OutOfRange

-- the same, as a count
abbrev pub count_in : ℕ → ℕ → ℤ → Result ℕ Flaw
count_in lo hi (pos n) = if nat_le lo n && nat_le n hi then Ok n else Err OutOfRange
count_in lo hi (negsuc n) = Err OutOfRange

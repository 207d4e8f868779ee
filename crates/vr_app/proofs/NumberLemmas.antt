-- Numbers in words.
use Rattle.std.proofs.Common.{◌≡◌, ◌∙◌, ◌<◌, ◌≤◌, ℕ, List, [], ◌∷◌, Bool, true, false, not, ◌&&◌, cond, Option, Some, None, Result, Ok, Err, refl, ap, sym}
use Rattle.std.proofs.Common.{arith, length}
use Rattle.std.specs.Prelude.{◌^◌, nat_lt}
use Rattle.std.specs.Char.{is_ascii_digit}
use Rattle.std.specs.List.{list_all}
use Rattle.std.specs.Result.{OkIff}
use Rattle.std.specs.Str.{all_ascii_digits}
use Rattle.std.specs.Str.Parse.{ParsesUnsigned, digits_value}
use Rattle.std.proofs.lemmas.Bool.Decides.{nat_tests}
use Rattle.std.proofs.lemmas.Str.Parse.{numerals_by_value, parse_digits, tells_all_ascii_digits}
use Rattle.vr_model.specs.deciding.Testing.{and_left, and_right}
use Rattle.vr_model.specs.routes.Routes.{is_empty}
use Rattle.vr_app.specs.Words.{has_leading_zero, is_numeral, number_in}

all-digits : (word : List ℕ) → list_all is_ascii_digit word ≡ all_ascii_digits word
all-digits [] = refl
all-digits (c ∷ cs) = ap (λ b. is_ascii_digit c && b) (all-digits cs)

some-digit : (word : List ℕ) → is_empty word ≡ false → 0 < length word
some-digit [] e = absurd cc
some-digit (c ∷ cs) e = omega arith

not-true : (b : Bool) → not b ≡ true → b ≡ false
not-true false e = refl
not-true true e = absurd cc

abbrev pub as-option : {E : Type 0} → Result ℕ E → Option ℕ
as-option (Ok n) = Some n
as-option (Err e) = None

module _ (word : List ℕ) (numeral : is_numeral word ≡ true) where
  abbrev value : ℕ
  value = digits_value 10 word

  digits : list_all is_ascii_digit word ≡ true
  digits = and_left (list_all is_ascii_digit word) _ (and_left (list_all is_ascii_digit word && not (has_leading_zero word)) _ numeral)

  some : 0 < length word
  some = some-digit word (not-true (is_empty word) (and_right (list_all is_ascii_digit word && not (has_leading_zero word)) _ numeral))

  fitting : nat_lt value (2 ^ 64) ≡ true → number_in word ≡ Some value
  fitting fits = ap (λ b. cond (b && nat_lt value (2 ^ 64)) (Some value) None) numeral ∙ ap (λ b. cond (true && b) (Some value) None) fits

  too_large : nat_lt value (2 ^ 64) ≡ false → number_in word ≡ None
  too_large large = ap (λ b. cond (b && nat_lt value (2 ^ 64)) (Some value) None) numeral ∙ ap (λ b. cond (true && b) (Some value) None) large

  by_size : {E : Type 0} (r : Result ℕ E) → OkIff r ((0 < length word) × (value < 2 ^ 64)) value
      → (b : Bool) → nat_lt value (2 ^ 64) ≡ b → as-option r ≡ number_in word
  by_size (Ok n) is true e = ap Some is.1 ∙ sym (fitting e)
  by_size (Ok n) is false e = let large : 2 ^ 64 ≤ value = grind (arith, nat_tests) in absurd (omega (arith, large, is.0.1))
  by_size (Err x) is true e = let small : value < 2 ^ 64 = grind (arith, nat_tests) in absurd (is (some, small))
  by_size (Err x) is false e = sym (too_large e)

  -- what is parsed of a numeral is its number, where it fits 64 bits
  pub parsed : {E : Type 0} (r : Result ℕ E) → ParsesUnsigned 64 10 word r → as-option r ≡ number_in word
  parsed r h = by_size r (parse_digits (numerals_by_value _ tells_all_ascii_digits) 64 word r h (sym (all-digits word) ∙ digits)) (nat_lt value (2 ^ 64)) refl

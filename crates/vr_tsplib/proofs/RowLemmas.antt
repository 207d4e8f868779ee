-- Rows of weights, word by word, and the digits of a number, one by one.
use Rattle.std.proofs.Common.{◌≡◌, ◌∙◌, ℕ, zero, suc, ◌+◌, ◌-◌, ◌*◌, ◌^◌, ◌<◌, ◌≤◌, Bool, true, false, ◌&&◌, List, [], ◌∷◌, ◌++◌, length, Option, Some, None}
use Rattle.std.proofs.Common.{Result, Ok, Err, refl, sym, ap, ap₂, arith, length-append}
use Rattle.std.specs.Prelude.{nat_le, if◌then◌else◌}
use Rattle.std.specs.List.{list_all}
use Rattle.std.proofs.Math.Nat.{pow-le-pow_right, pow-suc}
use Rattle.std.proofs.lemmas.Bool.{and_right, and_parts, leb-true, lt-leb}
use Rattle.vr_json.specs.Reading.{and_then}
use Rattle.vr_json.proofs.Readings.{Ensures, gives, after, any_value, weaker}
use Rattle.vr_tsplib.specs.Numbers.{digits_behind, is_digit, is_number}
use Rattle.vr_tsplib.specs.Rows.{are_numbers, weight, weights_behind, row_behind}
use Rattle.vr_tsplib.specs.declared.flaws.Flaw.{Flaw}

-- ---- whether words are numbers, and no more than are to come

pub none_to_come : (word : List ℕ) (ws : List (List ℕ)) → are_numbers 0 (word ∷ ws) ≡ false
none_to_come word ws = and_right (list_all is_number (word ∷ ws)) (nat_le (length (word ∷ ws)) 0) (lt-leb (suc (length ws)) 0 (omega arith))

pub no_number : (left : ℕ) (word : List ℕ) (ws : List (List ℕ)) → is_number word ≡ false → are_numbers left (word ∷ ws) ≡ false
no_number left word ws e = ap (λ b. (b && list_all is_number ws) && nat_le (length (word ∷ ws)) left) e

one_less : (n left : ℕ) → 0 < left → nat_le (suc n) left ≡ nat_le n (left - 1)
one_less n left some = Prim.grind arith

pub one_number_more : (left : ℕ) (word : List ℕ) (ws : List (List ℕ)) → is_number word ≡ true
    → 0 < left → are_numbers left (word ∷ ws) ≡ are_numbers (left - 1) ws
one_number_more left word ws e some =
    ap (λ b. (b && list_all is_number ws) && nat_le (length (word ∷ ws)) left) e ∙ ap (λ b. list_all is_number ws && b) (one_less (length ws) left some)

-- ---- weights behind others

pub one_weight_more : (earlier : List ℕ) (word : List ℕ) (ws : List (List ℕ)) (w : ℕ)
    → weight word ≡ Ok w → weights_behind earlier (word ∷ ws) ≡ weights_behind (earlier ++ w ∷ []) ws
unfolding weights_behind and_then
one_weight_more earlier word ws w e = ap (λ r. and_then r (λ w. weights_behind (earlier ++ w ∷ []) ws)) e

pub no_weight : {flaw : Flaw} (earlier : List ℕ) (word : List ℕ) (ws : List (List ℕ)) → weight word ≡ Err flaw → weights_behind earlier (word ∷ ws) ≡ Err flaw
unfolding weights_behind and_then
no_weight earlier word ws e = ap (λ r. and_then r (λ w. weights_behind (earlier ++ w ∷ []) ws)) e

longer : (ws : List (List ℕ)) (earlier : List ℕ) → Ensures (λ all. length earlier ≤ length all) (weights_behind earlier ws)
unfolding weights_behind
longer [] earlier = gives (omega arith)
longer (word ∷ ws) earlier = after any_value λ w _. weaker (λ all h. omega (arith, h, length-append earlier (w ∷ []))) (longer ws (earlier ++ w ∷ []))

longer_row : (left : ℕ) (earlier : List ℕ) (ws : List (List ℕ)) → Ensures (λ all. length earlier ≤ length all) (row_behind left earlier ws)
unfolding row_behind
longer_row left earlier ws = after any_value λ _ _. longer ws earlier

-- no weight is lost
pub row_longer : (left : ℕ) (earlier : List ℕ) (ws : List (List ℕ)) (all : List ℕ) → row_behind left earlier ws ≡ Ok all → length earlier ≤ length all
row_longer left earlier ws all e = (longer_row left earlier ws).of_value all e

pub no_weight_more : (earlier : List ℕ) → weights_behind earlier [] ≡ Ok earlier
unfolding weights_behind
no_weight_more earlier = refl

-- ---- digits behind others

pub one_digit_more : (n b : ℕ) (text : List ℕ) → is_digit b ≡ true → digits_behind n (b ∷ text) ≡ digits_behind (n * 10 + (b - 48)) text
unfolding digits_behind
one_digit_more n b text e = ap (λ t. if t then digits_behind (n * 10 + (b - 48)) text else None) e

pub no_digit : (n b : ℕ) (text : List ℕ) → is_digit b ≡ false → digits_behind n (b ∷ text) ≡ None
unfolding digits_behind
no_digit n b text e = ap (λ t. if t then digits_behind (n * 10 + (b - 48)) text else None) e

pub no_digit_more : (n : ℕ) → digits_behind n [] ≡ Some n
unfolding digits_behind
no_digit_more n = refl

pub digit_low : (b : ℕ) → is_digit b ≡ true → b - 48 ≤ 9
digit_low b e = let high = leb-true b 57 (and_parts (nat_le 48 b) (nat_le b 57) e).1 in omega (arith, high)

-- ---- so many digits

pub power_low : (n k : ℕ) → n < 10 ^ k → k ≤ 15 → n < 10 ^ 15
power_low n k h few = let p : 10 ^ k ≤ 10 ^ 15 = pow-le-pow_right {n = 10} (omega arith) few in omega (arith, h, p)

pub one_power_more : (n k d : ℕ) → n < 10 ^ k → d ≤ 9 → n * 10 + d < 10 ^ (k + 1)
one_power_more n k d h low =
    let next : k + 1 ≡ suc k = omega arith in
    let e : 10 ^ (k + 1) ≡ 10 ^ k * 10 = ap (λ m. 10 ^ m) next ∙ pow-suc 10 k in
    omega (arith, h, low, e)

pub digits_fit : (n k : ℕ) → n < 10 ^ k → k < 15 → n * 10 + 9 < 10 ^ 15
digits_fit n k h low = power_low (n * 10 + 9) (k + 1) (one_power_more n k 9 h (omega arith)) (omega (arith, low))

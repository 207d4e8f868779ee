-- Lists in which no visit stood earlier hold no visit twice.
use Rattle.std.proofs.Common.{◌≡◌, ℕ, suc, ◌<◌, Bool, true, false, ◌||◌, ◌==◌, List, [], ◌∷◌, ◌++◌, length, get_or, take, refl, sym, ap, ap₂, ◌∙◌, append_assoc}
use Rattle.std.proofs.Common.{append-nil, arith}
use Rattle.std.specs.List.{concat}
use Rattle.std.proofs.lemmas.List.Folds.{list_any-append}
use Rattle.vr_model.specs.routes.Routes.{holds, is_active, is_distinct, route}
use Rattle.vr_model.proofs.tables.Tests.{or-false_left, or-false_right}
use Rattle.vr_model.proofs.routes.Lists.{is_distinct-push}

or_both_false : (a b : Bool) → a ≡ false → b ≡ false → (a || b) ≡ false
or_both_false a b h k = ap₂ (λ x y. x || y) h k

-- what a list adds to numbers that were there
pub add_list : (done list : List ℕ) → is_distinct done ≡ true → ((k : ℕ) → k < length list → holds done (get_or list k 0) ≡ false)
    → ((k : ℕ) → k < length list → holds (take k list) (get_or list k 0) ≡ false) → is_distinct (done ++ list) ≡ true
add_list done [] d outside inside = ap is_distinct (append-nil done) ∙ d
add_list done (x ∷ xs) d outside inside =
    ap is_distinct (sym (append_assoc done (x ∷ []) xs)) ∙ add_list (done ++ x ∷ []) xs (is_distinct-push done x d (outside 0 (omega arith)))
    (λ k low. list_any-append (λ z. get_or xs k 0 == z) done (x ∷ [])
    ∙ or_both_false (holds done (get_or xs k 0)) ((get_or xs k 0 == x) || false) (outside (suc k) (omega (arith, low)))
    (or_both_false (get_or xs k 0 == x) false
    (or-false_left (get_or xs k 0 == x) (holds (take k xs) (get_or xs k 0)) (inside (suc k) (omega (arith, low)))) refl))
    (λ k low. or-false_right (get_or xs k 0 == x) (holds (take k xs) (get_or xs k 0)) (inside (suc k) (omega (arith, low))))

-- lists behind others
add_lists : (done : List ℕ) (lists : List (List ℕ)) → is_distinct done ≡ true
    → ((v k : ℕ) → v < length lists → k < length (route lists v) → holds done (get_or (route lists v) k 0) ≡ false)
    → ((v k : ℕ) → v < length lists → k < length (route lists v) → is_active (take v lists) (get_or (route lists v) k 0) ≡ false)
    → ((v k : ℕ) → v < length lists → k < length (route lists v) → holds (take k (route lists v)) (get_or (route lists v) k 0) ≡ false)
    → is_distinct (done ++ concat lists) ≡ true
add_lists done [] d outside earlier inside = ap is_distinct (append-nil done) ∙ d
add_lists done (list ∷ lists) d outside earlier inside =
    ap is_distinct (sym (append_assoc done list (concat lists))) ∙ add_lists (done ++ list) lists
    (add_list done list d (λ k low. outside 0 k (omega arith) low) (λ k low. inside 0 k (omega arith) low))
    (λ v k low less. list_any-append (λ z. get_or (route lists v) k 0 == z) done list
    ∙ or_both_false (holds done (get_or (route lists v) k 0)) (holds list (get_or (route lists v) k 0)) (outside (suc v) k (omega (arith, low)) less)
    (or-false_left (holds list (get_or (route lists v) k 0))
    (is_active (take v lists) (get_or (route lists v) k 0)) (earlier (suc v) k (omega (arith, low)) less)))
    (λ v k low less. or-false_right (holds list (get_or (route lists v) k 0))
    (is_active (take v lists) (get_or (route lists v) k 0)) (earlier (suc v) k (omega (arith, low)) less))
    (λ v k low less. inside (suc v) k (omega (arith, low)) less)

pub all_distinct : (lists : List (List ℕ))
    → ((v k : ℕ) → v < length lists → k < length (route lists v)
    → (is_active (take v lists) (get_or (route lists v) k 0) || holds (take k (route lists v)) (get_or (route lists v) k 0)) ≡ false)
    → is_distinct (concat lists) ≡ true
all_distinct lists h = add_lists [] lists refl (λ v k low less. refl)
    (λ v k low less. or-false_left (is_active (take v lists) (get_or (route lists v) k 0))
    (holds (take k (route lists v)) (get_or (route lists v) k 0)) (h v k low less))
    (λ v k low less. or-false_right (is_active (take v lists) (get_or (route lists v) k 0))
    (holds (take k (route lists v)) (get_or (route lists v) k 0)) (h v k low less))

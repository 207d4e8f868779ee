-- The entries of an array, and what is read of them.
use Rattle.std.proofs.Common.{◌≡◌, ℕ, suc, ◌+◌, ◌<◌, ◌≤◌, get_or, drop, Bool, true, false, not, cond, ◌||◌, ltb, List, [], ◌∷◌, length, map, position, find}
use Rattle.std.proofs.Common.{Option, Some, None, option_map, String, Global, string_bytes, Bor, refl, sym, ap, ap₂, ◌∙◌}
use Rattle.std.specs.List.{list_any, position_or_len}
use Rattle.std.proofs.lemmas.List.{length-map, at_drop_more, at_drop_all}
use Rattle.serde_json.specs.View.{view, items_view, members_view}
use Rattle.serde_json.specs.declared.value.Value.{Value}
use Rattle.vr_json.specs.Reading.{list_of, member_keys}

pub list_of-items_view : (vs : List Value) → list_of (items_view vs) ≡ map view vs
list_of-items_view [] = refl
list_of-items_view (v ∷ vs) = ap (λ ds. view v ∷ ds) (list_of-items_view vs)

pub length-list_of : (vs : List Value) → length (list_of (items_view vs)) ≡ length vs
length-list_of [] = refl
length-list_of (v ∷ vs) = ap suc (length-list_of vs)

pub ruleset views = (list_of-items_view, length-list_of)

pub list_any-map : {A B : Type 0} (f : A → B) (p : B → Bool) (xs : List A) → list_any p (map f xs) ≡ list_any (λ x. p (f x)) xs
list_any-map f p [] = refl
list_any-map f p (x ∷ xs) = ap (λ b. p (f x) || b) (list_any-map f p xs)

position_or_len-map : {A B : Type 0} (f : A → B) (p : B → Bool) (xs : List A) → position_or_len p (map f xs) ≡ position_or_len (λ x. p (f x)) xs
position_or_len-map f p [] = refl
position_or_len-map f p (x ∷ xs) = ap (λ n. cond (not (p (f x))) (1 + n) 0) (position_or_len-map f p xs)

pub position-map : {A B : Type 0} (f : A → B) (p : B → Bool) (xs : List A) → position p (map f xs) ≡ position (λ x. p (f x)) xs
position-map f p xs = ap₂ (λ n m. cond (ltb n m) (Some n) None) (position_or_len-map f p xs) (length-map xs f)

found-map : {A B : Type 0} (f : A → B) (x : A) (b : Bool) (r : Option B) (o : Option A)
    → r ≡ option_map f o → cond b (Some (f x)) r ≡ option_map f (cond b (Some x) o)
found-map f x true r o e = refl
found-map f x false r o e = e

pub find-map : {A B : Type 0} (f : A → B) (p : B → Bool) (xs : List A) → find p (map f xs) ≡ option_map f (find (λ x. p (f x)) xs)
find-map f p [] = refl
find-map f p (x ∷ xs) = found-map f x (p (f x)) _ _ (find-map f p xs)

keys_of-members_view : (es : List (String Global × Value)) → member_keys (members_view es) ≡ map string_bytes (map (λ e. e.0) es)
keys_of-members_view [] = refl
keys_of-members_view (e ∷ es) = ap (λ ks. string_bytes e.0 ∷ ks) (keys_of-members_view es)

-- the first key that passes, in an object's map and in its members
pub found_key : (p : List ℕ → Bool) (es : List (String Global × Value))
    → option_map string_bytes (find (λ key. p (string_bytes key)) (map (λ e. e.0) es)) ≡ find p (member_keys (members_view es))
found_key p es = sym (find-map string_bytes p (map (λ e. e.0) es)) ∙ ap (find p) (sym (keys_of-members_view es))

pub shown_key : (o : Option (Bor (String Global))) → option_map (λ key. string_bytes key.now) o ≡ option_map string_bytes (option_map (λ key. key.now) o)
shown_key None = refl
shown_key (Some key) = refl

-- an element where a loop stands, and what is found from there on
module _ {A B : Type 0} (f : A → B) (p : B → Bool) (xs : List A) (i : ℕ) (x : A) (lt : i < length xs) (is : x ≡ get_or xs i x) where
  opened : find p (map f (drop i xs)) ≡ cond (p (f x)) (Some (f x)) (find p (map f (drop (i + 1) xs)))
  opened = at_drop_more (λ ys. find p (map f ys)) xs i x lt ∙ ap (λ y. cond (p (f y)) (Some (f y)) (find p (map f (drop (i + 1) xs)))) (sym is)

  pub found_here : p (f x) ≡ true → find p (map f (drop i xs)) ≡ Some (f x)
  found_here h = opened ∙ ap (λ b. cond b (Some (f x)) (find p (map f (drop (i + 1) xs)))) h

  pub passed_over : p (f x) ≡ false → find p (map f (drop i xs)) ≡ find p (map f (drop (i + 1) xs))
  passed_over h = opened ∙ ap (λ b. cond b (Some (f x)) (find p (map f (drop (i + 1) xs)))) h

pub none_left : {A B : Type 0} (f : A → B) (p : B → Bool) (xs : List A) (i : ℕ) → length xs ≤ i → find p (map f (drop i xs)) ≡ None
none_left f p xs i le = at_drop_all (λ ys. find p (map f ys)) xs i le

-- A list whose elements are changed one by one.
use Rattle.std.proofs.Common.{◌≡◌, ◌∙◌, ◌<◌, ◌≤◌, ◌+◌, ◌++◌, ℕ, List, [], ◌∷◌, length, get_or, set, take, drop, map, sym, ap, ap₂, arith, add-zero}
use Rattle.std.proofs.Math.Seq.{map-set_same}
use Rattle.std.proofs.lemmas.List.{take-append-drop, map-append, length-drop, get_or-drop, drop-drop, drop-set-lt, take_all, take_more, take_more_set}

pub length_rest : {W : Type 0} (xs ys : List W) (i : ℕ) → i < length xs → drop i xs ≡ drop i ys → i < length ys
length_rest xs ys i lt rest = omega (arith, ap length rest, length-drop i xs, length-drop i ys)

pub map-take_step : {W B : Type 0} (f g : W → B) (xs ys : List W) (i : ℕ) (d new : W) → i < length ys → drop i xs ≡ drop i ys
    → map f (take i xs) ≡ map g (take i ys) → f new ≡ g (get_or xs i d) → map f (take (i + 1) (set xs i new)) ≡ map g (take (i + 1) ys)
map-take_step f g xs ys i d new in_ys rest h e =
    let lt : i < length xs = length_rest ys xs i in_ys (sym rest) in
    let head : get_or xs (i + 0) d ≡ get_or ys (i + 0) d = sym (get_or-drop i xs 0 d) ∙ ap (λ l. get_or l 0 d) rest ∙ get_or-drop i ys 0 d in
    let same : get_or xs i d ≡ get_or ys i d = rw (add-zero i) at head in
    ap (map f) (take_more_set xs i new lt) ∙ map-append f (take i xs) (new ∷ []) ∙ ap (λ l. l ++ f new ∷ []) h
    ∙ ap (λ b. map g (take i ys) ++ b ∷ []) (e ∙ ap g same) ∙ sym (map-append g (take i ys) (get_or ys i d ∷ []))
    ∙ ap (map g) (sym (take_more ys i d in_ys))

pub drop_step : {W : Type 0} (xs ys : List W) (i : ℕ) (new : W) → drop i xs ≡ drop i ys → drop (i + 1) (set xs i new) ≡ drop (i + 1) ys
drop_step xs ys i new rest =
    drop-set-lt (i + 1) xs i new (omega arith) ∙ sym (drop-drop 1 i xs) ∙ ap (drop 1) rest ∙ drop-drop 1 i ys

pub map-take_end : {W B : Type 0} (f g : W → B) (xs ys : List W) (i : ℕ) → length ys ≤ i → length xs ≡ length ys
    → map f (take i xs) ≡ map g (take i ys) → map f xs ≡ map g ys
map-take_end f g xs ys i le same h = ap (map f) (sym (take_all i xs (omega arith))) ∙ h ∙ ap (map g) (take_all i ys le)

-- the element in hand is changed to one that f cannot tell from it
pub map_in_part : {W B : Type 0} (f g : W → B) (xs ys : List W) (i : ℕ) (d new : W) → drop i xs ≡ drop i ys
    → map f (take i xs) ≡ map g (take i ys) → f new ≡ f (get_or xs i d) → map f (set xs i new) ≡ map g (take i ys) ++ map f (drop i ys)
map_in_part f g xs ys i d new rest h e = map-set_same f xs i new d e ∙ (ap (map f) (sym (take-append-drop i xs))
    ∙ (map-append f (take i xs) (drop i xs) ∙ ap₂ (λ a b. a ++ b) h (ap (map f) rest)))

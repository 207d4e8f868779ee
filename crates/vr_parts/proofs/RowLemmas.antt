-- What is kept of each list of lists.
use Rattle.std.proofs.Common.{◌≡◌, ◌≢◌, ◌∙◌, ◌<◌, ◌≤◌, ◌+◌, ◌⊎◌, inl, inr, ℕ, zero, suc, List, [], ◌∷◌, ◌++◌, length, length-append, length-set, take, drop}
use Rattle.std.proofs.Common.{refl, ap, sym, subst, arith}
use Rattle.std.specs.Prelude.{slice_set, slice_index_or}
use Rattle.std.proofs.lemmas.Bool.{cases_lt}
use Rattle.std.proofs.lemmas.List.{get_or-set_same, get_or-set_other, get_or_default, append-nil, take_all}
use Rattle.vr_model.specs.routes.Routes.{route}
use Rattle.vr_model.specs.moves.Moves.{with_route}
use Rattle.vr_model.proofs.routes.Lists.{route_set_same, route_set_other}

pub same-or-not : (u v : ℕ) → (u ≡ v) ⊎ (u ≢ v)
same-or-not u v = go (cases_lt u v) (cases_lt v u)
  where
    go : (u < v) ⊎ (v ≤ u) → (v < u) ⊎ (u ≤ v) → (u ≡ v) ⊎ (u ≢ v)
    go (inl less) _ = inr (λ e. absurd (omega (arith, less, e)))
    go (inr _) (inl more) = inr (λ e. absurd (omega (arith, more, e)))
    go (inr high) (inr low) = inl (omega (arith, high, low))

-- one list and what is kept of it are replaced
pub set-at : {A : Type 0} (P : ℕ → List ℕ → A → Type 0) (lists : List (List ℕ)) (rows : List A) (v : ℕ) (list : List ℕ) (row : A)
    → v < length rows → P v list row
    → (u : ℕ) (d : A) → (u ≡ v → v < length lists) → (u ≢ v → P u (route lists u) (slice_index_or rows u d))
    → P u (route (with_route lists v list) u) (slice_index_or (slice_set rows v row) u d)
set-at P lists rows v list row low new u d known old = go (same-or-not u v)
  where
    go : (u ≡ v) ⊎ (u ≢ v) → P u (route (with_route lists v list) u) (slice_index_or (slice_set rows v row) u d)
    go (inr other) = subst (λ l. P u l (slice_index_or (slice_set rows v row) u d)) (sym (route_set_other lists v u list other))
        (subst (P u (route lists u)) (sym (get_or-set_other rows v u row d other)) (old other))
    go (inl same) = subst (λ w. P w (route (with_route lists v list) w) (slice_index_or (slice_set rows v row) w d)) (sym same)
        (subst (λ l. P v l (slice_index_or (slice_set rows v row) v d)) (sym (route_set_same lists v list (known same)))
        (subst (P v list) (sym (get_or-set_same rows v row d low)) new))

-- the same of all lists
pub rows-set : {A : Type 0} (P : ℕ → List ℕ → A → Type 0) (d : A) (lists : List (List ℕ)) (rows : List A) (v : ℕ) (list : List ℕ) (row : A)
    → ((u : ℕ) → u < length lists → P u (route lists u) (slice_index_or rows u d)) → v < length rows → P v list row
    → (u : ℕ) → u < length (with_route lists v list) → P u (route (with_route lists v list) u) (slice_index_or (slice_set rows v row) u d)
rows-set P d lists rows v list row all low new u under =
    set-at P lists rows v list row low new u d (λ same. subst (λ w. w < length lists) same known) (λ other. all u known)
  where
    known : u < length lists
    known = let l = length-set lists v list in omega (arith, under, l)

-- what holds of each entry at its place holds with one entry more
pub each-push : {A : Type 0} (P : ℕ → A → Type 0) (xs : List A) (x : A) → ((k : ℕ) (d : A) → k < length xs → P k (slice_index_or xs k d)) → P (length xs) x
    → (k : ℕ) (d : A) → k < length (xs ++ x ∷ []) → P k (slice_index_or (xs ++ x ∷ []) k d)
each-push P [] x each last zero d low = last
each-push P [] x each last (suc k) d low = absurd (omega (arith, low))
each-push P (y ∷ ys) x each last zero d low = each zero d (omega arith)
each-push P (y ∷ ys) x each last (suc k) d low =
    each-push (λ j. P (suc j)) ys x (λ j e less. each (suc j) e (omega (arith, less))) last k d (omega (arith, low))

-- what is kept of one list more
pub rows-push : {A : Type 0} (P : ℕ → A → Type 0) (d : A) (rows more : List A) (row : A) (n : ℕ)
    → length rows ≡ n → ((u : ℕ) → u < n → P u (slice_index_or rows u d)) → P n row → more ≡ rows ++ row ∷ []
    → (u : ℕ) → u < n + 1 → P u (slice_index_or more u d)
rows-push P d rows more row n many all new is u under =
    let below : u < length (rows ++ row ∷ []) = (let l = length-append rows (row ∷ []) in omega (arith, under, many, l)) in
    subst (λ l. P u (slice_index_or l u d)) (sym is)
    (each-push P rows row (λ k other less. subst (P k) (get_or_default rows k d other less) (all k (omega (arith, less, many))))
    (subst (λ k. P k row) (sym many) new) u d below)

-- a list that is written over as a whole
pub written : {A : Type 0} (old new : List A) (len : ℕ) → length new ≡ length old → len ≡ length old → take len (new ++ drop (length new) old) ≡ new
written old new len same is =
    ap (take len) (ap (λ l. new ++ l) (drop-all old (length new) (omega (arith, same))) ∙ append-nil new) ∙ take_all len new (omega (arith, same, is))
  where
    drop-all : {A : Type 0} (l : List A) (n : ℕ) → length l ≤ n → drop n l ≡ []
    drop-all [] zero _ = refl
    drop-all [] (suc n) _ = refl
    drop-all (x ∷ xs) zero low = absurd (omega (arith, low))
    drop-all (x ∷ xs) (suc n) low = drop-all xs n (omega (arith, low))

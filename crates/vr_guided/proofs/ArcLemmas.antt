-- Tests over the arcs of lists.
use Rattle.std.proofs.Common.{◌≡◌, ◌∙◌, ℕ, suc, ◌+◌, ◌-◌, ◌<◌, ◌≤◌, Bool, true, false, List, [], ◌∷◌, ◌++◌, length, get_or, drop, refl, ap, arith}
use Rattle.std.specs.Prelude.{◌||◌, ◌==◌}
use Rattle.std.specs.List.{list_any, range_with_len}
use Rattle.std.proofs.lemmas.List.{drop_more, drop_all}
use Rattle.vr_model.specs.tables.Numbers.{each}
use Rattle.vr_model.specs.routes.Routes.{UsedArc, arcs_from, arcs_of}
use Rattle.vr_model.specs.tables.Tables.{vehicle_at}
use Rattle.vr_model.specs.declared.records.Model.{Model}

any_append : {A : Type 0} (p : A → Bool) (xs ys : List A) → list_any p (xs ++ ys) ≡ (list_any p xs || list_any p ys)
any_append p [] ys = refl
any_append p (x ∷ xs) ys = go (p x) (any_append p xs ys)
  where
    go : (b : Bool) → list_any p (xs ++ ys) ≡ (list_any p xs || list_any p ys) → (b || list_any p (xs ++ ys)) ≡ ((b || list_any p xs) || list_any p ys)
    go true h = refl
    go false h = h

module _ (p : UsedArc → Bool) (v at last : ℕ) (list : List ℕ) (i : ℕ) where
  abbrev arc : ℕ → UsedArc
  arc node = record { vehicle = v; origin = at; target = node }

  onward : i < length list → list_any p (arcs_from v at (drop i list ++ last ∷ []))
      ≡ (p (arc (get_or list i 0)) || list_any p (arcs_from v (get_or list i 0) (drop (i + 1) list ++ last ∷ [])))
  onward low = ap (λ nodes. list_any p (arcs_from v at (nodes ++ last ∷ []))) (drop_more list i 0 low)

  -- the next arc passes
  pub found_here : i < length list → p (arc (get_or list i 0)) ≡ true → list_any p (arcs_from v at (drop i list ++ last ∷ [])) ≡ true
  found_here low e = onward low ∙ ap (λ b. b || list_any p (arcs_from v (get_or list i 0) (drop (i + 1) list ++ last ∷ []))) e

  -- the next arc does not
  pub not_here : i < length list → p (arc (get_or list i 0)) ≡ false
      → list_any p (arcs_from v at (drop i list ++ last ∷ [])) ≡ list_any p (arcs_from v (get_or list i 0) (drop (i + 1) list ++ last ∷ []))
  not_here low e = onward low ∙ ap (λ b. b || list_any p (arcs_from v (get_or list i 0) (drop (i + 1) list ++ last ∷ []))) e

  -- the last arc decides
  pub at_last : length list ≤ i → (b : Bool) → p (arc last) ≡ b → list_any p (arcs_from v at (drop i list ++ last ∷ [])) ≡ b
  at_last high b e = ap (λ nodes. list_any p (arcs_from v at (nodes ++ last ∷ []))) (drop_all i list high) ∙ (ap (λ x. x || false) e ∙ same b)
    where
      same : (b : Bool) → (b || false) ≡ b
      same true = refl
      same false = refl

-- a route with visits goes from the start through them to the end
pub arcs_of_used : (model : Model) (v : ℕ) (list : List ℕ) → (length list == 0) ≡ false
    → arcs_of model v list ≡ arcs_from v (vehicle_at model v).start (list ++ (vehicle_at model v).end ∷ [])
arcs_of_used model v [] h = absurd (no h)
  where
    no : true ≡ false → ⊥
    no e = Prim.cc
arcs_of_used model v (x ∷ xs) h = refl

module _ {A : Type 0} (p : A → Bool) (f : ℕ → List A) (v n : ℕ) where
  first_of_range : v < n → range_with_len v (n - v) ≡ v ∷ range_with_len (v + 1) (n - (v + 1))
  first_of_range low = let e : n - v ≡ suc (n - (v + 1)) = omega (arith, low) in ap (range_with_len v) e

  among : v < n → list_any p (each (range_with_len v (n - v)) f) ≡ (list_any p (f v) || list_any p (each (range_with_len (v + 1) (n - (v + 1))) f))
  among low = ap (λ vs. list_any p (each vs f)) (first_of_range low) ∙ any_append p (f v) (each (range_with_len (v + 1) (n - (v + 1))) f)

  pub some_of_this : v < n → list_any p (f v) ≡ true → list_any p (each (range_with_len v (n - v)) f) ≡ true
  some_of_this low e = among low ∙ ap (λ b. b || list_any p (each (range_with_len (v + 1) (n - (v + 1))) f)) e

  pub none_of_this : v < n → list_any p (f v) ≡ false
      → list_any p (each (range_with_len v (n - v)) f) ≡ list_any p (each (range_with_len (v + 1) (n - (v + 1))) f)
  none_of_this low e = among low ∙ ap (λ b. b || list_any p (each (range_with_len (v + 1) (n - (v + 1))) f)) e

  pub none_left : n ≤ v → list_any p (each (range_with_len v (n - v)) f) ≡ false
  none_left high = let e : n - v ≡ 0 = omega (arith, high) in ap (λ k. list_any p (each (range_with_len v k) f)) e

-- ---- the arcs one by one

-- the next arc, and the others
pub arcs_onward : (v at last : ℕ) (list : List ℕ) (i : ℕ) → i < length list
    → arcs_from v at (drop i list ++ last ∷ [])
    ≡ record { vehicle = v; origin = at; target = get_or list i 0 } ∷ arcs_from v (get_or list i 0) (drop (i + 1) list ++ last ∷ [])
arcs_onward v at last list i low = ap (λ nodes. arcs_from v at (nodes ++ last ∷ [])) (drop_more list i 0 low)

-- the last arc
pub arcs_last : (v at last : ℕ) (list : List ℕ) (i : ℕ) → length list ≤ i
    → arcs_from v at (drop i list ++ last ∷ []) ≡ record { vehicle = v; origin = at; target = last } ∷ []
arcs_last v at last list i high = ap (λ nodes. arcs_from v at (nodes ++ last ∷ [])) (drop_all i list high)

-- what is there for this number, and for those behind it
pub each_onward : {A : Type 0} (f : ℕ → List A) (v n : ℕ) → v < n → each (range_with_len v (n - v)) f ≡ f v ++ each (range_with_len (v + 1) (n - (v + 1))) f
each_onward f v n low = let e : n - v ≡ suc (n - (v + 1)) = omega (arith, low) in ap (λ k. each (range_with_len v k) f) e

pub each_done : {A : Type 0} (f : ℕ → List A) (v n : ℕ) → n ≤ v → each (range_with_len v (n - v)) f ≡ []
each_done f v n high = let e : n - v ≡ 0 = omega (arith, high) in ap (λ k. each (range_with_len v k) f) e

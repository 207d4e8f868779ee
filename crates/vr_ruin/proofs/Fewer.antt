-- Open lists stay open if visits are taken out of one of them and what is left of it is open.
use Rattle.std.proofs.Common.{◌≡◌, ◌∙◌, ◌<◌, ◌≤◌, ℕ, zero, suc, List, [], ◌∷◌, Bool, true, false, cond, not, refl, ap, ap₂, sym, subst, arith, length}
use Rattle.std.specs.Prelude.{◌&&◌, ◌||◌, ◌==◌, filter, nat_le}
use Rattle.std.specs.List.{list_all, concat}
use Rattle.std.proofs.lemmas.Bool.{eqb-true, eq-eqb}
use Rattle.std.proofs.lemmas.List.{length-set}
use Rattle.std.proofs.lemmas.List.Sums.{length-filter}
use Rattle.std.proofs.lemmas.List.Folds.{list_all-append}
use Rattle.vr_model.specs.declared.records.Group.{Group}
use Rattle.vr_model.specs.declared.records.Model.{Model}
use Rattle.vr_model.specs.tables.Tables.{is_visit}
use Rattle.vr_model.specs.routes.Routes.{route, holds, is_active, is_distinct, vehicles}
use Rattle.vr_model.specs.routes.Rules.{active_in, fits_group, is_open, is_route_open}
use Rattle.vr_model.specs.moves.Moves.{with_route}
use Rattle.vr_model.specs.deciding.Testing.{and_both, and_left, and_right, list_all_range, range_list_all}
use Rattle.vr_model.proofs.tables.Tests.{clash, fails, fails_not, nat_of_test}
use Rattle.vr_model.proofs.routes.Lists.{are_lists-count, is_active-concat, is_distinct-left, is_distinct-right, route_set_other, route_set_same}
use Rattle.vr_rules.specs.Placing.{AreBuilt}
use Rattle.vr_rules.proofs.PlacingLemmas.{is_distinct-apart, is_distinct-both}

-- ---- what a filter leaves

passes_more : (b c : Bool) → c ≡ true → (b || c) ≡ true
passes_more true c e = refl
passes_more false c e = e

pub holds_left : (p : ℕ → Bool) (xs : List ℕ) (x : ℕ) → holds (filter p xs) x ≡ true → holds xs x ≡ true
holds_left p [] x h = h
holds_left p (y ∷ ys) x h = by (p y) h (holds_left p ys x)
  where
    one : (b : Bool) → (b || holds (filter p ys) x) ≡ true → (holds (filter p ys) x ≡ true → holds ys x ≡ true) → (b || holds ys x) ≡ true
    one true h later = refl
    one false h later = later h

    by : (b : Bool) → holds (cond b (y ∷ filter p ys) (filter p ys)) x ≡ true → (holds (filter p ys) x ≡ true → holds ys x ≡ true) → holds (y ∷ ys) x ≡ true
    by false h later = passes_more (x == y) (holds ys x) (later h)
    by true h later = one (x == y) h later

pub distinct_left : (p : ℕ → Bool) (xs : List ℕ) → is_distinct xs ≡ true → is_distinct (filter p xs) ≡ true
distinct_left p [] d = d
distinct_left p (y ∷ ys) d = by (p y) (distinct_left p ys (and_right (not (holds ys y)) (is_distinct ys) d))
  where
    absent : holds (filter p ys) y ≡ false
    absent =
        fails (holds (filter p ys) y) (λ h. clash (holds ys y) (holds_left p ys y h) (fails_not (holds ys y) (and_left (not (holds ys y)) (is_distinct ys) d)))

    by : (b : Bool) → is_distinct (filter p ys) ≡ true → is_distinct (cond b (y ∷ filter p ys) (filter p ys)) ≡ true
    by false rest = rest
    by true rest = ap₂ (λ a b. not a && b) absent rest

-- ---- lists of which one has fewer visits

-- a list without visits that another does not have, each of them once
pub record IsPart (list whole : List ℕ) : Type 0 where
  pub held : (x : ℕ) → holds list x ≡ true → holds whole x ≡ true
  pub distinct : is_distinct list ≡ true

pub part_left : (p : ℕ → Bool) (xs : List ℕ) → is_distinct xs ≡ true → IsPart (filter p xs) xs
part_left p xs d = record { held = holds_left p xs; distinct = distinct_left p xs d }

pub held_passes : (q : ℕ → Bool) (ys : List ℕ) (x : ℕ) → list_all q ys ≡ true → holds ys x ≡ true → q x ≡ true
held_passes q [] x all h = absurd (clash false h refl)
held_passes q (y ∷ ys) x all h = by (x == y) refl h (held_passes q ys x (and_right (q y) (list_all q ys) all))
  where
    by : (b : Bool) → (x == y) ≡ b → (b || holds ys x) ≡ true → (holds ys x ≡ true → q x ≡ true) → q x ≡ true
    by true e h later = subst (λ z. q z ≡ true) (sym (eqb-true x y e)) (and_left (q y) (list_all q ys) all)
    by false e h later = later h

all_of_part : (q : ℕ → Bool) (list whole : List ℕ) → ((x : ℕ) → holds list x ≡ true → holds whole x ≡ true) → list_all q whole ≡ true → list_all q list ≡ true
all_of_part q [] whole held all = refl
all_of_part q (x ∷ xs) whole held all =
    and_both (q x) (list_all q xs) (held_passes q whole x all (held x (ap (λ b. b || holds xs x) (eq-eqb x x refl))))
    (all_of_part q xs whole (λ y h. held y (passes_more (y == x) (holds xs y) h)) all)

pub all_left : (q p : ℕ → Bool) (xs : List ℕ) → list_all q xs ≡ true → list_all q (filter p xs) ≡ true
all_left q p xs all = all_of_part q (filter p xs) xs (holds_left p xs) all

-- a list in its own place
pub set_same : (lists : List (List ℕ)) (v : ℕ) → v < length lists → with_route lists v (route lists v) ≡ lists
set_same [] v low = refl
set_same (l ∷ ls) zero low = refl
set_same (l ∷ ls) (suc v) low = ap (λ rest. l ∷ rest) (set_same ls v (omega (arith, low)))

active_fewer : (lists : List (List ℕ)) (v : ℕ) (list : List ℕ) → v < length lists → IsPart list (route lists v)
    → (x : ℕ) → is_active (with_route lists v list) x ≡ true → is_active lists x ≡ true
active_fewer [] v list low part x h = absurd (omega (arith, low))
active_fewer (l ∷ ls) zero list low part x h = by (holds list x) refl h
  where
    by : (b : Bool) → holds list x ≡ b → (b || is_active ls x) ≡ true → (holds l x || is_active ls x) ≡ true
    by true e h = ap (λ b. b || is_active ls x) (part.held x e)
    by false e h = passes_more (holds l x) (is_active ls x) h
active_fewer (l ∷ ls) (suc v) list low part x h = by (holds l x) h (active_fewer ls v list (omega (arith, low)) part x)
  where
    by : (b : Bool) → (b || is_active (with_route ls v list) x) ≡ true
        → (is_active (with_route ls v list) x ≡ true → is_active ls x ≡ true) → (b || is_active ls x) ≡ true
    by true h later = refl
    by false h later = later h

all_fewer : (q : ℕ → Bool) (lists : List (List ℕ)) (v : ℕ) (list : List ℕ) → v < length lists
    → IsPart list (route lists v) → list_all q (concat lists) ≡ true → list_all q (concat (with_route lists v list)) ≡ true
all_fewer q [] v list low part h = absurd (omega (arith, low))
all_fewer q (l ∷ ls) zero list low part h =
    let both = sym (list_all-append q l (concat ls)) ∙ h in
    list_all-append q list (concat ls) ∙ and_both (list_all q list) (list_all q (concat ls))
    (all_of_part q list l part.held (and_left (list_all q l) (list_all q (concat ls)) both)) (and_right (list_all q l) (list_all q (concat ls)) both)
all_fewer q (l ∷ ls) (suc v) list low part h =
    let both = sym (list_all-append q l (concat ls)) ∙ h in
    list_all-append q l (concat (with_route ls v list))
    ∙ and_both (list_all q l) (list_all q (concat (with_route ls v list))) (and_left (list_all q l) (list_all q (concat ls)) both)
    (all_fewer q ls v list (omega (arith, low)) part (and_right (list_all q l) (list_all q (concat ls)) both))

distinct_fewer : (lists : List (List ℕ)) (v : ℕ) (list : List ℕ) → v < length lists → IsPart list (route lists v)
    → is_distinct (concat lists) ≡ true → is_distinct (concat (with_route lists v list)) ≡ true
distinct_fewer [] v list low part d = absurd (omega (arith, low))
distinct_fewer (l ∷ ls) zero list low part d =
    is_distinct-both list (concat ls) part.distinct (is_distinct-right l (concat ls) d) (λ x h. is_distinct-apart l (concat ls) d x (part.held x h))
distinct_fewer (l ∷ ls) (suc v) list low part d =
    is_distinct-both l (concat (with_route ls v list)) (is_distinct-left l (concat ls) d)
    (distinct_fewer ls v list (omega (arith, low)) part (is_distinct-right l (concat ls) d))
    (λ x h. fails (holds (concat (with_route ls v list)) x) (λ there.
    clash (holds (concat ls) x)
    (sym (is_active-concat ls x) ∙ active_fewer ls v list (omega (arith, low)) part x (is_active-concat (with_route ls v list) x ∙ there))
    (is_distinct-apart l (concat ls) d x h)))

-- ---- what stays open

opened : (model : Model) (lists : List (List ℕ)) (v : ℕ) (list : List ℕ) → v < length lists → is_route_open model v list ≡ true
    → list_all (λ w. is_route_open model w (route lists w)) (vehicles lists) ≡ true
    → list_all (λ w. is_route_open model w (route (with_route lists v list) w)) (vehicles (with_route lists v list)) ≡ true
opened model lists v list low passes all = range_list_all (λ w. is_route_open model w (route (with_route lists v list) w))
    0 (length (with_route lists v list)) (λ w start end. each w (omega (arith, end, count)) (w == v) refl)
  where
    count : length (with_route lists v list) ≡ length lists
    count = length-set lists v list

    each : (w : ℕ) → w < length lists → (b : Bool) → (w == v) ≡ b → is_route_open model w (route (with_route lists v list) w) ≡ true
    each w low_w true e = let same : v ≡ w = sym (eqb-true w v e) in
        subst (λ w. is_route_open model w (route (with_route lists v list) w) ≡ true)
        same (ap (is_route_open model v) (route_set_same lists v list low) ∙ passes)
    each w low_w false e = ap (is_route_open model w) (route_set_other lists v w list (λ same. clash (w == v) (eq-eqb w v same) e))
        ∙ list_all_range (λ w. is_route_open model w (route lists w)) 0 (length lists) all w (omega arith) (omega (arith, low_w))

count_fewer : (p q : ℕ → Bool) (xs : List ℕ) → ((x : ℕ) → p x ≡ true → q x ≡ true) → length (filter p xs) ≤ length (filter q xs)
count_fewer p q [] h = omega arith
count_fewer p q (x ∷ xs) h = by (p x) (q x) (h x) (count_fewer p q xs h)
  where
    by : (a b : Bool) → (a ≡ true → b ≡ true) → length (filter p xs) ≤ length (filter q xs)
        → length (cond a (x ∷ filter p xs) (filter p xs)) ≤ length (cond b (x ∷ filter q xs) (filter q xs))
    by true true g rest = omega (arith, rest)
    by true false g rest = absurd (clash false (g refl) refl)
    by false true g rest = omega (arith, rest)
    by false false g rest = rest

fits_fewer : (groups : List Group) (lists fewer : List (List ℕ)) → ((x : ℕ) → is_active fewer x ≡ true → is_active lists x ≡ true)
    → list_all (fits_group lists) groups ≡ true → list_all (fits_group fewer) groups ≡ true
fits_fewer [] lists fewer h all = refl
fits_fewer (g ∷ gs) lists fewer h all =
    and_both (fits_group fewer g) (list_all (fits_group fewer) gs)
    (within (active_in fewer g) (active_in lists g) g.max few
    (nat_of_test (active_in lists g) g.max (and_left (fits_group lists g) (list_all (fits_group lists) gs) all)))
    (fits_fewer gs lists fewer h (and_right (fits_group lists g) (list_all (fits_group lists) gs) all))
  where
    few : active_in fewer g ≤ active_in lists g
    few = let a = length-filter (is_active fewer) g.nodes in let b = length-filter (is_active lists) g.nodes in
        let c = count_fewer (is_active fewer) (is_active lists) g.nodes h in omega (arith, a, b, c)

    within : (m n k : ℕ) → m ≤ n → n ≤ k → nat_le m k ≡ true
    within m n k h g = grind arith

-- open lists of a model stay such lists
pub built_fewer : (model : Model) (lists : List (List ℕ)) (v : ℕ) (list : List ℕ) → AreBuilt model lists
    → v < length lists → IsPart list (route lists v) → is_route_open model v list ≡ true
    → AreBuilt model (with_route lists v list)
unfolding is_open
built_fewer model lists v list built low part passes =
    let rest = and_right (length lists == length model.vehicles) _ built.are_lists in
    let count = length-set lists v list ∙ are_lists-count model lists built.are_lists in
    record {
      are_lists =
          and_both (length (with_route lists v list) == length model.vehicles) _ (eq-eqb (length (with_route lists v list)) (length model.vehicles) count)
          (and_both (list_all (is_visit model) (concat (with_route lists v list))) (is_distinct (concat (with_route lists v list)))
          (all_fewer (is_visit model) lists v list low part (and_left (list_all (is_visit model) (concat lists)) (is_distinct (concat lists)) rest))
          (distinct_fewer lists v list low part (and_right (list_all (is_visit model) (concat lists)) (is_distinct (concat lists)) rest)));
      are_open = and_both (list_all (λ w. is_route_open model w (route (with_route lists v list) w)) (vehicles (with_route lists v list)))
          (list_all (fits_group (with_route lists v list)) model.groups)
          (opened model lists v list low passes
          (and_left (list_all (λ w. is_route_open model w (route lists w)) (vehicles lists)) (list_all (fits_group lists) model.groups) built.are_open))
          (fits_fewer model.groups lists (with_route lists v list) (active_fewer lists v list low part)
          (and_right (list_all (λ w. is_route_open model w (route lists w)) (vehicles lists)) (list_all (fits_group lists) model.groups) built.are_open));
    }

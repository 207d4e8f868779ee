-- How many nodes two lists share.
use Rattle.std.proofs.Common.{◌≡◌, ◌≢◌, ℕ, zero, suc, ◌+◌, ◌-◌, ◌<◌, ◌≤◌, ◌⊎◌, inl, inr, false, cond, List, [], ◌∷◌, length, reverse, get_or, take, refl, sym}
use Rattle.std.proofs.Common.{ap, ap₂, subst, ◌∙◌, arith}
use Rattle.std.specs.Prelude.{IsTrue, ◌==◌, not, ◌||◌}
use Rattle.std.proofs.lemmas.Bool.{and_parts, cases_lt}
use Rattle.std.proofs.lemmas.List.{get_or-reverse, get_or-drop, length-reverse}
use Rattle.vr_model.specs.deciding.Testing.{or_left, or_right, test_of_eq, eq_of_test}
use Rattle.vr_model.proofs.tables.Tests.{clash, fails, fails_not}
use Rattle.vr_model.specs.routes.Routes.{holds, is_distinct, is_same, is_empty}
use Rattle.vr_model.specs.schedules.Weights.{shared_front, shared_back, walk_weight, list_weight}
use Rattle.vr_model.specs.schedules.Lines.{line}
use Rattle.vr_model.specs.declared.records.Model.{Model}
use Rattle.vr_reach.specs.Lists.{IsTour}
use Rattle.vr_reach.specs.declared.stretches.Stretch.{Stretch}
use Rattle.vr_reach.specs.Stretches.{SharesFront, IsStretchBetween}
use Rattle.vr_reach.specs.Tries.{list_tries, tries_between}

-- nodes are shared up to the first that differ
prefix_is : (xs ys : List ℕ) (a : ℕ) → a ≤ length xs → a ≤ length ys → ((j : ℕ) → j < a → get_or xs j 0 ≡ get_or ys j 0)
    → (a < length xs → a < length ys → get_or xs a 0 ≢ get_or ys a 0) → shared_front xs ys ≡ a
prefix_is [] ys zero le le_too same other = refl
prefix_is [] ys (suc a) le le_too same other = absurd (omega (arith, le))
prefix_is (x ∷ xs) [] zero le le_too same other = refl
prefix_is (x ∷ xs) [] (suc a) le le_too same other = absurd (omega (arith, le_too))
prefix_is (x ∷ xs) (y ∷ ys) zero le le_too same other =
    ap (λ b. cond b (1 + shared_front xs ys) 0) (fails (x == y) (λ t. other (omega arith) (omega arith) (eq_of_test x y t)))
prefix_is (x ∷ xs) (y ∷ ys) (suc a) le le_too same other =
    ap (λ b. cond b (1 + shared_front xs ys) 0) (test_of_eq x y (same 0 (omega arith)))
    ∙ (let e = prefix_is xs ys a (omega (arith, le)) (omega (arith, le_too)) (λ j low. same (suc j) (omega (arith, low)))
    (λ l m. other (omega (arith, l)) (omega (arith, m))) in omega (arith, e))

held_at : (xs : List ℕ) (j : ℕ) → j < length xs → IsTrue (holds xs (get_or xs j 0))
held_at [] j low = absurd (omega (arith, low))
held_at (x ∷ xs) zero low = or_left (x == x) (holds xs x) (test_of_eq x x refl)
held_at (x ∷ xs) (suc j) low = or_right (get_or xs j 0 == x) (holds xs (get_or xs j 0)) (held_at xs j (omega (arith, low)))

-- places of a list without repeats hold different nodes
apart_at : (xs : List ℕ) → IsTrue (is_distinct xs) → (i j : ℕ) → i < j → j < length xs → get_or xs i 0 ≢ get_or xs j 0
apart_at [] distinct i j order low = absurd (omega (arith, low))
apart_at (x ∷ xs) distinct i zero order low = absurd (omega (arith, order))
apart_at (x ∷ xs) distinct zero (suc j) order low = λ e.
    let parts = and_parts (not (holds xs x)) (is_distinct xs) distinct in
    clash (holds xs x) (subst (λ n. IsTrue (holds xs n)) (sym e) (held_at xs j (omega (arith, low)))) (fails_not (holds xs x) parts.0)
apart_at (x ∷ xs) distinct (suc i) (suc j) order low =
    let parts = and_parts (not (holds xs x)) (is_distinct xs) distinct in
    apart_at xs parts.1 i j (omega (arith, order)) (omega (arith, low))

read_taken : (xs ys : List ℕ) (a j : ℕ) → take a xs ≡ take a ys → a ≤ length xs → a ≤ length ys → j < a → get_or xs j 0 ≡ get_or ys j 0
read_taken xs ys a j same le le_too low = sym (of xs a j low le) ∙ (ap (λ l. get_or l j 0) same ∙ of ys a j low le_too)
  where
    of : (xs : List ℕ) (a j : ℕ) → j < a → a ≤ length xs → get_or (take a xs) j 0 ≡ get_or xs j 0
    of [] a j low le = absurd (omega (arith, low, le))
    of (x ∷ xs) zero j low le = absurd (omega (arith, low))
    of (x ∷ xs) (suc a) zero low le = refl
    of (x ∷ xs) (suc a) (suc j) low le = of xs a j (omega (arith, low)) (omega (arith, le))

module _ (old new : List ℕ) (stretch : Stretch) (is : IsStretchBetween old new stretch) where
  pub front_is : shared_front old new ≡ stretch.front
  front_is = prefix_is old new stretch.front is.front.within_old is.front.within_new
      (λ j low. read_taken old new stretch.front j is.front.same is.front.within_old is.front.within_new low) is.front_most

  at_back : (j : ℕ) → j < stretch.back → get_or old (length old - 1 - j) 0 ≡ get_or new (length new - 1 - j) 0
  at_back j low =
      let z = stretch.back in
      let le = is.back.within_old in
      let le_too = is.back.within_new in
      let i : length old - z + (z - 1 - j) ≡ length old - 1 - j = omega (arith, low, le) in
      let k : length new - z + (z - 1 - j) ≡ length new - 1 - j = omega (arith, low, le_too) in
      ap (λ n. get_or old n 0) (sym i)
      ∙ (sym (get_or-drop (length old - z) old (z - 1 - j) 0)
      ∙ (ap (λ l. get_or l (z - 1 - j) 0) is.back.same ∙ (get_or-drop (length new - z) new (z - 1 - j) 0 ∙ ap (λ n. get_or new n 0) k)))

  module _ (distinct : IsTrue (is_distinct old)) (distinct_too : IsTrue (is_distinct new))
      (changed : stretch.front < length old ⊎ stretch.front < length new) where
    -- where nothing is left of one of the lists, the other goes on with a node that it had before
    no_more : stretch.back < length old → stretch.back < length new
        → get_or old (length old - 1 - stretch.back) 0 ≢ get_or new (length new - 1 - stretch.back) 0
    no_more l m e = by (cases_lt (stretch.front + stretch.back) (length old)) (cases_lt (stretch.front + stretch.back) (length new))
      where
        a : ℕ
        a = stretch.front

        z : ℕ
        z = stretch.back

        n : ℕ
        n = length old

        k : ℕ
        k = length new

        -- the old list has nothing left, the new one has
        old_done : a + z ≡ n → a + z < k → ⊥
        old_done done more =
            let some : 0 < a = omega (arith, done, l) in
            let i : n - 1 - z ≡ a - 1 = omega (arith, done) in
            let here = read_taken old new a (a - 1) is.front.same is.front.within_old is.front.within_new (omega (arith, some)) in
            apart_at new distinct_too (a - 1) (k - 1 - z) (omega (arith, more, some)) (omega (arith, more)) (sym here ∙ (ap (λ j. get_or old j 0) (sym i) ∙ e))

        new_done : a + z ≡ k → a + z < n → ⊥
        new_done done more =
            let some : 0 < a = omega (arith, done, m) in
            let i : k - 1 - z ≡ a - 1 = omega (arith, done) in
            let here = read_taken old new a (a - 1) is.front.same is.front.within_old is.front.within_new (omega (arith, some)) in
            apart_at old distinct (a - 1) (n - 1 - z) (omega (arith, more, some)) (omega (arith, more)) (here ∙ (ap (λ j. get_or new j 0) (sym i) ∙ sym e))

        both_done : a + z ≡ n → a + z ≡ k → ⊥
        both_done done done_too = elim changed [
          | inl low ↦ (
              let here : n - 1 - (z - 1) ≡ a = omega (arith, done, low) in
              let there : k - 1 - (z - 1) ≡ a = omega (arith, done, done_too, low) in
              is.front_most low (omega (arith, done, done_too, low))
              (ap (λ j. get_or old j 0) (sym here) ∙ (at_back (z - 1) (omega (arith, done, low)) ∙ ap (λ j. get_or new j 0) there)))
          | inr low ↦ (
              let here : n - 1 - (z - 1) ≡ a = omega (arith, done, done_too, low) in
              let there : k - 1 - (z - 1) ≡ a = omega (arith, done_too, low) in
              is.front_most (omega (arith, done, done_too, low)) low
              (ap (λ j. get_or old j 0) (sym here) ∙ (at_back (z - 1) (omega (arith, done_too, low)) ∙ ap (λ j. get_or new j 0) there)))
        ]

        by : a + z < n ⊎ n ≤ a + z → a + z < k ⊎ k ≤ a + z → ⊥
        by (inl some) (inl some_too) = is.back_most some some_too e
        by (inl some) (inr done) = new_done (let h = is.apart in omega (arith, h, done)) some
        by (inr done) (inl some) = old_done (let h = is.apart_old in omega (arith, h, done)) some
        by (inr done) (inr done_too) = both_done (let h = is.apart_old in omega (arith, h, done)) (let h = is.apart in omega (arith, h, done_too))

    pub back_is : shared_back old new ≡ stretch.back
    back_is =
        let n = length-reverse old in
        let k = length-reverse new in
        let le = is.back.within_old in
        let le_too = is.back.within_new in
        prefix_is (reverse old) (reverse new) stretch.back (omega (arith, n, le)) (omega (arith, k, le_too))
        (λ j low. get_or-reverse old j 0 (omega (arith, low, le)) ∙ (at_back j low ∙ sym (get_or-reverse new j 0 (omega (arith, low, le_too)))))
        (λ l m e. let l_low : stretch.back < length old = omega (arith, l, n) in let m_low : stretch.back < length new = omega (arith, m, k) in
        no_more l_low m_low (sym (get_or-reverse old stretch.back 0 l_low) ∙ (e ∙ get_or-reverse new stretch.back 0 m_low)))

-- lists that are the same by their test are the same
same_of_test : (xs ys : List ℕ) → IsTrue (is_same xs ys) → xs ≡ ys
same_of_test [] [] t = refl
same_of_test [] (y ∷ ys) t = absurd (clash false t refl)
same_of_test (x ∷ xs) [] t = absurd (clash false t refl)
same_of_test (x ∷ xs) (y ∷ ys) t = let parts = and_parts (x == y) (is_same xs ys) t in ap₂ (λ n l. n ∷ l) (eq_of_test x y parts.0) (same_of_test xs ys parts.1)

-- one of the lists goes on behind what both share at the front
pub goes_on : (old new : List ℕ) (a : ℕ) → SharesFront old new a
    → ((a ≡ length old) × (a ≡ length new → ⊥)) ⊎ (a ≡ length old → ⊥) → a < length old ⊎ a < length new
goes_on old new a shares (inl m) = inr (let le = shares.within_new in let h = m.1 in less a (length new) le h)
  where
    less : (m n : ℕ) → m ≤ n → (m ≡ n → ⊥) → m < n
    less m n le other = grind arith
goes_on old new a shares (inr other) = inl (let le = shares.within_old in less a (length old) le other)
  where
    less : (m n : ℕ) → m ≤ n → (m ≡ n → ⊥) → m < n
    less m n le other = grind arith

-- what is told of a list that changed, by where it leaves the one before and meets it again, is told of its stretch
changed_is : (told : ℕ → ℕ → ℕ) (model : Model) (old new : List ℕ) (stretch : Stretch) → IsStretchBetween old new stretch
    → is_empty new ≡ false → IsTour model old → IsTour model new → stretch.front < length old ⊎ stretch.front < length new
    → cond (is_empty new || is_same old new) 0 (told (shared_front old new) (length new + 1 - shared_back old new))
    ≡ told stretch.front (length new - stretch.back + 1)
changed_is told model old new stretch is some tour tour_too changed =
    let differ : is_same old new ≡ false = fails (is_same old new) (λ t. same_lists (same_of_test old new t)) in
    let front = front_is old new stretch is in
    let back = back_is old new stretch is tour.distinct tour_too.distinct changed in
    let last : length new + 1 - shared_back old new ≡ length new - stretch.back + 1 = (let le = is.back.within_new in omega (arith, back, le)) in
    ap₂ (λ b t. cond (b || t) 0 (told (shared_front old new) (length new + 1 - shared_back old new))) some differ
    ∙ ap₂ told front last
  where
    same_lists : old ≡ new → ⊥
    same_lists e = elim changed [
      | inl low ↦ is.front_most low (subst (λ l. stretch.front < length l) e low) (ap (λ l. get_or l stretch.front 0) e)
      | inr low ↦ is.front_most (subst (λ l. stretch.front < length l) (sym e) low) low (ap (λ l. get_or l stretch.front 0) e)
    ]

-- the weight of a list that changed is that of the walk through its stretch
pub weight_is : (model : Model) (d v : ℕ) (old new : List ℕ) (stretch : Stretch) → IsStretchBetween old new stretch
    → is_empty new ≡ false → IsTour model old → IsTour model new → stretch.front < length old ⊎ stretch.front < length new
    → list_weight model d v old new ≡ walk_weight (line model d v new) stretch.front (length new - stretch.back + 1)
weight_is model d v old new = changed_is (walk_weight (line model d v new)) model old new

-- and walks without a break go through its stretch
pub tries_are : (model : Model) (d v : ℕ) (old new : List ℕ) (stretch : Stretch) → IsStretchBetween old new stretch
    → is_empty new ≡ false → IsTour model old → IsTour model new → stretch.front < length old ⊎ stretch.front < length new
    → list_tries model d v old new ≡ tries_between (line model d v new) stretch.front (length new - stretch.back + 1)
tries_are model d v old new = changed_is (tries_between (line model d v new)) model old new

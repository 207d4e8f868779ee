-- Counts by one test and by another one, and how pairs at places come in turn.
use Rattle.std.proofs.Common.{◌≡◌, ◌∙◌, ℕ, zero, suc, ◌+◌, ◌<◌, ◌≤◌, List, [], ◌∷◌, Bool, true, false, cond, refl, sym, ap, ap₂, subst, inl, inr, arith}
use Rattle.std.specs.Prelude.{IsTrue, nat_lt, nat_le, ◌&&◌, count_by}
use Rattle.std.proofs.lemmas.Bool.{cases_lt}
use Rattle.std.proofs.lemmas.Bool.Decides.{nat_tests}
use Rattle.std.proofs.lemmas.List.Sums.{sum_by-cons}
use Rattle.vr_model.specs.deciding.Testing.{and_left, and_right}
use Rattle.vr_model.proofs.tables.Members.{In}
use Rattle.vr_model.proofs.tables.Tests.{clash, lt_of_test, nat_of_test, test_of_lt}

-- 1 where a test passes
abbrev pub once : Bool → ℕ
once b = cond b 1 0

-- one more
pub count_more : {A : Type 0} (f : A → Bool) (x : A) (xs : List A) → count_by f (x ∷ xs) ≡ once (f x) + count_by f xs
count_more f x xs = sum_by-cons (λ x. cond (f x) 1 0) x xs

module _ {A : Type 0} (f g : A → Bool) where
  step_le : (b c : Bool) (m n : ℕ) → (b ≡ true → c ≡ true) → m ≤ n → once b + m ≤ once c + n
  step_le true true m n h low = omega (arith, low)
  step_le true false m n h low = absurd (clash false (h refl) refl)
  step_le false c m n h low = by c
    where
      by : (c : Bool) → 0 + m ≤ once c + n
      by true = omega (arith, low)
      by false = omega (arith, low)

  -- what passes one test passes the other: no more pass the one
  pub count_le : (xs : List A) → ((x : A) → In xs x → IsTrue (f x) → IsTrue (g x)) → count_by f xs ≤ count_by g xs
  count_le [] weaker = omega arith
  count_le (x ∷ xs) weaker =
      let rest = step_le (f x) (g x) (count_by f xs) (count_by g xs) (weaker x (inl refl)) (count_le xs (λ y among. weaker y (inr among))) in
      let a = count_more f x xs in
      let b = count_more g x xs in
      omega (arith, rest, a, b)

  -- and fewer do where one passes the other alone
  pub count_lt : (xs : List A) → ((x : A) → In xs x → IsTrue (f x) → IsTrue (g x))
      → (y : A) → In xs y → f y ≡ false → IsTrue (g y) → count_by f xs < count_by g xs
  count_lt [] weaker y among fails passes = absurd among
  count_lt (x ∷ xs) weaker y (inl e) fails passes =
      let rest = count_le xs (λ z among. weaker z (inr among)) in
      let a : once (f x) ≡ 0 = ap once (subst (λ z. f z ≡ false) e fails) in
      let b : once (g x) ≡ 1 = ap once (subst (λ z. g z ≡ true) e passes) in
      let c = count_more f x xs in
      let d = count_more g x xs in
      omega (arith, rest, a, b, c, d)
  count_lt (x ∷ xs) weaker y (inr more) fails passes =
      let rest = count_lt xs (λ z among. weaker z (inr among)) y more fails passes in
      let here = step_le (f x) (g x) 0 0 (weaker x (inl refl)) (omega arith) in
      let c = count_more f x xs in
      let d = count_more g x xs in
      omega (arith, rest, here, c, d)

-- two tests that the same pass
pub count_same : {A : Type 0} (f g : A → Bool) (xs : List A) → ((x : A) → In xs x → IsTrue (f x) → IsTrue (g x))
    → ((x : A) → In xs x → IsTrue (g x) → IsTrue (f x)) → count_by f xs ≡ count_by g xs
count_same f g xs forth back = let a = count_le f g xs forth in let b = count_le g f xs back in omega (arith, a, b)

step_between : (x a b m n k : ℕ) → a ≤ b → m + n ≡ k
    → (cond (nat_lt x a) 1 0 + m) + (cond (nat_le a x && nat_lt x b) 1 0 + n) ≡ cond (nat_lt x b) 1 0 + k
step_between x a b m n k order e = Prim.grind (arith, nat_tests)

-- those below a number, and those from it on below another one
pub count_between : {A : Type 0} (f : A → ℕ) (a b : ℕ) → a ≤ b → (xs : List A)
    → count_by (λ x. nat_lt (f x) a) xs + count_by (λ x. nat_le a (f x) && nat_lt (f x) b) xs ≡ count_by (λ x. nat_lt (f x) b) xs
count_between f a b order [] = omega arith
count_between {A} f a b order (x ∷ xs) =
    let before : A → Bool = λ x. nat_lt (f x) a in
    let between : A → Bool = λ x. nat_le a (f x) && nat_lt (f x) b in
    let both : A → Bool = λ x. nat_lt (f x) b in
    ap₂ (λ m n. m + n) (count_more before x xs) (count_more between x xs)
    ∙ (step_between (f x) a b (count_by before xs) (count_by between xs) (count_by both xs) order (count_between f a b order xs)
    ∙ sym (count_more both x xs))

-- ---- pairs at places

-- pairs at two places each, of n places: the one comes before the other where there is one, and none share a place
pub record AreServed {A : Type 0} (xs : List A) (p d : A → ℕ) (n : ℕ) : Type 0 where
  pub of_pickup : (x : A) → In xs x → p x < n → (p x < d x) × (d x < n)
  pub of_delivery : (x : A) → In xs x → d x < n → p x < d x
  pub apart : (x y : A) → In xs x → In xs y → p x < n → p x ≡ p y → d x ≡ d y

-- as many come before the one place of a pair as before the other place
module _ {A : Type 0} (xs : List A) (p d : A → ℕ) (n : ℕ) (served : AreServed xs p d n) where
  abbrev pub below : (A → ℕ) → ℕ → ℕ
  below f k = count_by (λ z. nat_lt (f z) k) xs

  abbrev pub IsFirstOut : Type 0
  IsFirstOut = (x y : A) → In xs x → In xs y → p x < n → p y < n → p x < p y → d x < d y

  pub first_counts : IsFirstOut → (x : A) → In xs x → p x < n → below p (p x) ≡ below d (d x)
  first_counts first x among low = count_same (λ z. nat_lt (p z) (p x)) (λ z. nat_lt (d z) (d x)) xs forth back
    where
      forth : (z : A) → In xs z → IsTrue (nat_lt (p z) (p x)) → IsTrue (nat_lt (d z) (d x))
      forth z there before =
          let order = lt_of_test (p z) (p x) before in
          test_of_lt (d z) (d x) (first z x there among (omega (arith, order, low)) low order)

      back : (z : A) → In xs z → IsTrue (nat_lt (d z) (d x)) → IsTrue (nat_lt (p z) (p x))
      back z there before =
          let order = lt_of_test (d z) (d x) before in
          let end = (served.of_pickup x among low).1 in
          let start = served.of_delivery z there (omega (arith, order, end)) in
          elim (cases_lt (p z) (p x)) [
            | inl less ↦ test_of_lt (p z) (p x) less
            | inr not_less ↦ elim (cases_lt (p x) (p z)) [
              | inl more ↦ absurd (let turned = first x z among there low (omega (arith, start, order, end)) more in omega (arith, turned, order))
              | inr not_more ↦ absurd (let e = served.apart x z among there low (omega (arith, not_less, not_more)) in omega (arith, e, order))
            ]
          ]

  pub counts_first : ((x : A) → In xs x → p x < n → below p (p x) ≡ below d (d x)) → IsFirstOut
  counts_first counts x y among there low low_too order =
      elim (cases_lt (d x) (d y)) [
        | inl less ↦ less
        | inr not_less ↦ absurd
            (let more = count_lt (λ z. nat_lt (p z) (p x)) (λ z. nat_lt (p z) (p y)) xs
            (λ z _ before. let l = lt_of_test (p z) (p x) before in test_of_lt (p z) (p y) (omega (arith, l, order)))
            x among (Prim.grind (arith, nat_tests)) (test_of_lt (p x) (p y) order) in
            let fewer = count_le (λ z. nat_lt (d z) (d y)) (λ z. nat_lt (d z) (d x)) xs
            (λ z _ before. let l = lt_of_test (d z) (d y) before in test_of_lt (d z) (d x) (omega (arith, l, not_less))) in
            let a = counts x among low in
            let b = counts y there low_too in
            omega (arith, more, fewer, a, b))
      ]

  abbrev pub IsLastOut : Type 0
  IsLastOut = (x y : A) → In xs x → In xs y → p x < n → p y < n → p x < p y → p y < d x → d y < d x

  -- those between the places of x
  abbrev within : (A → ℕ) → A → A → Bool
  within f x z = nat_le (p x + 1) (f z) && nat_lt (f z) (d x)

  abbrev pub is_level : A → Type 0
  is_level x = below p (p x + 1) + below d (d x) ≡ below p (d x) + below d (p x + 1)

  pub last_counts : IsLastOut → (x : A) → In xs x → p x < n → is_level x
  last_counts last x among low =
      let order = (served.of_pickup x among low).0 in
      let a = count_between p (p x + 1) (d x) (omega (arith, order)) xs in
      let b = count_between d (p x + 1) (d x) (omega (arith, order)) xs in
      let same = count_same (within p x) (within d x) xs forth back in
      omega (arith, a, b, same)
    where
      forth : (z : A) → In xs z → IsTrue (within p x z) → IsTrue (within d x z)
      forth z there inside =
          let after = nat_of_test (p x + 1) (p z) (and_left (nat_le (p x + 1) (p z)) (nat_lt (p z) (d x)) inside) in
          let before = lt_of_test (p z) (d x) (and_right (nat_le (p x + 1) (p z)) (nat_lt (p z) (d x)) inside) in
          let end = (served.of_pickup x among low).1 in
          let within_list : p z < n = omega (arith, before, end) in
          let order = (served.of_pickup z there within_list).0 in
          let ends = last x z among there low within_list (omega (arith, after)) before in
          (let e : within d x z ≡ true = Prim.grind (arith, nat_tests) in e)

      back : (z : A) → In xs z → IsTrue (within d x z) → IsTrue (within p x z)
      back z there inside =
          let after = nat_of_test (p x + 1) (d z) (and_left (nat_le (p x + 1) (d z)) (nat_lt (d z) (d x)) inside) in
          let before = lt_of_test (d z) (d x) (and_right (nat_le (p x + 1) (d z)) (nat_lt (d z) (d x)) inside) in
          let end = (served.of_pickup x among low).1 in
          let order = served.of_delivery z there (omega (arith, before, end)) in
          let within_list : p z < n = omega (arith, order, before, end) in
          elim (cases_lt (p x) (p z)) [
            | inl more ↦ (let e : within p x z ≡ true = Prim.grind (arith, nat_tests) in e)
            | inr not_more ↦ elim (cases_lt (p z) (p x)) [
              | inl less ↦ absurd (let turned = last z x there among within_list low less (omega (arith, after)) in omega (arith, turned, before))
              | inr not_less ↦ absurd (let e = served.apart x z among there low (omega (arith, not_less, not_more)) in omega (arith, e, before))
            ]
          ]

  -- two pairs that cross, of which one begins before place k, would have others before them
  none_cross : ((x : A) → In xs x → p x < n → is_level x) → (k : ℕ) → (x y : A) → In xs x → In xs y → p x < k → p x < p y → p y < d x → d x ≤ d y → d x < n → ⊥
  none_cross level zero x y among there low order inside crossing end = omega (arith, low)
  none_cross level (suc k) x y among there low order inside crossing end =
      let span = served.of_delivery x among end in
      let is = level x among (omega (arith, span, end)) in
      let a = count_between p (p x + 1) (d x) (omega (arith, span)) xs in
      let b = count_between d (p x + 1) (d x) (omega (arith, span)) xs in
      let fewer = count_lt (within d x) (within p x) xs
      (λ z among_too inside_too. by z among_too inside_too (λ turned. none_cross level k z x among_too among turned)) y there
      (let e : within d x y ≡ false = Prim.grind (arith, nat_tests) in e)
      (let e : within p x y ≡ true = Prim.grind (arith, nat_tests) in e) in
      omega (arith, is, a, b, fewer)
    where
      by : (z : A) → In xs z → IsTrue (within d x z) → (p z < k → p z < p x → p x < d z → d z ≤ d x → d z < n → ⊥) → IsTrue (within p x z)
      by z there inside_too none =
          let after = nat_of_test (p x + 1) (d z) (and_left (nat_le (p x + 1) (d z)) (nat_lt (d z) (d x)) inside_too) in
          let before = lt_of_test (d z) (d x) (and_right (nat_le (p x + 1) (d z)) (nat_lt (d z) (d x)) inside_too) in
          let order_too = served.of_delivery z there (omega (arith, before, end)) in
          let span = served.of_delivery x among end in
          elim (cases_lt (p x) (p z)) [
            | inl more ↦ (let e : within p x z ≡ true = Prim.grind (arith, nat_tests) in e)
            | inr not_more ↦ elim (cases_lt (p z) (p x)) [
              | inl less ↦ absurd (none (omega (arith, less, low)) less (omega (arith, after)) (omega (arith, before)) (omega (arith, before, end)))
              | inr not_less ↦
                  absurd (let e = served.apart x z among there (omega (arith, span, end)) (omega (arith, not_less, not_more)) in omega (arith, e, before))
            ]
          ]

  pub counts_last : ((x : A) → In xs x → p x < n → is_level x) → IsLastOut
  counts_last level x y among there low low_too order inside =
      elim (cases_lt (d y) (d x)) [
        | inl less ↦ less
        | inr not_less ↦ absurd (none_cross level n x y among there low order inside not_less ((served.of_pickup x among low).1))
      ]

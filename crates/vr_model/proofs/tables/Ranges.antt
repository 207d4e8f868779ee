-- The numbers below n, and loops over them: what is left of a fold, a rule or a test, where the loop stands.
use Rattle.std.proofs.Common.{◌≡◌, ℕ, zero, suc, ◌+◌, ◌-◌, ◌<◌, ◌≤◌, Bool, true, false, ◌&&◌, ◌||◌, List, [], ◌∷◌, ◌++◌, map, refl, sym, ap, ◌∙◌, arith}
use Rattle.std.proofs.Common.{add-zero}
use Rattle.std.specs.List.{list_all, list_any, range_with_len}
use Rattle.vr_model.specs.tables.Numbers.{below, from_to}

-- ---- one number more

pub range-more : (a n : ℕ) → range_with_len a (suc n) ≡ range_with_len a n ++ (a + n) ∷ []
range-more a zero = ap (λ k. k ∷ []) (sym (add-zero a))
range-more a (suc n) = ap (λ ks. a ∷ ks) (range-more (a + 1) n ∙ ap (λ k. range_with_len (a + 1) n ++ k ∷ []) (omega arith))

pub below-more : (n : ℕ) → below (n + 1) ≡ below n ++ n ∷ []
below-more n = let next : n + 1 ≡ suc n = omega arith in let same : 0 + n ≡ n = omega arith in
    ap (range_with_len 0) next ∙ range-more 0 n ∙ ap (λ k. range_with_len 0 n ++ k ∷ []) same

map-push : {A B : Type 0} (f : A → B) (xs : List A) (x : A) → map f (xs ++ x ∷ []) ≡ map f xs ++ f x ∷ []
map-push f [] x = refl
map-push f (y ∷ ys) x = ap (λ zs. f y ∷ zs) (map-push f ys x)

pub map-below_more : {A : Type 0} (f : ℕ → A) (n : ℕ) → map f (below (n + 1)) ≡ map f (below n) ++ f n ∷ []
map-below_more f n = ap (map f) (below-more n) ∙ map-push f (below n) n

-- ---- what is left

-- the first of the numbers that are left
pub first_left : (k n : ℕ) → k < n → {A : Type 0} (f : List ℕ → A) → f (from_to k n) ≡ f (k ∷ from_to (k + 1) n)
first_left k n low f = let e : n - k ≡ suc (n - (k + 1)) = omega arith in ap (λ m. f (range_with_len k m)) e

pub none_left : (k n : ℕ) → n ≤ k → from_to k n ≡ []
none_left k n high = let e : n - k ≡ 0 = omega arith in ap (range_with_len k) e

pub all_left : (n : ℕ) → from_to 0 n ≡ below n
all_left n = let e : n - 0 ≡ n = omega arith in ap (range_with_len 0) e

-- ---- any function of the numbers that are left, as a rule for all of them, or the first of what they give

module _ {R : Type 0} (walk : List ℕ → R) (n : ℕ) where
  -- no number was looked at yet
  pub walk_begins : walk (from_to 0 n) ≡ walk (below n)
  walk_begins = ap walk (all_left n)

  module _ {whole : R} (k : ℕ) (left : walk (from_to k n) ≡ whole) where
    -- the next number stands first
    pub walk_opens : k < n → walk (k ∷ from_to (k + 1) n) ≡ whole
    walk_opens low = sym (first_left k n low walk) ∙ left

    -- no number is left
    pub walk_ends : n ≤ k → walk [] ≡ whole
    walk_ends high = sym (ap walk (none_left k n high)) ∙ left

-- ---- a loop that looks for a number that passes a test

module _ (test : ℕ → Bool) (n : ℕ) where
  pub test_begins : list_any test (from_to 0 n) ≡ list_any test (below n)
  test_begins = walk_begins (list_any test) n

  module _ {whole : Bool} (k : ℕ) (left : list_any test (from_to k n) ≡ whole) where
    -- a number passed the test
    pub test_finds : k < n → test k ≡ true → true ≡ whole
    test_finds low h = sym (ap (λ b. b || list_any test (from_to (k + 1) n)) h) ∙ walk_opens (list_any test) n k left low

    -- a number failed the test
    pub test_goes_on : k < n → test k ≡ false → list_any test (from_to (k + 1) n) ≡ whole
    test_goes_on low h = sym (ap (λ b. b || list_any test (from_to (k + 1) n)) h) ∙ walk_opens (list_any test) n k left low

    -- no number passed the test
    pub test_ends : n ≤ k → false ≡ whole
    test_ends high = walk_ends (list_any test) n k left high

-- ---- a loop that asks whether all numbers pass a test

module _ (test : ℕ → Bool) (n : ℕ) where
  pub all_begin : list_all test (from_to 0 n) ≡ list_all test (below n)
  all_begin = walk_begins (list_all test) n

  module _ {whole : Bool} (k : ℕ) (left : list_all test (from_to k n) ≡ whole) where
    -- a number passed the test
    pub all_go_on : k < n → test k ≡ true → list_all test (from_to (k + 1) n) ≡ whole
    all_go_on low h = sym (ap (λ b. b && list_all test (from_to (k + 1) n)) h) ∙ walk_opens (list_all test) n k left low

    -- a number failed the test
    pub all_stop : k < n → test k ≡ false → false ≡ whole
    all_stop low h = sym (ap (λ b. b && list_all test (from_to (k + 1) n)) h) ∙ walk_opens (list_all test) n k left low

    -- all numbers passed the test
    pub all_end : n ≤ k → true ≡ whole
    all_end high = walk_ends (list_all test) n k left high

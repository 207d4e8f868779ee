-- Two sums whose terms differ at two places alone, and none of whose terms is below 0.
use Rattle.std.proofs.Common.{◌≡◌, ◌≢◌, ◌∙◌, ◌⊎◌, inl, inr, ℕ, zero, suc, ◌+◌, ◌<◌, ◌≤◌, true, false, cond, nat_lt, sym, ap, arith}
use Rattle.std.specs.Prelude.{ℤ, pos, ◌+ℤ◌, ◌≤ℤ◌, ◌==◌}
use Rattle.std.proofs.lemmas.Int.{ints}
use Rattle.std.proofs.lemmas.Bool.{le-ltb, lt-ltb}
use Rattle.std.proofs.lemmas.Bool.Decides.{eqb_tells}
use Rattle.vr_model.specs.tables.Numbers.{below, total_by}
use Rattle.vr_model.proofs.tables.Totals.{total_by-more}

-- the sum over one number more
more : (f : ℕ → ℤ) (n : ℕ) → total_by f (below (suc n)) ≡ total_by f (below n) +ℤ f n
more f n = ap (λ k. total_by f (below k)) one ∙ total_by-more f n
  where
    one : suc n ≡ n + 1
    one = omega arith

module _ (g : ℕ → ℤ) where
  -- the term at a place, once the sum has come to it
  abbrev pub term : ℕ → ℕ → ℤ
  term x n = cond (nat_lt x n) (g x) (pos 0)

  pub term_none : (x n : ℕ) → n ≤ x → term x n ≡ pos 0
  term_none x n high = ap (λ b. cond b (g x) (pos 0)) (le-ltb x n high)

  pub term_there : (x n : ℕ) → x < n → term x n ≡ g x
  term_there x n low = ap (λ b. cond b (g x) (pos 0)) (lt-ltb x n low)

  term_stays : (x n : ℕ) → x ≢ n → term x (suc n) ≡ term x n
  term_stays x n apart = ap (λ b. cond b (g x) (pos 0)) (same apart)
    where
      same : x ≢ n → nat_lt x (suc n) ≡ nat_lt x n
      same other = Prim.grind (arith, other)

  term_comes : (x n : ℕ) → x ≡ n → term x (suc n) ≡ term x n +ℤ g n
  term_comes x n here =
      let none = term_none x n (omega (arith, here)) in
      let there = term_there x (suc n) (omega (arith, here)) in
      let same = ap g here in
      omega (arith, ints, none, there, same)

  term_grows : (x n : ℕ) → pos 0 ≤ℤ g n → term x n ≤ℤ term x (suc n)
  term_grows x n low = elim (eqb_tells x n) [
    | inl at ↦ (let comes = term_comes x n at.1 in omega (arith, ints, comes, low))
    | inr apart ↦ (let stays = term_stays x n apart.1 in omega (arith, ints, stays))
  ]

module _ (g h : ℕ → ℤ) (most : ℕ) (g_low : (u : ℕ) → u < most → pos 0 ≤ℤ g u)
    (h_low : (u : ℕ) → u < most → pos 0 ≤ℤ h u) (v w : ℕ) (same : (u : ℕ) → u ≢ v → u ≢ w → g u ≡ h u) where
  -- one sum is above the other by no more than the two terms
  pub two_terms : (n : ℕ) → n ≤ most → total_by g (below n) ≤ℤ (total_by h (below n) +ℤ (term g v n +ℤ term g w n))
  two_terms zero few =
      let a = term_none g v 0 (omega arith) in
      let b = term_none g w 0 (omega arith) in
      omega (arith, ints, a, b)
  two_terms (suc n) few = step (eqb_tells v n) (eqb_tells w n) (two_terms n (omega (arith, few)))
    where
      low : pos 0 ≤ℤ g n
      low = g_low n (omega (arith, few))

      later_low : pos 0 ≤ℤ h n
      later_low = h_low n (omega (arith, few))

      step : ((v == n) ≡ true × (v ≡ n)) ⊎ ((v == n) ≡ false × (v ≢ n)) → ((w == n) ≡ true × (w ≡ n)) ⊎ ((w == n) ≡ false × (w ≢ n))
          → total_by g (below n) ≤ℤ (total_by h (below n) +ℤ (term g v n +ℤ term g w n))
          → total_by g (below (suc n)) ≤ℤ (total_by h (below (suc n)) +ℤ (term g v (suc n) +ℤ term g w (suc n)))
      step (inl at) other before = omega (arith, ints, before, more g n, more h n, later_low, term_comes g v n at.1, term_grows g w n low)
      step (inr apart) (inl at) before = omega (arith, ints, before, more g n, more h n, later_low, term_stays g v n apart.1, term_comes g w n at.1)
      step (inr apart) (inr too) before =
          let here = same n (λ e. apart.1 (sym e)) (λ e. too.1 (sym e)) in
          omega (arith, ints, before, more g n, more h n, here, term_stays g v n apart.1, term_stays g w n too.1)

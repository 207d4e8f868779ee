-- The nodes of a piece: its first and last one, and the costs between.
use Rattle.std.proofs.Common.{◌≡◌, ◌∙◌, ℕ, suc, ◌+◌, ◌-◌, ◌<◌, ◌≤◌, Bool, true, false, cond, List, length, reverse, refl, ap, subst, arith}
use Rattle.std.specs.Prelude.{ℤ, slice_range, slice_index_or, All}
use Rattle.std.proofs.lemmas.List.{get_or-reverse, length-reverse}
use Rattle.std.proofs.lemmas.List.Edits.{get_or-between, length-between}
use Rattle.vr_balance.specs.Sums.{last_of}
use Rattle.vr_arccosts.specs.Chains.{chain_of, chain_sum, turned}
use Rattle.vr_arccosts.proofs.ChainLemmas.{last-at, last-reversed, chain-turned}

module _ (list : List ℕ) (f t : ℕ) (order : f < t) (within : t ≤ length list) where
  many : length (slice_range list f t) ≡ t - f
  many = length-between list f t within

  pub chain-length : (back : Bool) → length (chain_of back list f t) ≡ t - f
  chain-length false = many
  chain-length true = length-reverse (slice_range list f t) ∙ many

  first : slice_index_or (slice_range list f t) 0 0 ≡ slice_index_or list f 0
  first = let low : f + 0 < t = omega (arith, order) in let e : f + 0 ≡ f = omega arith in get_or-between list f t 0 0 low ∙ ap (λ k. slice_index_or list k 0) e

  last : (k : ℕ) → k ≡ length (slice_range list f t) - 1 → slice_index_or (slice_range list f t) k 0 ≡ slice_index_or list (t - 1) 0
  last k e =
      let here : k ≡ (t - f) - 1 = e ∙ ap (λ n. n - 1) many in
      let low : f + k < t = omega (arith, order, here) in
      let there : f + k ≡ t - 1 = omega (arith, order, here) in
      get_or-between list f t k 0 low ∙ ap (λ j. slice_index_or list j 0) there

  some : 0 < length (slice_range list f t)
  some = omega (arith, many, order)

  pub chain-first : (back : Bool) → slice_index_or (chain_of back list f t) 0 0 ≡ cond back (slice_index_or list (t - 1) 0) (slice_index_or list f 0)
  chain-first false = first
  chain-first true = get_or-reverse (slice_range list f t) 0 0 some ∙ last (length (slice_range list f t) - 1 - 0) (omega arith)

  pub chain-last : (back : Bool) (at : ℕ) → last_of at (chain_of back list f t) ≡ cond back (slice_index_or list f 0) (slice_index_or list (t - 1) 0)
  chain-last false at =
      let k : ℕ = length (slice_range list f t) - 1 in
      let e : length (slice_range list f t) ≡ suc k = omega (arith, some) in
      last-at at (slice_range list f t) k e ∙ last k refl
  chain-last true at = last-reversed at (slice_range list f t) some ∙ first

pub chain-costs : (cost : ℕ → ℕ → ℤ) (list : List ℕ) (f t : ℕ) (back : Bool)
    → chain_sum (turned back cost) (slice_range list f t) ≡ chain_sum cost (chain_of back list f t)
chain-costs cost list f t false = refl
chain-costs cost list f t true = chain-turned cost (slice_range list f t)

pub all-reversed : (P : ℕ → Type 0) (xs : List ℕ) → All P (reverse xs) → All P xs
all-reversed P xs h k d low =
    let j : ℕ = length xs - 1 - k in
    let here : length xs - 1 - j ≡ k = omega (arith, low) in
    let under : j < length xs = omega (arith, low) in
    let same : slice_index_or (reverse xs) j d ≡ slice_index_or xs k d = get_or-reverse xs j d under ∙ ap (λ n. slice_index_or xs n d) here in
    subst P same (h j d (let l = length-reverse xs in omega (arith, under, l)))

pub all-of-chain : (P : ℕ → Type 0) (list : List ℕ) (f t : ℕ) (back : Bool) → All P (chain_of back list f t) → All P (slice_range list f t)
all-of-chain P list f t false h = h
all-of-chain P list f t true h = all-reversed P (slice_range list f t) h

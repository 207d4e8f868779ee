-- The least inactive visit from a number on.
use Rattle.std.proofs.Common.{◌⊎◌, inl, inr, ◌≡◌, ◌∙◌, ◌<◌, ◌≤◌, ℕ, List, length, get_or, ap, subst, arith}
use Rattle.std.specs.Prelude.{find, nat_le, nat_lt, slice_get, true, false}
use Rattle.std.specs.List.Sorted.{IsPartitionPoint, IsPartitionedBy, IsStrictlyIncreasing}
use Rattle.std.proofs.lemmas.Bool.{cases_lt}
use Rattle.std.proofs.lemmas.List.Folds.{find_at}
use Rattle.std.proofs.lemmas.List.Kept.{AllPairs-from_increasing}
use Rattle.std.proofs.lemmas.List.Sums.{position_or_len_is}

-- of two numbers of which the first is no greater, both are below a number or the second is not
lower_too : (x y node : ℕ) → x ≤ y → nat_lt y node ≡ true → nat_lt x node ≡ true
lower_too x y node order below = Prim.grind arith

not_lower : (x node : ℕ) → nat_lt x node ≡ true → nat_le node x ≡ false
not_lower x node below = Prim.grind arith

not_below : (x node : ℕ) → nat_lt x node ≡ false → nat_le node x ≡ true
not_below x node above = Prim.grind arith

-- where numbers ascend, those below a number come first
pub lower_first : (xs : List ℕ) (node : ℕ) → IsStrictlyIncreasing xs → IsPartitionedBy (λ x. nat_lt x node) xs
lower_first xs node ascend i j d order low below = by (cases_lt i j)
  where
    by : (i < j) ⊎ (j ≤ i) → nat_lt (get_or xs i d) node ≡ true
    by (inl before) = lower_too (get_or xs i d) (get_or xs j d) node (let h = AllPairs-from_increasing xs ascend i j d before low in omega (arith, h)) below
    by (inr past) = subst (λ k. nat_lt (get_or xs k d) node ≡ true) (omega (arith, order, past)) below

-- the first one that is not below
pub first_from : (xs : List ℕ) (node i : ℕ) → i ≤ length xs
    → IsPartitionPoint (λ x. nat_lt x node ≡ true) (λ x. nat_lt x node ≡ false) xs i
    → find (λ x. nat_le node x) xs ≡ slice_get xs i
first_from xs node i low h =
    find_at (λ x. nat_le node x) xs
    ∙ ap (slice_get xs) (position_or_len_is (λ x. nat_le node x) xs i 0 low
    (λ k before. not_lower (get_or xs k 0) node (h.0 k 0 (omega arith) before))
    (λ here. not_below (get_or xs i 0) node (h.1 i 0 (omega arith) here)))

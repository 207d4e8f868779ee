use Rattle.std.proofs.Common.{◌≡◌, ◌<◌, ◌≤◌, ℕ, List, rules, true, false, arith}
use Rattle.std.specs.Prelude.{nat_lt, slice_index}
use Rattle.std.proofs.lemmas.List.Sorted.{IsPartitionPoint-from_clause}
use Rattle.vr_routes.proofs.InactiveLemmas.{lower_first}
use Rattle.vr_arccosts.proofs.swaps.place_from.Goals as goal

pub returns-clause-below : goal.returns-clause-below
returns-clause-below c k low =
    let xs : List ℕ = c.args.visits.now in
    let from : ℕ = c.args.from in
    let point = IsPartitionPoint-from_clause (λ x. nat_lt x from) xs _ c.partition_point.ensures.partitioned
    (lower_first xs from c.requires.ascending) (λ a r q k. search rules) in
    below-of (slice_index xs k) from (point.0 k 0 (omega arith) low)
  where
    below-of : (x y : ℕ) → nat_lt x y ≡ true → x < y
    below-of x y t = Prim.grind arith

pub returns-clause-above : goal.returns-clause-above
returns-clause-above c k order low =
    let xs : List ℕ = c.args.visits.now in
    let from : ℕ = c.args.from in
    let point = IsPartitionPoint-from_clause (λ x. nat_lt x from) xs _ c.partition_point.ensures.partitioned
    (lower_first xs from c.requires.ascending) (λ a r q k. search rules) in
    above-of (slice_index xs k) from (point.1 k 0 order low)
  where
    above-of : (x y : ℕ) → nat_lt x y ≡ false → y ≤ x
    above-of x y t = Prim.grind arith

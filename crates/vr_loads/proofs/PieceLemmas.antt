-- What is taken along the pieces of a list.
use Rattle.std.proofs.Common.{◌≡◌, ◌∙◌, ℕ, ◌+◌, ◌-◌, ◌*◌, ◌<◌, ◌≤◌, Bool, true, false, List, length, take, reverse, refl, sym, ap, subst, arith, to_z, of_z}
use Rattle.std.proofs.Common.{w64}
use Rattle.std.specs.Prelude.{ℤ, ◌+ℤ◌, slice_range, slice_index_or, All}
use Rattle.std.proofs.lemmas.Int.{ints}
use Rattle.std.proofs.lemmas.List.{get_or-reverse, length-reverse}
use Rattle.std.proofs.lemmas.List.Edits.{length-between}
use Rattle.vr_model.specs.tables.Numbers.{total_by}
use Rattle.vr_model.specs.routes.Routes.{route}
use Rattle.vr_model.proofs.tables.Totals.{total_by-append}
use Rattle.vr_routes.specs.declared.pieces.Piece.{Piece}
use Rattle.vr_routes.specs.declared.pieces.Piece.TheVariants.{Chain}
use Rattle.vr_routes.specs.Pieces.{joined, nodes_of}
use Rattle.vr_routes.proofs.JoinedPieces.{joined_next}
use Rattle.vr_balance.specs.Sums.{last_of, IsUpTo}
use Rattle.vr_balance.proofs.Paths.{read-up, sums-between}
use Rattle.vr_loads.specs.Kept.{at_target, AreTaken, IsTotalAlong}
use Rattle.vr_loads.proofs.Totals.{AreSmall, total-bounds, total-reversed, up-to-few}
use Rattle.vr_loads.proofs.ValueLemmas.{taken-total}

-- ---- one piece more

pub total-piece : (f : ℕ → ℤ) (lists : List (List ℕ)) (pieces : List Piece) (k : ℕ) (d : Piece) → k < length pieces
    → total_by f (joined lists (take (k + 1) pieces)) ≡ total_by f (joined lists (take k pieces)) +ℤ total_by f (nodes_of lists (slice_index_or pieces k d))
total-piece f lists pieces k d low = ap (total_by f) (joined_next lists pieces k d low)
    ∙ total_by-append f (joined lists (take k pieces)) (nodes_of lists (slice_index_or pieces k d))

-- ---- what holds of all nodes

all-reversed : (P : ℕ → Type 0) (xs : List ℕ) → All P (reverse xs) → All P xs
all-reversed P xs h k d low =
    let j : ℕ = length xs - 1 - k in
    let here : length xs - 1 - j ≡ k = omega (arith, low) in
    let under : j < length xs = omega (arith, low) in
    let same : slice_index_or (reverse xs) j d ≡ slice_index_or xs k d = get_or-reverse xs j d under ∙ ap (λ n. slice_index_or xs n d) here in
    subst P same (h j d (let l = length-reverse xs in omega (arith, under, l)))

pub all-of-chain : (P : ℕ → Type 0) (lists : List (List ℕ)) (v from to : ℕ) (back : Bool)
    → All P (nodes_of lists (Chain v from to back)) → All P (slice_range (route lists v) from to)
all-of-chain P lists v from to false h = h
all-of-chain P lists v from to true h = all-reversed P (slice_range (route lists v) from to) h

-- the direction of a chain does not matter
pub chain-total : (f : ℕ → ℤ) (lists : List (List ℕ)) (v from to : ℕ) (back : Bool)
    → total_by f (slice_range (route lists v) from to) ≡ total_by f (nodes_of lists (Chain v from to back))
chain-total f lists v from to false = refl
chain-total f lists v from to true = sym (total-reversed f (slice_range (route lists v) from to))

-- a chain's sum, and how it is read
module _ (f : ℕ → ℤ) (small : AreSmall f) (lists : List (List ℕ)) (v from to : ℕ) (back : Bool) (within : to ≤ length (route lists v)) where
  -- of a short list
  pub chain-up : length (route lists v) ≤ 1000 → IsUpTo 1001 (total_by f (nodes_of lists (Chain v from to back)))
  chain-up few =
      let u = up-to-few f small (slice_range (route lists v) from to)
      (let n = length-between (route lists v) from to within in omega (arith, n, few, within)) in
      subst (IsUpTo 1001) (chain-total f lists v from to back) (record { low = u.low; high = omega (arith, ints, u.high) })

  -- of a list whose sums are kept
  pub chain-kept : (sums : List ℤ) → AreTaken f (route lists v) sums → from ≤ to → IsUpTo 1001 (total_by f (nodes_of lists (Chain v from to back)))
  chain-kept sums h order =
      let many = h.many in
      let few = h.range.few in
      let low : to < length sums = omega (arith, many, within) in
      let b = sums-between (at_target f) 0 (route lists v) sums from to h order low in
      let t = taken-total f (last_of 0 (take from (route lists v))) (slice_range (route lists v) from to) in
      let x = h.range.each to low in
      let y = h.range.each from (omega (arith, low, order)) in
      let z = total-bounds f small (slice_range (route lists v) from to) in
      subst (IsUpTo 1001) (chain-total f lists v from to back) (record { low = z.low; high = omega (arith, ints, b, t, x.high, y.low, few, low) })

  pub chain-along : (piece : Piece) → piece ≡ Chain v from to back → IsUpTo 1001 (total_by f (nodes_of lists (Chain v from to back)))
      → (result : ℤ) → result ≡ total_by f (slice_range (route lists v) from to) → IsTotalAlong f (nodes_of lists piece) (to_z w64 (of_z w64 result))
  chain-along piece is_chain up result is =
      let nodes : List ℕ = nodes_of lists (Chain v from to back) in
      let read : to_z w64 (of_z w64 result) ≡ total_by f nodes = ap (λ x. to_z w64 (of_z w64 x)) (is ∙ chain-total f lists v from to back)
      ∙ read-up 1001 (total_by f nodes) up (omega arith) in
      subst (λ p. IsTotalAlong f (nodes_of lists p) (to_z w64 (of_z w64 result)))
      (sym is_chain) (record { value = read; range = subst (IsUpTo 1001) (sym read) up })

-- one piece more, and how it is read
module _ (f : ℕ → ℤ) (lists : List (List ℕ)) (pieces : List Piece) (k : ℕ) (d : Piece) (low : k < length pieces) (few : length pieces ≤ 8) (sum more : ℤ)
    (is : sum ≡ total_by f (joined lists (take k pieces))) (up : IsUpTo (1001 * k) sum)
    (next : more ≡ total_by f (nodes_of lists (slice_index_or pieces k d))) (up_next : IsUpTo 1001 more) where
  plain : to_z w64 (of_z w64 (sum +ℤ to_z w64 (of_z w64 more))) ≡ sum +ℤ more
  plain = omega (arith, ints, up.low, up.high, up_next.low, up_next.high, low, few)

  pub piece-read : to_z w64 (of_z w64 (sum +ℤ to_z w64 (of_z w64 more))) ≡ total_by f (joined lists (take (k + 1) pieces))
  piece-read = let t = total-piece f lists pieces k d low in plain ∙ omega (arith, ints, is, next, t)

  pub piece-up : IsUpTo (1001 * (k + 1)) (to_z w64 (of_z w64 (sum +ℤ to_z w64 (of_z w64 more))))
  piece-up =
      subst (IsUpTo (1001 * (k + 1))) (sym plain) (record { low = omega (arith, ints, up.low, up_next.low); high = omega (arith, ints, up.high, up_next.high) })

-- What is added up over the nodes of lists, of pieces of them, and of the lists after a change.
use Rattle.std.proofs.Common.{◌≡◌, ◌≢◌, ◌∙◌, ℕ, suc, ◌+◌, ◌-◌, ◌<◌, ◌≤◌, Bool, true, false, List, [], ◌∷◌, length, take, drop, sum_by, All, refl, sym, ap}
use Rattle.std.proofs.Common.{arith}
use Rattle.std.specs.Prelude.{slice_range, slice_set, reverse}
use Rattle.std.specs.List.{AllPairs}
use Rattle.std.proofs.lemmas.List.{take_all}
use Rattle.std.proofs.lemmas.List.Concat.{flat_map-cons}
use Rattle.std.proofs.lemmas.List.Folds.{drop_split}
use Rattle.std.proofs.lemmas.List.Sorted.{sum_by-IsPermutation, IsPermutation-reverse}
use Rattle.std.proofs.lemmas.List.Sums.{sum_by-append, sum_by-cons, sum_by-set}
use Rattle.std.proofs.lemmas.List.{length-set}
use Rattle.vr_model.specs.routes.Routes.{route}
use Rattle.vr_model.proofs.routes.Lists.{route_set_other}
use Rattle.vr_routes.specs.declared.pieces.Piece.{Piece}
use Rattle.vr_routes.specs.declared.pieces.Piece.TheVariants.{Chain}
use Rattle.vr_routes.specs.Pieces.{ListAfter, nodes_of, joined, with_parts, changed, no_part, part_at}
use Rattle.vr_routes.specs.Changes.{AreParts}
use Rattle.vr_balance.specs.Balances.{over_lists, over_pieces}

-- a chain, whichever way it goes
pub sum-chain : (f : ℕ → ℕ) (lists : List (List ℕ)) (v from to : ℕ) (reversed : Bool)
    → sum_by f (nodes_of lists (Chain v from to reversed)) ≡ sum_by f (slice_range (route lists v) from to)
sum-chain f lists v from to false = refl
sum-chain f lists v from to true = sum_by-IsPermutation f (slice_range (route lists v) from to)
    (reverse (slice_range (route lists v) from to)) (IsPermutation-reverse (slice_range (route lists v) from to))

-- two stretches of a list that meet
pub sum-between : (f : ℕ → ℕ) (xs : List ℕ) (a b c : ℕ) → a ≤ b → b ≤ c
    → sum_by f (slice_range xs a c) ≡ sum_by f (slice_range xs a b) + sum_by f (slice_range xs b c)
sum-between f xs a b c order next =
    let one : sum_by f (drop a xs) ≡ sum_by f (slice_range xs a b) + sum_by f (drop b xs) = ap (sum_by f) (drop_split xs a b order)
    ∙ sum_by-append f (slice_range xs a b) (drop b xs) in
    let two : sum_by f (drop b xs) ≡ sum_by f (slice_range xs b c) + sum_by f (drop c xs) = ap (sum_by f) (drop_split xs b c next)
    ∙ sum_by-append f (slice_range xs b c) (drop c xs) in
    let all : sum_by f (drop a xs) ≡ sum_by f (slice_range xs a c) + sum_by f (drop c xs) = ap (sum_by f) (drop_split xs a c (omega (arith, order, next)))
    ∙ sum_by-append f (slice_range xs a c) (drop c xs) in
    omega (arith, one, two, all)

-- nothing, and a whole list
pub sum-nothing : (f : ℕ → ℕ) (xs : List ℕ) (a b : ℕ) → b ≤ a → sum_by f (slice_range xs a b) ≡ 0
sum-nothing f xs a b order = let e : b - a ≡ 0 = omega (arith, order) in ap (λ n. sum_by f (take n (drop a xs))) e

pub sum-all : (f : ℕ → ℕ) (xs : List ℕ) (n : ℕ) → n ≡ length xs → sum_by f (slice_range xs 0 n) ≡ sum_by f xs
sum-all f xs n e = ap (sum_by f) (take_all (n - 0) xs (omega (arith, e)))

-- pieces that are joined
pub sum-joined : (f : ℕ → ℕ) (lists : List (List ℕ)) (pieces : List Piece) → sum_by f (joined lists pieces) ≡ over_pieces f lists pieces
sum-joined f lists [] = refl
sum-joined f lists (p ∷ ps) =
    ap (sum_by f) (flat_map-cons (nodes_of lists) p ps) ∙ sum_by-append f (nodes_of lists p) (joined lists ps)
    ∙ ap (λ n. sum_by f (nodes_of lists p) + n) (sum-joined f lists ps) ∙ sym (sum_by-cons (λ piece. sum_by f (nodes_of lists piece)) p ps)

-- what the parts of a change have, and what their vehicles had
abbrev pub over_new : (ℕ → ℕ) → List (List ℕ) → List ListAfter → ℕ
over_new f old parts = sum_by (λ part. sum_by f (joined old part.pieces)) parts

abbrev pub over_old : (ℕ → ℕ) → List (List ℕ) → List ListAfter → ℕ
over_old f lists parts = sum_by (λ part. sum_by f (route lists part.vehicle)) parts

-- vehicles other than one that gets another list
old-apart : (f : ℕ → ℕ) (lists : List (List ℕ)) (v : ℕ) (list : List ℕ) (parts : List ListAfter) → ((k : ℕ) → k < length parts → v ≢ (part_at parts k).vehicle)
    → over_old f (slice_set lists v list) parts ≡ over_old f lists parts
old-apart f lists v list [] apart = refl
old-apart f lists v list (p ∷ ps) apart =
    let rest = old-apart f lists v list ps (λ k low. apart (suc k) (omega (arith, low))) in
    let here : sum_by f (route (slice_set lists v list) p.vehicle) ≡ sum_by f (route lists p.vehicle) = ap (sum_by f)
    (route_set_other lists v p.vehicle list (λ e. apart 0 (omega arith) (sym e))) in
    let before = sum_by-cons (λ part. sum_by f (route lists part.vehicle)) p ps in
    let after = sum_by-cons (λ part. sum_by f (route (slice_set lists v list) part.vehicle)) p ps in
    omega (arith, rest, here, before, after)

with-parts : (f : ℕ → ℕ) (old : List (List ℕ)) (parts : List ListAfter) (lists : List (List ℕ))
    → All (λ part. part.vehicle < length lists) parts → AllPairs (λ p q. p.vehicle ≢ q.vehicle) parts
    → over_lists f (with_parts old parts lists) + over_old f lists parts ≡ over_lists f lists + over_new f old parts
with-parts f old [] lists known apart = refl
with-parts f old (p ∷ ps) lists known apart =
    let list : List ℕ = joined old p.pieces in
    let next : List (List ℕ) = slice_set lists p.vehicle list in
    let rest = with-parts f old ps next
    (λ k d low. let m = length-set lists p.vehicle list in let h = known (suc k) d (omega (arith, low)) in omega (arith, m, h))
    (λ i j d order low. apart (suc i) (suc j) d (omega (arith, order)) (omega (arith, low))) in
    let others = old-apart f lists p.vehicle list ps (λ k low. apart 0 (suc k) no_part (omega arith) (omega (arith, low))) in
    let one = sum_by-set (λ l. sum_by f l) lists p.vehicle list [] (known 0 no_part (omega arith)) in
    let olds = sum_by-cons (λ part. sum_by f (route lists part.vehicle)) p ps in
    let news = sum_by-cons (λ part. sum_by f (joined old part.pieces)) p ps in
    omega (arith, rest, others, one, olds, news)

-- the lists after a change
pub over-changed : (f : ℕ → ℕ) (lists : List (List ℕ)) (parts : List ListAfter) → AreParts lists parts
    → over_lists f (changed lists parts) + over_old f lists parts ≡ over_lists f lists + over_new f lists parts
over-changed f lists parts are = with-parts f lists parts lists are.each_vehicle are.apart

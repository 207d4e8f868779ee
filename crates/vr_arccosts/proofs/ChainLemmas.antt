-- Sums of arc costs along lists, taken apart.
use Rattle.std.proofs.Common.{◌≡◌, ◌∙◌, ℕ, zero, suc, ◌+◌, ◌-◌, ◌<◌, ◌≤◌, Bool, true, false, List, [], ◌∷◌, ◌++◌, length, reverse, take, refl, sym, ap, arith}
use Rattle.std.specs.Prelude.{ℤ, pos, ◌+ℤ◌, ◌≤ℤ◌, slice_index_or, All}
use Rattle.std.proofs.lemmas.List.Elements.{All-take}
use Rattle.std.proofs.lemmas.Int.{ints}
use Rattle.std.proofs.lemmas.List.{reverse-append}
use Rattle.vr_model.specs.declared.records.Model.{Model}
use Rattle.vr_model.specs.tables.WellFormed.{IsWellFormed}
use Rattle.vr_model.specs.tables.Tables.{arc_cost, entry, vehicle_at}
use Rattle.vr_model.proofs.tables.Bounds.{arc_cost_in_range}
use Rattle.vr_balance.specs.Sums.{path_sum, last_of, IsUpTo}
use Rattle.vr_balance.proofs.Paths.{last-append, path-append}
use Rattle.vr_arccosts.specs.Chains.{chain_sum, turned}

-- a path whose first step is told
pub path-first : (cost : ℕ → ℕ → ℤ) (at : ℕ) (xs : List ℕ) → 0 < length xs → path_sum cost at xs ≡ cost at (slice_index_or xs 0 0) +ℤ chain_sum cost xs
path-first cost at [] low = absurd (omega (arith, low))
path-first cost at (x ∷ xs) low = refl

last-place : (x : ℕ) (xs : List ℕ) → last_of x xs ≡ slice_index_or (x ∷ xs) (length xs) 0
last-place x [] = refl
last-place x (y ∷ ys) = last-place y ys

pub last-at : (at : ℕ) (xs : List ℕ) (k : ℕ) → length xs ≡ suc k → last_of at xs ≡ slice_index_or xs k 0
last-at at [] k e = absurd (omega (arith, e))
last-at at (x ∷ xs) k e = let same : length xs ≡ k = omega (arith, e) in last-place x xs ∙ ap (λ n. slice_index_or (x ∷ xs) n 0) same

-- one node more
pub chain-more : (cost : ℕ → ℕ → ℤ) (list : List ℕ) (k : ℕ) → suc k < length list
    → chain_sum cost (take (suc (suc k)) list) ≡ chain_sum cost (take (suc k) list) +ℤ cost (slice_index_or list k 0) (slice_index_or list (suc k) 0)
chain-more cost [] k low = absurd (omega (arith, low))
chain-more cost (x ∷ []) k low = absurd (omega (arith, low))
chain-more cost (x ∷ y ∷ ys) zero low = omega (arith, ints)
chain-more cost (x ∷ y ∷ ys) (suc k) low = let i = chain-more cost (y ∷ ys) k (omega (arith, low)) in omega (arith, ints, i)

-- the arcs of a list backwards are those of the reversed list
chain-two : (cost : ℕ → ℕ → ℤ) (zs : List ℕ) (y x : ℕ) → chain_sum cost ((zs ++ y ∷ []) ++ x ∷ []) ≡ chain_sum cost (zs ++ y ∷ []) +ℤ cost y x
chain-two cost [] y x = omega (arith, ints)
chain-two cost (z ∷ zs) y x =
    let s = path-append cost z (zs ++ y ∷ []) (x ∷ []) in
    let l : cost (last_of z (zs ++ y ∷ [])) x ≡ cost y x = ap (λ n. cost n x) (last-append z zs (y ∷ [])) in
    omega (arith, ints, s, l)

path-turned : (cost : ℕ → ℕ → ℤ) (x : ℕ) (xs : List ℕ) → path_sum (turned true cost) x xs ≡ chain_sum cost (reverse xs ++ x ∷ [])
path-turned cost x [] = refl
path-turned cost x (y ∷ ys) =
    let i = path-turned cost y ys in
    let t = chain-two cost (reverse ys) y x in
    let r : chain_sum cost (reverse (y ∷ ys) ++ x ∷ []) ≡ chain_sum cost ((reverse ys ++ y ∷ []) ++ x ∷ []) = ap (λ l. chain_sum cost (l ++ x ∷ []))
    (reverse-append (y ∷ []) ys) in
    omega (arith, ints, i, t, r)

pub chain-turned : (cost : ℕ → ℕ → ℤ) (xs : List ℕ) → chain_sum (turned true cost) xs ≡ chain_sum cost (reverse xs)
chain-turned cost [] = refl
chain-turned cost (x ∷ xs) = path-turned cost x xs ∙ ap (chain_sum cost) (sym (reverse-append (x ∷ []) xs))

pub last-reversed : (at : ℕ) (xs : List ℕ) → 0 < length xs → last_of at (reverse xs) ≡ slice_index_or xs 0 0
last-reversed at [] low = absurd (omega (arith, low))
last-reversed at (x ∷ xs) low = ap (last_of at) (reverse-append (x ∷ []) xs) ∙ last-append at (reverse xs) (x ∷ [])

-- ---- bounds

-- each arc between nodes below n costs 0 or more, and b at most
pub record AreCosts (n : ℕ) (cost : ℕ → ℕ → ℤ) : Type 0 where
  pub low : (i j : ℕ) → i < n → j < n → pos 0 ≤ℤ cost i j
  pub high : (i j : ℕ) → i < n → j < n → cost i j ≤ℤ pos 1099511627776

pub rest-below : (P : ℕ → Type 0) (x : ℕ) (xs : List ℕ) → All P (x ∷ xs) → All P xs
rest-below P x xs h k d low = h (suc k) d (omega (arith, low))

pub path-bounds : (n : ℕ) (cost : ℕ → ℕ → ℤ) → AreCosts n cost → (at : ℕ) (xs : List ℕ)
    → at < n → All (λ node. node < n) xs → IsUpTo (length xs) (path_sum cost at xs)
path-bounds n cost h at [] here all = record { low = omega (arith, ints); high = omega (arith, ints) }
path-bounds n cost h at (x ∷ xs) here all =
    let next : x < n = all 0 0 (omega arith) in
    let i = path-bounds n cost h x xs next (rest-below (λ node. node < n) x xs all) in
    record { low = omega (arith, ints, i.low, h.low at x here next); high = omega (arith, ints, i.high, h.high at x here next) }

pub chain-bounds : (n : ℕ) (cost : ℕ → ℕ → ℤ) → AreCosts n cost → (xs : List ℕ) → All (λ node. node < n) xs → IsUpTo (length xs) (chain_sum cost xs)
chain-bounds n cost h [] all = record { low = omega (arith, ints); high = omega (arith, ints) }
chain-bounds n cost h (x ∷ xs) all =
    let i = path-bounds n cost h x xs (all 0 0 (omega arith)) (rest-below (λ node. node < n) x xs all) in
    record { low = i.low; high = omega (arith, ints, i.high) }

pub last-below : (P : ℕ → Type 0) (at : ℕ) (xs : List ℕ) → P at → All P xs → P (last_of at xs)
last-below P at [] here all = here
last-below P at (x ∷ xs) here all = last-below P x xs (all 0 0 (omega arith)) (rest-below P x xs all)

pub costs-of : (model : Model) → IsWellFormed model → (v : ℕ) → v < length model.vehicles
    → (back : Bool) → AreCosts model.nodes (turned back (arc_cost model v))
costs-of model well v known false = record {
  low = λ i j low next. (arc_cost_in_range model well v i j known low next).at_least;
  high = λ i j low next. (arc_cost_in_range model well v i j known low next).at_most;
}
costs-of model well v known true = record {
  low = λ i j low next. (arc_cost_in_range model well v j i known next low).at_least;
  high = λ i j low next. (arc_cost_in_range model well v j i known next low).at_most;
}

take-few : (k : ℕ) (xs : List ℕ) → length (take k xs) ≤ k
take-few zero xs = omega arith
take-few (suc k) [] = omega arith
take-few (suc k) (x ∷ xs) = let i = take-few k xs in omega (arith, i)

-- the sum up to a place
pub so-far : (n : ℕ) (cost : ℕ → ℕ → ℤ) → AreCosts n cost → (xs : List ℕ) → All (λ node. node < n) xs → (k : ℕ) → IsUpTo k (chain_sum cost (take k xs))
so-far n cost h xs all k =
    let b = chain-bounds n cost h (take k xs) (All-take (λ node. node < n) k xs all) in
    let few = take-few k xs in
    record { low = b.low; high = omega (arith, ints, few, b.high) }

pub chain-one : (cost : ℕ → ℕ → ℤ) (xs : List ℕ) → chain_sum cost (take 1 xs) ≡ pos 0
chain-one cost [] = refl
chain-one cost (x ∷ xs) = refl

-- one node more, counted otherwise
pub chain-next : (cost : ℕ → ℕ → ℤ) (list : List ℕ) (k : ℕ) → 1 ≤ k → k < length list
    → chain_sum cost (take (k + 1) list) ≡ chain_sum cost (take k list) +ℤ cost (slice_index_or list (k - 1) 0) (slice_index_or list k 0)
chain-next cost list zero some low = absurd (omega (arith, some))
chain-next cost list (suc k) some low =
    let e : suc k - 1 ≡ k = omega arith in
    let f : suc k + 1 ≡ suc (suc k) = omega arith in
    rw (e, f) (chain-more cost list k low)

-- the costs along 1000 nodes at most
pub up-to-few : (model : Model) → IsWellFormed model → (v : ℕ) → v < length model.vehicles → (back : Bool) (xs : List ℕ)
    → length xs ≤ 1000 → All (λ node. node < model.nodes) xs → IsUpTo 1000 (chain_sum (turned back (arc_cost model v)) xs)
up-to-few model well v known back xs few all =
    let b = chain-bounds model.nodes (turned back (arc_cost model v)) (costs-of model well v known back) xs all in
    record { low = b.low; high = omega (arith, ints, few, b.high) }

-- vehicles with the same costs
pub same-costs : (model : Model) (v w : ℕ) (back : Bool) (xs : List ℕ) → (vehicle_at model v).costs ≡ (vehicle_at model w).costs
    → chain_sum (turned back (arc_cost model w)) xs ≡ chain_sum (turned back (arc_cost model v)) xs
same-costs model v w back xs e = ap (λ m. chain_sum (turned back (entry model m)) xs) (sym e)

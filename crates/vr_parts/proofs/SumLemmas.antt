-- Sums over the lists of vehicles change by the changed lists alone.
use Rattle.std.proofs.Common.{◌≡◌, ◌≢◌, ◌∙◌, ℕ, zero, suc, ◌+◌, ◌<◌, ◌≤◌, ◌⊎◌, List, [], ◌∷◌, ◌++◌, length, take, add-one, refl, sym, ap, inl, inr, arith}
use Rattle.std.proofs.Common.{length-set}
use Rattle.std.specs.Prelude.{ℤ, ◌+ℤ◌, ◌-ℤ◌, slice_index_or, All}
use Rattle.std.proofs.lemmas.Int.{ints}
use Rattle.std.proofs.lemmas.Bool.{cases_lt}
use Rattle.std.proofs.lemmas.List.{get_or-take, get_or_default, length-take-le, take_all, take_more}
use Rattle.std.proofs.Math.Seq.{take-suc}
use Rattle.vr_model.specs.tables.Numbers.{total_by}
use Rattle.vr_model.specs.routes.Routes.{route}
use Rattle.vr_model.specs.moves.Moves.{with_route}
use Rattle.vr_model.proofs.tables.Totals.{sum_range, sum_same, total_by-append}
use Rattle.vr_routes.specs.declared.pieces.Piece.{Piece}
use Rattle.vr_routes.specs.Pieces.{ListAfter, joined, no_part, part_at, with_parts, changed}
use Rattle.vr_routes.specs.Changes.{AreParts}
use Rattle.vr_model.proofs.routes.Lists.{route_set_same, route_set_other}
use Rattle.vr_routes.proofs.CommitLemmas.{as_many_lists}
use Rattle.vr_routes.proofs.PartLemmas.{part_is}
use Rattle.vr_parts.specs.Sums.{sum_over_routes, part_change}

-- a sum over one value more of a list
pub total-more : {A : Type 0} (f : A → ℤ) (xs : List A) (k : ℕ) (d : A) → k < length xs
    → total_by f (take (k + 1) xs) ≡ total_by f (take k xs) +ℤ f (slice_index_or xs k d)
total-more f xs k d low =
    let a = ap (total_by f) (take_more xs k d low) in
    let b = total_by-append f (take k xs) (slice_index_or xs k d ∷ []) in
    omega (arith, ints, a, b)

-- two sums over a range that differ at one place
sum-but : (g h : ℕ → ℤ) (a n v : ℕ) → a ≤ v → v < a + n → ((u : ℕ) → u ≢ v → g u ≡ h u) → sum_range g a n +ℤ h v ≡ sum_range h a n +ℤ g v
sum-but g h a zero v low high same = absurd (omega (arith, low, high))
sum-but g h a (suc n) v low high same = go (cases_lt a v) (λ less. sum-but g h (a + 1) n v (omega (arith, less)) (omega (arith, high)) same)
  where
    go : (a < v) ⊎ (v ≤ a) → (a < v → sum_range g (a + 1) n +ℤ h v ≡ sum_range h (a + 1) n +ℤ g v) → sum_range g a (suc n) +ℤ h v ≡ sum_range h a (suc n) +ℤ g v
    go (inl less) rest =
        let i = rest less in
        let e = same a (λ e. absurd (omega (arith, e, less))) in
        omega (arith, ints, i, e)
    go (inr more) _ =
        let here : a ≡ v = omega (arith, low, more) in
        let rest = sum_same g h (a + 1) n (λ u above under. same u (λ e. absurd (omega (arith, e, above, more)))) in
        let x = ap g here in
        let y = ap h here in
        omega (arith, ints, rest, x, y)

-- one list of another
pub over-set : (f : ℕ → List ℕ → ℤ) (lists : List (List ℕ)) (v : ℕ) (list : List ℕ) → v < length lists
    → sum_over_routes f (with_route lists v list) ≡ sum_over_routes f lists +ℤ (f v list -ℤ f v (route lists v))
over-set f lists v list low =
    let set : List (List ℕ) = with_route lists v list in
    let b = sum-but (λ u. f u (route set u)) (λ u. f u (route lists u)) 0 (length lists) v
    (omega arith) (omega (arith, low)) (λ u other. ap (f u) (route_set_other lists v u list other)) in
    let here = ap (f v) (route_set_same lists v list low) in
    let many = ap (sum_range (λ u. f u (route set u)) 0) (length-set lists v list) in
    omega (arith, ints, b, here, many)

pub with-parts-push : (old : List (List ℕ)) (parts : List ListAfter) (part : ListAfter) (lists : List (List ℕ))
    → with_parts old (parts ++ part ∷ []) lists ≡ with_route (with_parts old parts lists) part.vehicle (joined old part.pieces)
with-parts-push old [] part lists = refl
with-parts-push old (p ∷ parts) part lists = with-parts-push old parts part (with_route lists p.vehicle (joined old p.pieces))

-- the lists after the first k parts
abbrev pub upto : List (List ℕ) → List ListAfter → ℕ → List (List ℕ)
upto lists parts k = with_parts lists (take k parts) lists

pub upto-next : (lists : List (List ℕ)) (parts : List ListAfter) (k : ℕ) → k < length parts
    → upto lists parts (suc k) ≡ with_route (upto lists parts k) (part_at parts k).vehicle (joined lists (part_at parts k).pieces)
upto-next lists parts k low = ap (λ ps. with_parts lists ps lists) (take-suc parts k no_part low) ∙ with-parts-push lists (take k parts) (part_at parts k) lists

pub upto-many : (lists : List (List ℕ)) (parts : List ListAfter) (k : ℕ) → length (upto lists parts k) ≡ length lists
upto-many lists parts k = as_many_lists lists (take k parts)

-- a list that no part gives away stays
pub route-kept : (old : List (List ℕ)) (parts : List ListAfter) (lists : List (List ℕ)) (v : ℕ)
    → All (λ part. v ≢ part.vehicle) parts → route (with_parts old parts lists) v ≡ route lists v
route-kept old [] lists v away = refl
route-kept old (p ∷ parts) lists v away =
    route-kept old parts (with_route lists p.vehicle (joined old p.pieces)) v (λ k d low. away (suc k) d (omega (arith, low)))
    ∙ route_set_other lists p.vehicle v (joined old p.pieces) (away 0 no_part (omega arith))

-- the list of a part is the old one until it is its turn
pub upto-kept : (lists : List (List ℕ)) (parts : List ListAfter) → AreParts lists parts → (k : ℕ)
    → k < length parts → route (upto lists parts k) (part_at parts k).vehicle ≡ route lists (part_at parts k).vehicle
upto-kept lists parts are k low = route-kept lists (take k parts) lists (part_at parts k).vehicle away
  where
    away : All (λ part. (part_at parts k).vehicle ≢ part.vehicle) (take k parts)
    away j d under e =
        let many = length-take-le k parts (omega (arith, low)) in
        let less : j < k = omega (arith, under, many) in
        are.apart j k no_part less low (ap (λ p. p.vehicle) (sym (get_or-take k parts j no_part less)) ∙ ap (λ p. p.vehicle) (default j d under) ∙ sym e)
      where
        default : (j : ℕ) (d : ListAfter) → j < length (take k parts) → slice_index_or (take k parts) j no_part ≡ slice_index_or (take k parts) j d
        default j d under = get_or_default (take k parts) j no_part d under

-- one part more
pub change-next : (f : ℕ → List ℕ → ℤ) (lists : List (List ℕ)) (parts : List ListAfter) (k : ℕ) → k < length parts
    → total_by (part_change f lists) (take (suc k) parts) ≡ total_by (part_change f lists) (take k parts) +ℤ part_change f lists (part_at parts k)
change-next f lists parts k low = ap (λ n. total_by (part_change f lists) (take n parts)) (sym (add-one k))
    ∙ total-more (part_change f lists) parts k no_part low

module _ (f : ℕ → List ℕ → ℤ) (lists : List (List ℕ)) (parts : List ListAfter) (are : AreParts lists parts) where
  sum-upto : (k : ℕ) → k ≤ length parts → sum_over_routes f (upto lists parts k) ≡ sum_over_routes f lists +ℤ total_by (part_change f lists) (take k parts)
  sum-upto zero low = omega (arith, ints)
  sum-upto (suc k) low =
      let part : ListAfter = part_at parts k in
      let under : k < length parts = omega (arith, low) in
      let i = sum-upto k (omega (arith, low)) in
      let next = ap (sum_over_routes f) (upto-next lists parts k under) in
      let known : part.vehicle < length (upto lists parts k) =
      (let a = are.each_vehicle k no_part under in let m = upto-many lists parts k in omega (arith, a, m)) in
      let one = over-set f (upto lists parts k) part.vehicle (joined lists part.pieces) known in
      let kept = ap (f part.vehicle) (upto-kept lists parts are k under) in
      let more = change-next f lists parts k under in
      omega (arith, ints, i, next, one, kept, more)

  -- the sum over the vehicles after a change is the one before, and what the parts add
  pub changed-sum : sum_over_routes f (changed lists parts) ≡ sum_over_routes f lists +ℤ total_by (part_change f lists) parts
  changed-sum =
      let all = take_all (length parts) parts (omega arith) in
      let s = sum-upto (length parts) (omega arith) in
      let a = ap (λ ps. sum_over_routes f (with_parts lists ps lists)) all in
      let b = ap (total_by (part_change f lists)) all in
      omega (arith, ints, s, a, b)

-- the list of a part after the change is what its pieces are joined to
pub part-list : (lists : List (List ℕ)) (parts : List ListAfter) → AreParts lists parts → (k : ℕ)
    → k < length parts → route (changed lists parts) (part_at parts k).vehicle ≡ joined lists (part_at parts k).pieces
part-list = part_is

-- ---- the loop over the parts of a change

-- what the first k + 1 parts add, from what the first k add
pub sum-step : (f : ℕ → List ℕ → ℤ) (lists : List (List ℕ)) (parts : List ListAfter) (k v : ℕ) (pieces : List Piece) (sum next : ℤ) → k < length parts
    → v ≡ (part_at parts k).vehicle → pieces ≡ (part_at parts k).pieces
    → sum ≡ total_by (part_change f lists) (take k parts) → next ≡ f v (joined lists pieces) -ℤ f v (route lists v)
    → sum +ℤ next ≡ total_by (part_change f lists) (take (k + 1) parts)
sum-step f lists parts k v pieces sum next low vehicle same so_far value =
    let part : ListAfter = part_at parts k in
    let more = change-next f lists parts k low ∙ refl in
    let e = ap (λ n. total_by (part_change f lists) (take n parts)) (add-one k) in
    let a = ap (λ l. f v (joined lists l)) same ∙ ap (λ w. f w (joined lists part.pieces)) vehicle in
    let b = ap (λ w. f w (route lists w)) vehicle in
    omega (arith, ints, more, e, a, b, so_far, value)

-- what all parts add is the difference of the sums
pub sum-whole : (f : ℕ → List ℕ → ℤ) (lists : List (List ℕ)) (parts : List ListAfter) → AreParts lists parts → (k : ℕ) (sum : ℤ) → length parts ≤ k
    → sum ≡ total_by (part_change f lists) (take k parts) → sum ≡ sum_over_routes f (changed lists parts) -ℤ sum_over_routes f lists
sum-whole f lists parts are k sum high so_far =
    let all = ap (total_by (part_change f lists)) (take_all k parts high) in
    let s = changed-sum f lists parts are in
    omega (arith, ints, all, s, so_far)

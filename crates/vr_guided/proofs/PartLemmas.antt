-- What other pieces make of the penalised arc costs of a vehicle, and what all parts of a change make of them.
use Rattle.std.proofs.Common.{◌≡◌, ◌≢◌, ◌∙◌, ℕ, zero, suc, ◌+◌, ◌*◌, ◌^◌, ◌-◌, to_z, of_z, ◌<◌, ◌≤◌, true, false, cond, nat_lt, List, [], ◌∷◌, ◌++◌, length}
use Rattle.std.proofs.Common.{length-set, take, drop, refl, sym, ap, ap₂, subst, inl, inr, arith, append_assoc}
use Rattle.std.specs.Prelude.{ℤ, pos, negsuc, unsigned_abs, ◌+ℤ◌, ◌-ℤ◌, ◌≤ℤ◌, ◌==◌, ◌⊎◌, All, IsTrue, slice_range, slice_set, slice_index_or}
use Rattle.std.specs.Int.{w128}
use Rattle.std.proofs.lemmas.Int.{ints}
use Rattle.std.proofs.lemmas.Bool.{le-ltb, lt-ltb}
use Rattle.std.proofs.lemmas.Bool.Decides.{eqb_tells}
use Rattle.std.proofs.lemmas.List.{drop-drop, take-append-drop, length-append, length-drop}
use Rattle.vr_model.specs.tables.Numbers.{below, total_by}
use Rattle.vr_model.specs.tables.Tables.{vehicle_at}
use Rattle.vr_model.specs.routes.Routes.{are_lists, arcs_of, cost_of_arc, route, used_arcs, vehicles}
use Rattle.vr_model.specs.search.GuidedSearches.{Penalties, no_penalties, penalised}
use Rattle.vr_model.specs.declared.records.Model.{Model}
use Rattle.vr_model.proofs.tables.Totals.{total_by-more}
use Rattle.vr_routes.specs.declared.pieces.Piece.{Piece}
use Rattle.vr_routes.specs.Changes.{AreParts}
use Rattle.vr_routes.specs.Pieces.{ListAfter, IsSplice, changed, joined, no_part, part_at}
use Rattle.vr_model.specs.routes.Rules.{is_valid}
use Rattle.vr_model.proofs.routes.Lists.{are-lists, are_lists-count, route-below, route-few, route_set_same, route_set_other}
use Rattle.vr_model.specs.tables.WellFormed.{IsWellFormed}
use Rattle.std.proofs.Math.IntN.{zero-*ℤ}
use Rattle.vr_routes.proofs.PartLemmas.{part_is}
use Rattle.vr_guided.specs.Parts.{IsPart, weight_change}
use Rattle.vr_guided.specs.Walks.{route_weight, stretch_weight, unused_weight, arc_weight}
use Rattle.vr_balance.specs.Sums.{last_of}
use Rattle.vr_guided.proofs.LocalChanges.{along, local_change, total_by_each}

-- a list in three parts
three : (xs : List ℕ) (a b : ℕ) → a ≤ b → xs ≡ take a xs ++ (slice_range xs a b ++ drop b xs)
three xs a b order =
    let sum : a + (b - a) ≡ b = omega (arith, order) in
    sym (take-append-drop a xs) ∙ ap (λ ys. take a xs ++ ys)
    (sym (take-append-drop (b - a) (drop a xs)) ∙ ap (λ ys. take (b - a) (drop a xs) ++ ys) (drop-drop (b - a) a xs ∙ ap (λ k. drop k xs) sum))

less_none : (a u : ℤ) → u ≡ pos 0 → a ≡ a -ℤ u
less_none a u e = omega (arith, ints, e)

module _ (model : Model) (p : Penalties) (v : ℕ) where
  abbrev start : ℕ
  start = (vehicle_at model v).start

  abbrev end : ℕ
  end = (vehicle_at model v).end

  -- a vehicle with visits does not go from its start to its end
  pub used : (len : ℕ) → 1 ≤ len → unused_weight model p v len ≡ pos 0
  used len some = ap (λ b. cond b (arc_weight model p (record { vehicle = v; origin = start; target = end })) (pos 0)) (differs len some)
    where
      differs : (len : ℕ) → 1 ≤ len → (len == 0) ≡ false
      differs len some = Prim.grind (arith, some)

  -- a vehicle without visits takes no arc
  pub bare : (xs : List ℕ) → route_weight model p v xs ≡ stretch_weight model p v start xs end -ℤ unused_weight model p v (length xs)
  bare [] = omega (arith, ints)
  bare (x ∷ xs) = less_none (stretch_weight model p v start (x ∷ xs) end) (unused_weight model p v (length (x ∷ xs))) (used (length (x ∷ xs)) (omega arith))

  joins_end : (front middle rest others : List ℕ) (next : ℕ) → rest ++ end ∷ [] ≡ next ∷ others
      → (front ++ (middle ++ rest)) ++ end ∷ [] ≡ front ++ (middle ++ next ∷ others)
  joins_end front middle rest others next e = append_assoc front (middle ++ rest) (end ∷ [])
      ∙ ap (λ xs. front ++ xs) (append_assoc middle rest (end ∷ []) ∙ ap (λ xs. middle ++ xs) e)

  -- only the changed stretch counts
  pub middle_value : (list middle : List ℕ) (front behind next : ℕ) (others : List ℕ) → front ≤ behind → drop behind list ++ end ∷ [] ≡ next ∷ others
      → route_weight model p v (take front list ++ (middle ++ drop behind list)) -ℤ route_weight model p v list
      ≡ (stretch_weight model p v (last_of start (take front list)) middle next
      -ℤ unused_weight model p v (length (take front list ++ (middle ++ drop behind list))))
      -ℤ (stretch_weight model p v (last_of start (take front list)) (slice_range list front behind) next -ℤ unused_weight model p v (length list))
  middle_value list middle front behind next others order e =
      let new : List ℕ = take front list ++ (middle ++ drop behind list) in
      let w = arc_weight model p in
      let after : along (arc_weight model p) v start (new ++ end ∷ []) ≡ along (arc_weight model p) v start (take front list ++ (middle ++ next ∷ others))
      = ap (along (arc_weight model p) v start) (joins_end (take front list) middle (drop behind list) others next e) in
      let before : along (arc_weight model p) v start (list ++ end ∷ []) ≡ along (arc_weight model p)
      v start (take front list ++ (slice_range list front behind ++ next ∷ others))
      = ap (along (arc_weight model p) v start) (ap (λ xs. xs ++ end ∷ []) (three list front behind order)
      ∙ joins_end (take front list) (slice_range list front behind) (drop behind list) others next e) in
      let local = local_change (arc_weight model p) v start next (take front list) (slice_range list front behind) middle others in
      omega (arith, ints, bare new, bare list, after, before, local)

  -- of pieces too
  pub part_value : (lists : List (List ℕ)) (pieces middle : List Piece) (front behind next : ℕ) (others : List ℕ)
      → IsSplice lists v pieces front behind middle → drop behind (route lists v) ++ end ∷ [] ≡ next ∷ others
      → route_weight model p v (joined lists pieces) -ℤ route_weight model p v (route lists v)
      ≡ (stretch_weight model p v (last_of start (take front (route lists v))) (joined lists middle) next
      -ℤ unused_weight model p v (length (joined lists pieces)))
      -ℤ (stretch_weight model p v (last_of start (take front (route lists v))) (slice_range (route lists v) front behind) next
      -ℤ unused_weight model p v (length (route lists v)))
  part_value lists pieces middle front behind next others ends e =
      subst (λ xs. route_weight model p v xs -ℤ route_weight model p v (route lists v)
      ≡ (stretch_weight model p v (last_of start (take front (route lists v))) (joined lists middle) next -ℤ unused_weight model p v (length xs))
      -ℤ (stretch_weight model p v (last_of start (take front (route lists v))) (slice_range (route lists v) front behind) next
      -ℤ unused_weight model p v (length (route lists v))))
      (sym ends.joins) (middle_value (route lists v) (joined lists middle) front behind next others ends.order e)

-- the lengths of the three parts of the new list
pub new_length : (lists : List (List ℕ)) (v : ℕ) (pieces middle : List Piece) (front behind : ℕ) → IsSplice lists v pieces front behind middle
    → length (joined lists pieces) ≡ front + length (joined lists middle) + (length (route lists v) - behind)
new_length lists v pieces middle front behind ends =
    let order = ends.order in
    let high = ends.high in
    let whole = ap length (three (route lists v) front behind ends.order) in
    let all = length-append (take front (route lists v)) (drop front (route lists v)) in
    let same = ap length (take-append-drop front (route lists v)) in
    let dropped = length-drop front (route lists v) in
    let last = length-drop behind (route lists v) in
    let sum = ap length ends.joins ∙ length-append (take front (route lists v)) (joined lists middle ++ drop behind (route lists v)) in
    let rest = length-append (joined lists middle) (drop behind (route lists v)) in
    omega (arith, order, high, all, same, dropped, last, sum, rest)

-- ---- sums over vehicles

module _ (g : ℕ → List ℕ → ℤ) (lists : List (List ℕ)) (v : ℕ) (xs : List ℕ) (low : v < length lists) where
  sum_set : (n : ℕ) → total_by (λ w. g w (route (slice_set lists v xs) w)) (below n)
      ≡ total_by (λ w. g w (route lists w)) (below n) +ℤ cond (nat_lt v n) (g v xs -ℤ g v (route lists v)) (pos 0)
  sum_set zero = ap (λ b. pos 0 +ℤ cond b (g v xs -ℤ g v (route lists v)) (pos 0)) (sym (le-ltb v 0 (omega arith)))
  sum_set (suc n) = at (eqb_tells v n) (sum_set n)
    where
      one : suc n ≡ n + 1
      one = omega arith

      more : (f : ℕ → ℤ) → total_by f (below (suc n)) ≡ total_by f (below n) +ℤ f n
      more f = ap (λ k. total_by f (below k)) one ∙ total_by-more f n

      at : ((v == n) ≡ true × (v ≡ n)) ⊎ ((v == n) ≡ false × (v ≢ n)) → total_by (λ w. g w (route (slice_set lists v xs) w)) (below n)
          ≡ total_by (λ w. g w (route lists w)) (below n) +ℤ cond (nat_lt v n) (g v xs -ℤ g v (route lists v)) (pos 0)
          → total_by (λ w. g w (route (slice_set lists v xs) w)) (below (suc n))
          ≡ total_by (λ w. g w (route lists w)) (below (suc n)) +ℤ cond (nat_lt v (suc n)) (g v xs -ℤ g v (route lists v)) (pos 0)
      at (inl e) h =
          let new : g n (route (slice_set lists v xs) n) ≡ g v xs = ap (λ w. g w (route (slice_set lists v xs) w)) (sym e.1)
          ∙ ap (g v) (route_set_same lists v xs low) in
          let old : g n (route lists n) ≡ g v (route lists v) = ap (λ w. g w (route lists w)) (sym e.1) in
          let same = e.1 in
          let not_yet : nat_lt v n ≡ false = le-ltb v n (omega (arith, same)) in
          let now : nat_lt v (suc n) ≡ true = lt-ltb v (suc n) (omega (arith, same)) in
          let before = h ∙ ap (λ b. total_by (λ w. g w (route lists w)) (below n) +ℤ cond b (g v xs -ℤ g v (route lists v)) (pos 0)) not_yet in
          let sums : total_by (λ w. g w (route (slice_set lists v xs) w)) (below (suc n)) ≡
          total_by (λ w. g w (route lists w)) (below (suc n)) +ℤ (g v xs -ℤ g v (route lists v))
          = omega (arith, ints, more (λ w. g w (route (slice_set lists v xs) w)), more (λ w. g w (route lists w)), new, old, before) in
          sums ∙ ap (λ b. total_by (λ w. g w (route lists w)) (below (suc n)) +ℤ cond b (g v xs -ℤ g v (route lists v)) (pos 0)) (sym now)
      at (inr e) h =
          let here : g n (route (slice_set lists v xs) n) ≡ g n (route lists n) = ap (g n) (route_set_other lists v n xs (λ q. e.1 (sym q))) in
          let apart = e.1 in
          let same : nat_lt v n ≡ nat_lt v (suc n) = Prim.grind (arith, apart) in
          let before = h ∙ ap (λ b. total_by (λ w. g w (route lists w)) (below n) +ℤ cond b (g v xs -ℤ g v (route lists v)) (pos 0)) same in
          omega (arith, ints, more (λ w. g w (route (slice_set lists v xs) w)), more (λ w. g w (route lists w)), here, before)

module _ (model : Model) (p : Penalties) where
  -- what all arcs add up to, vehicle by vehicle
  pub sums : (lists : List (List ℕ)) → penalised model p lists ≡ total_by (λ v. route_weight model p v (route lists v)) (below (length lists))
  sums lists = total_by_each (arc_weight model p) (λ v. arcs_of model v (route lists v)) (vehicles lists)

  -- one list is changed
  pub one_changed : (lists : List (List ℕ)) (v : ℕ) (xs : List ℕ) → v < length lists
      → penalised model p (slice_set lists v xs) -ℤ penalised model p lists ≡ route_weight model p v xs -ℤ route_weight model p v (route lists v)
  one_changed lists v xs low =
      let all = sum_set (route_weight model p) lists v xs low (length lists)
      ∙ ap (λ b. total_by (λ w. route_weight model p w (route lists w)) (below (length lists))
      +ℤ cond b (route_weight model p v xs -ℤ route_weight model p v (route lists v)) (pos 0)) (lt-ltb v (length lists) low) in
      let new = sums (slice_set lists v xs)
      ∙ ap (λ k. total_by (λ w. route_weight model p w (route (slice_set lists v xs) w)) (below k)) (length-set lists v xs) in
      omega (arith, ints, all, new, sums lists)

  -- two lists are changed
  pub two_changed : (lists : List (List ℕ)) (v w : ℕ) (xs ys : List ℕ) → v < length lists → w < length lists → v ≢ w
      → penalised model p (slice_set (slice_set lists v xs) w ys) -ℤ penalised model p lists
      ≡ (route_weight model p v xs -ℤ route_weight model p v (route lists v)) +ℤ (route_weight model p w ys -ℤ route_weight model p w (route lists w))
  two_changed lists v w xs ys low low_w apart =
      let first = one_changed lists v xs low in
      let second = one_changed (slice_set lists v xs) w ys (subst (λ k. w < k) (sym (length-set lists v xs)) low_w) in
      let other = ap (route_weight model p w) (route_set_other lists v w xs (λ q. apart (sym q))) in
      omega (arith, ints, first, second, other)

-- ---- parts of a change

none_there : {A : Type 0} (k : ℕ) → k < 0 → A
none_there k low = absurd (never low)
  where
    never : k < 0 → ⊥
    never h = omega (arith, h)

one_part : (model : Model) (p : Penalties) (lists : List (List ℕ)) (parts : List ListAfter) → AreParts lists parts → length parts ≡ 1 → (d : ListAfter)
    → penalised model p (changed lists parts) -ℤ penalised model p lists ≡ weight_change model p lists (slice_index_or parts 0 d)
one_part model p lists [] are one d = none_there 0 (omega (arith, one))
one_part model p lists (q ∷ []) are one d = one_changed model p lists q.vehicle (joined lists q.pieces) (are.each_vehicle 0 d (omega arith))
one_part model p lists (q ∷ (r ∷ rest)) are one d = none_there (length rest) (omega (arith, one))

two_parts : (model : Model) (p : Penalties) (lists : List (List ℕ)) (parts : List ListAfter) → AreParts lists parts → length parts ≡ 2 → (d : ListAfter)
    → penalised model p (changed lists parts) -ℤ penalised model p lists
    ≡ weight_change model p lists (slice_index_or parts 0 d) +ℤ weight_change model p lists (slice_index_or parts 1 d)
two_parts model p lists [] are two d = none_there 0 (omega (arith, two))
two_parts model p lists (q ∷ []) are two d = none_there 0 (omega (arith, two))
two_parts model p lists (q ∷ (r ∷ [])) are two d =
    two_changed model p lists q.vehicle r.vehicle (joined lists q.pieces) (joined lists r.pieces)
    (are.each_vehicle 0 d (omega arith)) (are.each_vehicle 1 d (omega arith)) (are.apart 0 1 d (omega arith) (omega arith))
two_parts model p lists (q ∷ (r ∷ (t ∷ rest))) are two d = none_there (length rest) (omega (arith, two))

-- ---- bounds

-- a number within bounds is of a size within them
pub within : (z : ℤ) (n m most : ℕ) → negsuc n ≤ℤ z → z ≤ℤ pos m → n < most → m ≤ most → unsigned_abs z ≤ most
within (pos k) n m most low high below above = omega (arith, ints, high, above)
within (negsuc k) n m most low high below above = omega (arith, ints, low, below)

-- ---- in 128 bits

-- what is worked out in 128 bits is the difference
pub as_read : (n o u w : ℤ) → pos 0 ≤ℤ n → n ≤ℤ pos (1001 * 2 ^ 70) → pos 0 ≤ℤ o
    → o ≤ℤ pos (1001 * 2 ^ 70) → pos 0 ≤ℤ u → u ≤ℤ pos (2 ^ 70) → pos 0 ≤ℤ w → w ≤ℤ pos (2 ^ 70)
    → to_z w128 (of_z w128 (to_z w128 (of_z w128 (to_z w128 (of_z w128 n) -ℤ to_z w128 (of_z w128 w)))
    -ℤ to_z w128 (of_z w128 (to_z w128 (of_z w128 o) -ℤ to_z w128 (of_z w128 u))))) ≡ (n -ℤ w) -ℤ (o -ℤ u)
as_read n o u w n_low n_high o_low o_high u_low u_high w_low w_high =
    let after : to_z w128 (of_z w128 (to_z w128 (of_z w128 n) -ℤ to_z w128 (of_z w128 w))) ≡ n -ℤ w = omega (arith, ints, n_low, n_high, w_low, w_high) in
    let before : to_z w128 (of_z w128 (to_z w128 (of_z w128 o) -ℤ to_z w128 (of_z w128 u))) ≡ o -ℤ u = omega (arith, ints, o_low, o_high, u_low, u_high) in
    let same : to_z w128 (of_z w128 ((n -ℤ w) -ℤ (o -ℤ u))) ≡ (n -ℤ w) -ℤ (o -ℤ u) =
    omega (arith, ints, n_low, n_high, o_low, o_high, u_low, u_high, w_low, w_high) in
    ap₂ (λ x y. to_z w128 (of_z w128 (x -ℤ y))) after before ∙ same

-- ---- the premises of a part

-- a second part is there
pub second_there : (n k : ℕ) → k ≡ n → 1 ≤ k → (k ≡ 1 → ⊥) → 1 < n
second_there n k e some apart = Prim.grind (arith, e, some, apart)

-- a part of a change of the lists of a model is one of a vehicle of it
pub part_of : (model : Model) → IsWellFormed model → (lists : List (List ℕ)) → IsTrue (is_valid model lists)
    → (parts : List ListAfter) → AreParts lists parts → IsTrue (are_lists model (changed lists parts))
    → (k v : ℕ) → k < length parts → v ≡ (part_at parts k).vehicle → IsPart model lists v (part_at parts k).pieces
part_of model well lists valid parts are after k v low is =
    let old = are-lists model lists valid in
    let most = well.number_of_nodes.1 in
    let count = are_lists-count model lists old in
    let there : v < length lists = subst (λ w. w < length lists) (sym is) (are.each_vehicle k no_part low) in
    let few = route-few model lists v old in
    let later = route-few model (changed lists parts) (part_at parts k).vehicle after in
    let here : route (changed lists parts) (part_at parts k).vehicle ≡ joined lists (part_at parts k).pieces = part_is lists parts are k low in
    let len = ap length here in
    record {
      vehicle = there;
      of_model = omega (arith, count, there);
      old_nodes = route-below model lists v old;
      old_short = omega (arith, few, most);
      nodes = subst (λ xs. All (λ node. node < model.nodes) xs) here (route-below model (changed lists parts) (part_at parts k).vehicle after);
      short = omega (arith, later, most, len);
    }

-- what the parts of a change make of the penalised arc costs: one alone, or two
module _ (model : Model) (p : Penalties) {lists : List (List ℕ)} {parts : List ListAfter} (are : AreParts lists parts) {k : ℕ} (count : k ≡ length parts) where
  pub alone : k ≡ 1 → penalised model p (changed lists parts) -ℤ penalised model p lists ≡ weight_change model p lists (part_at parts 0)
  alone one = one_part model p lists parts are (sym count ∙ one) no_part

  pub together : 1 ≤ k → k ≤ 2 → (k ≡ 1 → ⊥)
      → penalised model p (changed lists parts) -ℤ penalised model p lists
      ≡ weight_change model p lists (part_at parts 0) +ℤ weight_change model p lists (part_at parts 1)
  together some few more =
      let second = second_there (length parts) k count some more in
      two_parts model p lists parts are (omega (arith, count, few, second)) no_part

-- ---- no penalties

total-none : {X : Type 0} (f : X → ℤ) (xs : List X) → ((x : X) → f x ≡ pos 0) → total_by f xs ≡ pos 0
total-none f [] none = refl
total-none f (x ∷ xs) none = let here = none x in let rest = total-none f xs none in omega (arith, ints, here, rest)

-- where no arc was penalised, nothing is added
unpenalised : (model : Model) (p : Penalties) (lists : List (List ℕ)) → p ≡ no_penalties → penalised model p lists ≡ pos 0
unpenalised model p lists none = ap (λ q. penalised model q lists) none
    ∙ total-none (arc_weight model no_penalties) (used_arcs model lists) (λ arc. zero-*ℤ (cost_of_arc model arc))

-- nor is anything changed
pub unchanged : (model : Model) (p : Penalties) (lists after : List (List ℕ)) → p ≡ no_penalties → penalised model p after -ℤ penalised model p lists ≡ pos 0
unchanged model p lists after none =
    let before = unpenalised model p lists none in
    let later = unpenalised model p after none in
    omega (arith, ints, before, later)

-- nor do the arcs of a vehicle add anything
pub unweighed : (model : Model) (p : Penalties) (v : ℕ) (list : List ℕ) → p ≡ no_penalties → route_weight model p v list ≡ pos 0
unweighed model p v list none = ap (λ q. route_weight model q v list) none
    ∙ total-none (arc_weight model no_penalties) (arcs_of model v list) (λ arc. zero-*ℤ (cost_of_arc model arc))

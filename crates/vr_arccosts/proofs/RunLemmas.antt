-- What the moves of a run add, by what the arcs beside their places cost.
use Rattle.std.proofs.Common.{◌≡◌, ◌∙◌, ℕ, suc, ◌+◌, ◌-◌, ◌<◌, ◌≤◌, true, false, cond, List, [], ◌∷◌, ◌++◌, length, take, drop, refl, sym, ap, ap₂, subst}
use Rattle.std.proofs.Common.{arith, append-nil, length-append, inl, inr}
use Rattle.std.specs.Prelude.{ℤ, pos, ◌+ℤ◌, ◌-ℤ◌, ◌≤ℤ◌, slice_range, slice_index, slice_index_or, slice_set, insert, remove}
use Rattle.std.proofs.lemmas.Bool.{cases_lt}
use Rattle.std.proofs.lemmas.Bool.Decides.{eqb_tells}
use Rattle.std.proofs.lemmas.Int.{ints}
use Rattle.vr_model.specs.moves.Moves.{chain_moved, reversed_between}
use Rattle.vr_model.specs.moves.MoveTests.{is_move}
use Rattle.vr_model.specs.tables.Tables.{arc_cost, vehicle_at}
use Rattle.vr_model.specs.routes.Routes.{route}
use Rattle.vr_model.specs.declared.records.Model.{Model}
use Rattle.vr_model.specs.declared.neighbours.Move.TheVariants.{Exchange, OrOpt, Relocate, TwoOpt}
use Rattle.vr_balance.specs.Sums.{last_of, path_sum}
use Rattle.vr_balance.proofs.Paths.{last-append, path-append, path-between}
use Rattle.vr_routes.proofs.FactLemmas.{of_exchange, of_or_opt, of_relocate, of_two_opt}
use Rattle.vr_routes.proofs.ChangeLemmas.{exchanged_between, exchanged_within}
use Rattle.vr_parts.proofs.EmptyLemmas.{some-where}
use Rattle.vr_arccosts.specs.Along.{between_cost}
use Rattle.vr_arccosts.specs.ArcMoves.{arcs_added, costs_more, with_between}
use Rattle.vr_arccosts.specs.Chains.{chain_of, chain_sum}
use Rattle.vr_arccosts.specs.Runs.{AddsNoLess, at_place, before_place, ends_added, gap_added, left_added, swap_added, turn_added}
use Rattle.vr_arccosts.proofs.ChainLemmas.{path-first}
use Rattle.vr_arccosts.proofs.MoveLemmas.{one-list, shifted-back, shifted-on, swapped-list, turned-list, two-lists, with-other, without-one}
use Rattle.vr_arccosts.proofs.PathLemmas.{cost-between, first-left, last-kept, many-apart, stretch-used}
use Rattle.vr_arccosts.proofs.PieceLemmas.{chain-first, chain-last, chain-length}

-- one number more of a run
pub one-more : (P : ℕ → Type 0) (from k : ℕ) → ((t : ℕ) → from ≤ t → t < k → P t) → P k → (t : ℕ) → from ≤ t → t < k + 1 → P t
one-more P from k so-far here t low high = elim (cases_lt t k) [
  | inl less ↦ so-far t low less
  | inr more ↦ (let same : k ≡ t = omega (arith, more, high) in subst P same here)
]

-- the first number of a run, and those behind it
pub first-or-behind : (P : ℕ → Type 0) (first k : ℕ) → first ≤ k → P first → (first < k → P k) → P k
first-or-behind P first k low here behind = elim (cases_lt first k) [
  | inl more ↦ behind more
  | inr past ↦ (let same : first ≡ k = omega (arith, low, past) in subst P same here)
]

module _ (model : Model) (v : ℕ) (list : List ℕ) where
  -- some nodes between two places
  pub between-used : (f b : ℕ) (nodes : List ℕ) → 0 < length nodes
      → between_cost model v list f b nodes ≡ path_sum (arc_cost model v) (before_place model v list f) nodes
      +ℤ arc_cost model v (last_of (before_place model v list f) nodes) (at_place model v list b)
  between-used f b nodes some =
      let x : ℤ = path_sum (arc_cost model v) (before_place model v list f) nodes
      +ℤ arc_cost model v (last_of (before_place model v list f) nodes) (at_place model v list b) in
      let inner = length-append nodes (drop b list) in
      let whole = length-append (take f list) (nodes ++ drop b list) in
      ap (λ e. cond e (pos 0) x) (some-where (take f list ++ (nodes ++ drop b list)) (λ e. absurd (omega (arith, inner, whole, some, e))))

  -- what the arcs beside a chain cost more, as code works it out
  pub ends-told : (f b first last : ℕ) {before next : ℕ} {to on old : ℤ} → before ≡ before_place model v list f → next ≡ at_place model v list b
      → to ≡ arc_cost model v before first → on ≡ arc_cost model v last next → old ≡ between_cost model v list f b (slice_range list f b)
      → (to +ℤ on) -ℤ old ≡ ends_added model v list f b first last
  ends-told f b first last before-is next-is to-is on-is old-is =
      ap₂ (λ d o. d -ℤ o) (ap₂ (λ x y. x +ℤ y) (to-is ∙ ap (λ n. arc_cost model v n first) before-is) (on-is ∙ ap (arc_cost model v last) next-is)) old-is

  -- a part that is reversed
  turn-between : (a b : ℕ) → a < b → b < length list
      → turn_added model v list a b
      ≡ between_cost model v list a (b + 1) (chain_of true list a (b + 1)) -ℤ between_cost model v list a (b + 1) (slice_range list a (b + 1))
  turn-between a b order low =
      let cost = arc_cost model v in
      let nodes : List ℕ = chain_of true list a (b + 1) in
      let from = before_place model v list a in
      let to = at_place model v list (b + 1) in
      let up : a < b + 1 = omega (arith, order) in
      let within : b + 1 ≤ length list = omega (arith, low) in
      let long = chain-length list a (b + 1) up within true in
      let some : 0 < length nodes = omega (arith, long, up) in
      let used = between-used a (b + 1) nodes some in
      let path = path-first cost from nodes some in
      let place : (b + 1) - 1 ≡ b = omega arith in
      let first : cost from (slice_index_or nodes 0 0) ≡ cost from (slice_index_or list b 0) = ap (cost from)
      (chain-first list a (b + 1) up within true ∙ ap (λ n. slice_index_or list n 0) place) in
      let last : cost (last_of from nodes) to ≡ cost (slice_index_or list a 0) to = ap (λ n. cost n to) (chain-last list a (b + 1) up within true from) in
      omega (arith, ints, used, path, first, last)

  -- a node in a gap
  gap-between : (x t : ℕ) → gap_added model v list x x t ≡ between_cost model v list t t (x ∷ []) -ℤ between_cost model v list t t (slice_range list t t)
  gap-between x t = let used = between-used t t (x ∷ []) (omega arith) in omega (arith, ints, used)

  abbrev cost : ℕ → ℕ → ℤ
  cost = arc_cost model v

  -- the arcs from the start through the nodes in front of a place
  abbrev front_sum : ℕ → ℤ
  front_sum k = path_sum cost (vehicle_at model v).start (take k list)

  -- no node between two places
  pub bare : (f b : ℕ) → f ≤ b → b ≤ length list → 0 < f + (length list - b)
      → between_cost model v list f b [] ≡ cost (before_place model v list f) (at_place model v list b)
  bare f b order low some =
      let x : ℤ = cost (before_place model v list f) (at_place model v list b) in
      let many = many-apart list [] f b order low in
      let is : between_cost model v list f b [] ≡ pos 0 +ℤ x = ap (λ e. cond e (pos 0) (pos 0 +ℤ x))
      (some-where (take f list ++ ([] ++ drop b list)) (λ e. absurd (omega (arith, many, some, e)))) in
      omega (arith, ints, is)

  -- what stands between the stops beside a gap
  pub gap-old : (u : ℕ) → u ≤ length list → 0 < length list
      → between_cost model v list u u (slice_range list u u) ≡ cost (before_place model v list u) (at_place model v list u)
  gap-old u low some =
      let none : u - u ≡ 0 = omega arith in
      ap (λ n. between_cost model v list u u (take n (drop u list))) none ∙ bare u u (omega arith) low (omega (arith, low, some))

  -- the arcs of a stretch, and those of the chain in it
  pub stretch-sum : (a b : ℕ) → a < b → b ≤ length list
      → between_cost model v list a b (slice_range list a b) ≡ (front_sum b -ℤ front_sum a) +ℤ cost (slice_index_or list (b - 1) 0) (at_place model v list b)
  stretch-sum a b order low =
      let used = stretch-used model v list a b (omega (arith, order)) (omega (arith, order, low)) in
      let path = path-between cost (vehicle_at model v).start list a b (omega (arith, order)) low in
      let last : cost (last_of (before_place model v list a) (slice_range list a b)) (at_place model v list b)
      ≡ cost (slice_index_or list (b - 1) 0) (at_place model v list b) = ap (λ n. cost n (at_place model v list b))
      (chain-last list a b order low false (before_place model v list a)) in
      omega (arith, ints, used, path, last)

  pub chain-sum : (a b : ℕ) → a < b → b ≤ length list
      → chain_sum cost (slice_range list a b) ≡ (front_sum b -ℤ front_sum a) -ℤ cost (before_place model v list a) (slice_index_or list a 0)
  chain-sum a b order low =
      let path = path-between cost (vehicle_at model v).start list a b (omega (arith, order)) low in
      let long = chain-length list a b order low false in
      let first = path-first cost (before_place model v list a) (slice_range list a b) (omega (arith, long, order)) in
      let here : cost (before_place model v list a) (slice_index_or (slice_range list a b) 0 0)
      ≡ cost (before_place model v list a) (slice_index_or list a 0) = ap (cost (before_place model v list a)) (chain-first list a b order low false) in
      omega (arith, ints, path, first, here)

  -- two chains of the list, one after the other, from the stop before a place
  two-chains : (f a b c d e : ℕ) → a < b → b ≤ length list → c < d → d ≤ length list
      → between_cost model v list f e (slice_range list a b ++ (slice_range list c d ++ []))
      ≡ cost (before_place model v list f) (slice_index_or list a 0) +ℤ chain_sum cost (slice_range list a b)
      +ℤ (cost (slice_index_or list (b - 1) 0) (slice_index_or list c 0) +ℤ chain_sum cost (slice_range list c d))
      +ℤ cost (slice_index_or list (d - 1) 0) (at_place model v list e)
  two-chains f a b c d e order low next high =
      let one : List ℕ = slice_range list a b in
      let two : List ℕ = slice_range list c d in
      let from = before_place model v list f in
      let to = at_place model v list e in
      let mid = last_of from one in
      let long = chain-length list a b order low false in
      let also = chain-length list c d next high false in
      let whole = length-append one two in
      let plain : between_cost model v list f e (one ++ (two ++ [])) ≡ between_cost model v list f e (one ++ two) =
      ap (λ l. between_cost model v list f e (one ++ l)) (append-nil two) in
      let used = between-used f e (one ++ two) (omega (arith, long, order, whole)) in
      let path = path-append cost from one two in
      let first = path-first cost from one (omega (arith, long, order)) in
      let second = path-first cost mid two (omega (arith, also, next)) in
      let first-is : cost from (slice_index_or one 0 0) ≡ cost from (slice_index_or list a 0) = ap (cost from) (chain-first list a b order low false) in
      let mid-is : mid ≡ slice_index_or list (b - 1) 0 = chain-last list a b order low false from in
      let second-is : cost mid (slice_index_or two 0 0) ≡ cost (slice_index_or list (b - 1) 0) (slice_index_or list c 0) =
      ap (λ n. cost n (slice_index_or two 0 0)) mid-is ∙ ap (cost (slice_index_or list (b - 1) 0)) (chain-first list c d next high false) in
      let last-is : cost (last_of from (one ++ two)) to ≡ cost (slice_index_or list (d - 1) 0) to = ap (λ n. cost n to)
      (last-append from one two ∙ chain-last list c d next high false mid) in
      omega (arith, ints, plain, used, path, first, second, first-is, second-is, last-is)

  -- a chain that is put before a place in front of it
  pub back-between : (a k t : ℕ) → t < a → 1 ≤ k → a + k ≤ length list
      → left_added model v list a k +ℤ gap_added model v list (slice_index_or list a 0) (slice_index_or list (a + k - 1) 0) t
      ≡ between_cost model v list t (a + k) (slice_range list a (a + k) ++ (slice_range list t a ++ []))
      -ℤ between_cost model v list t (a + k) (slice_range list t (a + k))
  back-between a k t order some low =
      let up : a < a + k = omega (arith, some) in
      let new = two-chains t a (a + k) t a (a + k) up low order (omega (arith, low)) in
      let old = stretch-sum t (a + k) (omega (arith, order)) low in
      let own = stretch-sum a (a + k) up low in
      let without = bare a (a + k) (omega arith) low (omega (arith, order)) in
      let chain = chain-sum a (a + k) up low in
      let other = chain-sum t a order (omega (arith, low)) in
      let gap = gap-old t (omega (arith, order, low)) (omega (arith, some, low)) in
      let to : cost (slice_index_or list (a + k - 1) 0) (at_place model v list t) ≡ cost (slice_index_or list (a + k - 1) 0) (slice_index_or list t 0) =
      ap (cost (slice_index_or list (a + k - 1) 0)) (first-left (vehicle_at model v).end list t (omega (arith, order, low))) in
      let here : cost (before_place model v list t) (at_place model v list t) ≡ cost (before_place model v list t) (slice_index_or list t 0) =
      ap (cost (before_place model v list t)) (first-left (vehicle_at model v).end list t (omega (arith, order, low))) in
      let front : before_place model v list a ≡ slice_index_or list (a - 1) 0 = last-kept (vehicle_at model v).start
      list a (omega (arith, order)) (omega (arith, low)) in
      let closes : cost (before_place model v list a) (at_place model v list (a + k))
      ≡ cost (slice_index_or list (a - 1) 0) (at_place model v list (a + k)) = ap (λ n. cost n (at_place model v list (a + k))) front in
      omega (arith, ints, new, old, own, without, chain, other, gap, to, here, closes)

  -- a chain that is put before a place behind it
  pub on-between : (a k t : ℕ) → a < t → 1 ≤ k → t + k ≤ length list
      → left_added model v list a k +ℤ gap_added model v list (slice_index_or list a 0) (slice_index_or list (a + k - 1) 0) (t + k)
      ≡ between_cost model v list a (t + k) (slice_range list (a + k) (t + k) ++ (slice_range list a (a + k) ++ []))
      -ℤ between_cost model v list a (t + k) (slice_range list a (t + k))
  on-between a k t order some low =
      let up : a < a + k = omega (arith, some) in
      let within : a + k ≤ length list = omega (arith, order, low) in
      let rest : a + k < t + k = omega (arith, order) in
      let new = two-chains a (a + k) (t + k) a (a + k) (t + k) rest low up within in
      let old = stretch-sum a (t + k) (omega (arith, order, some)) low in
      let own = stretch-sum a (a + k) up within in
      let without = bare a (a + k) (omega arith) within (omega (arith, rest, low)) in
      let chain = chain-sum a (a + k) up within in
      let other = chain-sum (a + k) (t + k) rest low in
      let gap = gap-old (t + k) low (omega (arith, some, low)) in
      let next = first-left (vehicle_at model v).end list (a + k) (omega (arith, rest, low)) in
      let leaves : cost (before_place model v list a) (at_place model v list (a + k)) ≡ cost (before_place model v list a) (slice_index_or list (a + k) 0) =
      ap (cost (before_place model v list a)) next in
      let own-to : cost (slice_index_or list (a + k - 1) 0) (at_place model v list (a + k))
      ≡ cost (slice_index_or list (a + k - 1) 0) (slice_index_or list (a + k) 0) = ap (cost (slice_index_or list (a + k - 1) 0)) next in
      let chain-end : before_place model v list (a + k) ≡ slice_index_or list (a + k - 1) 0 = last-kept (vehicle_at model v).start
      list (a + k) (omega (arith, some)) within in
      let other-from : cost (before_place model v list (a + k)) (slice_index_or list (a + k) 0)
      ≡ cost (slice_index_or list (a + k - 1) 0) (slice_index_or list (a + k) 0) = ap (λ n. cost n (slice_index_or list (a + k) 0)) chain-end in
      let front : before_place model v list (t + k) ≡ slice_index_or list (t + k - 1) 0 = last-kept (vehicle_at model v).start
      list (t + k) (omega (arith, some)) low in
      let into : cost (before_place model v list (t + k)) (slice_index_or list a 0) ≡ cost (slice_index_or list (t + k - 1) 0) (slice_index_or list a 0) =
      ap (λ n. cost n (slice_index_or list a 0)) front in
      let here : cost (before_place model v list (t + k)) (at_place model v list (t + k))
      ≡ cost (slice_index_or list (t + k - 1) 0) (at_place model v list (t + k)) = ap (λ n. cost n (at_place model v list (t + k))) front in
      omega (arith, ints, new, old, own, without, chain, other, gap, leaves, own-to, other-from, into, here)

  -- another node at a place
  swap-between : (a y : ℕ)
      → swap_added model v list a y ≡ between_cost model v list a (a + 1) (y ∷ []) -ℤ between_cost model v list a (a + 1) (slice_range list a (a + 1))
  swap-between a y = let used = between-used a (a + 1) (y ∷ []) (omega arith) in omega (arith, ints, used)

  -- two nodes of the list in each other's place, with others between them
  swap-both : (a b y x : ℕ) → a + 1 < b → b < length list
      → swap_added model v list a y +ℤ swap_added model v list b x
      ≡ between_cost model v list a (b + 1) (y ∷ (slice_range list (a + 1) b ++ x ∷ [])) -ℤ between_cost model v list a (b + 1) (slice_range list a (b + 1))
  swap-both a b y x order low =
      let mid : List ℕ = slice_range list (a + 1) b in
      let from = before_place model v list a in
      let to = at_place model v list (b + 1) in
      let within : b ≤ length list = omega (arith, low) in
      let long = chain-length list (a + 1) b order within false in
      let some : 0 < length mid = omega (arith, long, order) in
      let used = between-used a (b + 1) (y ∷ (mid ++ x ∷ [])) (omega arith) in
      let path = path-append cost y mid (x ∷ []) in
      let first = path-first cost y mid some in
      let first-is : cost y (slice_index_or mid 0 0) ≡ cost y (slice_index_or list (a + 1) 0) = ap (cost y) (chain-first list (a + 1) b order within false) in
      let last-is : cost (last_of y mid) x ≡ cost (slice_index_or list (b - 1) 0) x = ap (λ n. cost n x) (chain-last list (a + 1) b order within false y) in
      let ends-is : cost (last_of y (mid ++ x ∷ [])) to ≡ cost x to = ap (λ n. cost n to) (last-append y mid (x ∷ [])) in
      let chain = chain-sum (a + 1) b order within in
      let old = stretch-sum a (b + 1) (omega (arith, order)) (omega (arith, low)) in
      let one = stretch-sum a (a + 1) (omega arith) (omega (arith, order, low)) in
      let other = stretch-sum b (b + 1) (omega arith) (omega (arith, low)) in
      let place : (b + 1) - 1 ≡ b = omega arith in
      let here : (a + 1) - 1 ≡ a = omega arith in
      let old-last : cost (slice_index_or list ((b + 1) - 1) 0) to ≡ cost (slice_index_or list b 0) to = ap (λ n. cost (slice_index_or list n 0) to) place in
      let next = first-left (vehicle_at model v).end list (a + 1) (omega (arith, order, low)) in
      let one-last : cost (slice_index_or list ((a + 1) - 1) 0) (at_place model v list (a + 1))
      ≡ cost (slice_index_or list a 0) (slice_index_or list (a + 1) 0) = ap₂ (λ n m. cost (slice_index_or list n 0) m) here next in
      let other-next : cost y (at_place model v list (a + 1)) ≡ cost y (slice_index_or list (a + 1) 0) = ap (cost y) next in
      let front : before_place model v list b ≡ slice_index_or list (b - 1) 0 = last-kept (vehicle_at model v).start list b (omega (arith, order)) within in
      let into : cost (before_place model v list b) x ≡ cost (slice_index_or list (b - 1) 0) x = ap (λ n. cost n x) front in
      let behind : before_place model v list (a + 1) ≡ slice_index_or list a 0 =
      last-kept (vehicle_at model v).start list (a + 1) (omega arith) (omega (arith, order, low)) ∙ ap (λ n. slice_index_or list n 0) here in
      let chain-from : cost (before_place model v list (a + 1)) (slice_index_or list (a + 1) 0)
      ≡ cost (slice_index_or list a 0) (slice_index_or list (a + 1) 0) = ap (λ n. cost n (slice_index_or list (a + 1) 0)) behind in
      omega (arith, ints, used, path, first, first-is, last-is, ends-is, chain, old, one, other, old-last, one-last, other-next, into, chain-from)

module _ (model : Model) (lists : List (List ℕ)) where
  pub turn-adds : (v a b : ℕ) → v < length lists → a < b → b < length (route lists v)
      → turn_added model v (route lists v) a b ≡ arcs_added model lists (TwoOpt v a b)
  turn-adds v a b low order place =
      let list : List ℕ = route lists v in
      let nodes : List ℕ = chain_of true list a (b + 1) in
      let turn = turn-between model v list a b order place in
      let change = cost-between model v list nodes a (b + 1) (omega (arith, order)) (omega (arith, place)) in
      let is : costs_more model lists v (with_between list a (b + 1) nodes) ≡ arcs_added model lists (TwoOpt v a b) =
      ap (λ l. costs_more model lists v (with_between list a (b + 1) l)) (sym (append-nil nodes))
      ∙ ap (costs_more model lists v) (turned-list list a b)
      ∙ one-list model lists (TwoOpt v a b) v (reversed_between list a (suc b)) low refl in
      turn ∙ (sym change ∙ is)

  pub turn-no-less : (v a b : ℕ) (bound : ℤ) → bound ≤ℤ turn_added model v (route lists v) a b → AddsNoLess model lists (TwoOpt v a b) bound
  turn-no-less v a b bound low one =
      let facts = of_two_opt model lists v a b one in
      subst (λ d. bound ≤ℤ d) (turn-adds v a b facts.vehicle facts.order facts.place) low

  pub gap-adds : (w t x : ℕ) → t ≤ length (route lists w)
      → gap_added model w (route lists w) x x t ≡ costs_more model lists w (insert (route lists w) t x)
  gap-adds w t x gap =
      gap-between model w (route lists w) x t ∙ sym (cost-between model w (route lists w) (x ∷ []) t t (omega arith) gap)

  -- a chain that is put elsewhere in its list, in front of its place or behind it
  pub back-adds : (v a k t : ℕ) → v < length lists → t < a → 1 ≤ k → a + k ≤ length (route lists v)
      → left_added model v (route lists v) a k
      +ℤ gap_added model v (route lists v) (slice_index_or (route lists v) a 0) (slice_index_or (route lists v) (a + k - 1) 0) t
      ≡ arcs_added model lists (OrOpt v a k t)
  back-adds v a k t known order some low =
      let list : List ℕ = route lists v in
      let nodes : List ℕ = slice_range list a (a + k) ++ (slice_range list t a ++ []) in
      back-between model v list a k t order some low
      ∙ (sym (cost-between model v list nodes t (a + k) (omega (arith, order)) low)
      ∙ (ap (costs_more model lists v) (shifted-back list a k t order (omega (arith, low)))
      ∙ one-list model lists (OrOpt v a k t) v (chain_moved list a k t) known refl))

  pub on-adds : (v a k t : ℕ) → v < length lists → a < t → 1 ≤ k → t + k ≤ length (route lists v)
      → left_added model v (route lists v) a k
      +ℤ gap_added model v (route lists v) (slice_index_or (route lists v) a 0) (slice_index_or (route lists v) (a + k - 1) 0) (t + k)
      ≡ arcs_added model lists (OrOpt v a k t)
  on-adds v a k t known order some low =
      let list : List ℕ = route lists v in
      let nodes : List ℕ = slice_range list (a + k) (t + k) ++ (slice_range list a (a + k) ++ []) in
      on-between model v list a k t order some low
      ∙ (sym (cost-between model v list nodes a (t + k) (omega (arith, order)) low)
      ∙ (ap (costs_more model lists v) (shifted-on list a k t (omega (arith, order)) low)
      ∙ one-list model lists (OrOpt v a k t) v (chain_moved list a k t) known refl))

  pub shift-no-less : (v a k t : ℕ) (bound base : ℤ) → v < length lists → 1 ≤ k → a + k ≤ length (route lists v) → base ≡ left_added model v (route lists v) a k
      → (t < a → bound ≤ℤ (base +ℤ gap_added model v (route lists v) (slice_index_or (route lists v) a 0) (slice_index_or (route lists v) (a + k - 1) 0) t))
      → (a < t
      → bound ≤ℤ (base +ℤ gap_added model v (route lists v) (slice_index_or (route lists v) a 0) (slice_index_or (route lists v) (a + k - 1) 0) (t + k)))
      → AddsNoLess model lists (OrOpt v a k t) bound
  shift-no-less v a k t bound base known some within is front behind one =
      let list : List ℕ = route lists v in
      let gap = gap_added model v list (slice_index_or list a 0) (slice_index_or list (a + k - 1) 0) in
      elim (cases_lt t a) [
        | inl low ↦ subst (λ d. bound ≤ℤ d) (ap (λ b. b +ℤ gap t) is ∙ back-adds v a k t known low some within) (front low)
        | inr high ↦ elim (cases_lt a t) [
          | inl low ↦
              subst (λ d. bound ≤ℤ d) (ap (λ b. b +ℤ gap (t + k)) is ∙ on-adds v a k t known low some (of_or_opt model lists v a k t one).gap) (behind low)
          | inr same ↦ absurd (own v a k t one (omega (arith, high, same)))
        ]
      ]
    where
      own : (v a k t : ℕ) → is_move model lists (OrOpt v a k t) ≡ true → a ≡ t → ⊥
      own v a k t one same = Prim.grind arith

  -- two nodes that change places
  pub swap-adds : (w b x : ℕ) → b < length (route lists w)
      → swap_added model w (route lists w) b x ≡ costs_more model lists w (slice_set (route lists w) b x)
  swap-adds w b x low =
      let list : List ℕ = route lists w in
      swap-between model w list b x
      ∙ (sym (cost-between model w list (x ∷ []) b (b + 1) (omega arith) (omega (arith, low)))
      ∙ ap (costs_more model lists w) (with-other list b x low))

  pub swap-no-less : (v a w b : ℕ) (bound : ℤ) → (v ≡ w → a + 1 < b)
      → bound ≤ℤ (swap_added model v (route lists v) a (slice_index (route lists w) b) +ℤ swap_added model w (route lists w) b (slice_index (route lists v) a))
      → AddsNoLess model lists (Exchange v a w b) bound
  swap-no-less v a w b bound far low one =
      let list : List ℕ = route lists v in
      let other : List ℕ = route lists w in
      let x : ℕ = slice_index list a in
      let y : ℕ = slice_index other b in
      let facts = of_exchange model lists v a w b one in
      elim (eqb_tells v w) [
        | inl told ↦ (
            let same = told.1 in
            let here : b < length list = subst (λ u. b < length (route lists u)) (sym same) facts.other_place in
            let near : swap_added model v list a y +ℤ swap_added model v list b x ≡ arcs_added model lists (Exchange v a w b) =
            swap-both model v list a b y x (far same) here
            ∙ (sym (cost-between model v list (y ∷ (slice_range list (a + 1) b ++ x ∷ [])) a (b + 1) (omega (arith, far same)) (omega (arith, here)))
            ∙ (ap (costs_more model lists v) (swapped-list list a b y x (facts.behind same) here)
            ∙ one-list model lists (Exchange v a w b) v (slice_set (slice_set list a y) b x)
            facts.vehicle (exchanged_within lists v w a b y x same facts.vehicle))) in
            let there : swap_added model v list a y +ℤ swap_added model w other b x ≡ swap_added model v list a y +ℤ swap_added model v list b x =
            ap (λ u. swap_added model v list a y +ℤ swap_added model u (route lists u) b x) (sym same) in
            subst (λ d. bound ≤ℤ d) (there ∙ near) low)
        | inr told ↦ let apart = told.1 in subst (λ d. bound ≤ℤ d)
            (ap₂ (λ c d. c +ℤ d) (swap-adds v a y facts.place) (swap-adds w b x facts.other_place)
            ∙ two-lists model lists (Exchange v a w b) v w (slice_set list a y) (slice_set other b x)
            facts.vehicle facts.other apart (exchanged_between lists v w b x (slice_set list a y) apart)) low
      ]

  -- a node that is put into the list of another vehicle
  pub relocate-no-less : (v a w t : ℕ) {node : ℕ} (bound base : ℤ)
      → base ≡ costs_more model lists v (with_between (route lists v) a (a + 1) []) → node ≡ slice_index (route lists v) a
      → bound ≤ℤ (base +ℤ gap_added model w (route lists w) node node t) → AddsNoLess model lists (Relocate v a w t) bound
  relocate-no-less v a w t bound base is node-is low one =
      let list : List ℕ = route lists v in
      let facts = of_relocate model lists v a w t one in
      subst (λ d. bound ≤ℤ d)
      (ap₂ (λ c x. c +ℤ gap_added model w (route lists w) x x t) (is ∙ ap (costs_more model lists v) (without-one list a)) node-is
      ∙ ap (λ d. costs_more model lists v (remove list a) +ℤ d) (gap-adds w t (slice_index list a) facts.gap)
      ∙ two-lists model lists (Relocate v a w t) v w (remove list a)
      (insert (route lists w) t (slice_index list a)) facts.vehicle facts.other facts.apart refl) low

  -- what a chain adds where it leaves its place, as code works it out
  pub left-adds : (v a k : ℕ) (x c : ℤ) → a + k ≤ length (route lists v) → x ≡ costs_more model lists v (with_between (route lists v) a (a + k) [])
      → c ≡ chain_sum (arc_cost model v) (slice_range (route lists v) a (a + k)) → x +ℤ c ≡ left_added model v (route lists v) a k
  left-adds v a k x c within is chain = ap₂ (λ y d. y +ℤ d) (is ∙ cost-between model v (route lists v) [] a (a + k) (omega arith) within) chain

  -- the run of a chain, by the numbers that code has
  pub shift-told : (v a k t : ℕ) (bound base : ℤ) → v < length lists → 1 ≤ k → a + k ≤ length (route lists v) → base ≡ left_added model v (route lists v) a k
      → (m : Model) (n f l : ℕ) (list : List ℕ) → m ≡ model → n ≡ v → list ≡ route lists v
      → f ≡ slice_index (route lists v) a → l ≡ slice_index (route lists v) (a + k - 1)
      → (t < a → bound ≤ℤ (base +ℤ gap_added m n list f l t)) → (a < t → bound ≤ℤ (base +ℤ gap_added m n list f l (t + k)))
      → AddsNoLess model lists (OrOpt v a k t) bound
  shift-told v a k t bound base known some within is m n f l list of-model of-vehicle of-list first last front behind =
      shift-no-less v a k t bound base known some within is
      (λ low. subst (λ d. bound ≤ℤ (base +ℤ d)) (same t) (front low))
      (λ low. subst (λ d. bound ≤ℤ (base +ℤ d)) (same (t + k)) (behind low))
    where
      same : (u : ℕ) → gap_added m n list f l u ≡ gap_added model v (route lists v) (slice_index (route lists v) a) (slice_index (route lists v) (a + k - 1)) u
      same u =
          ap (λ (m : Model). gap_added m n list f l u) of-model
          ∙ (ap₂ (λ n list. gap_added model n list f l u) of-vehicle of-list ∙ ap₂ (λ f l. gap_added model v (route lists v) f l u) first last)

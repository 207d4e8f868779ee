-- Where no visit must be served, parallel cheapest insertion ends at valid lists.
use Rattle.std.proofs.Common.{◌≡◌, ◌∙◌, ℕ, zero, suc, ◌<◌, Bool, true, false, cond, not, ◌&&◌, ◌||◌, List, [], ◌∷◌, map, length, replicate, filter, Option}
use Rattle.std.proofs.Common.{Some, None, refl, sym, ap, ap₂, subst, arith, eq-eqb, inl, inr}
use Rattle.std.specs.Prelude.{ℤ, IsTrue, MatchOption, ◌==◌, nat_le, nat_lt, count_by, find}
use Rattle.std.specs.List.{list_all, concat}
use Rattle.std.proofs.lemmas.List.{length-replicate}
use Rattle.std.proofs.lemmas.List.Sums.{length-filter}
use Rattle.vr_model.specs.tables.Numbers.{below, each}
use Rattle.vr_model.specs.tables.Tables.{is_visit, visits}
use Rattle.vr_model.specs.tables.WellFormed.{IsWellFormed}
use Rattle.vr_model.specs.routes.Routes.{route, vehicles, is_active, are_lists, is_distinct}
use Rattle.vr_model.specs.routes.Rules.{is_open, is_valid, is_route_open, is_grouped, fits_group, has_enough, has_required, active_in}
use Rattle.vr_model.specs.moves.Moves.{apply, gaps}
use Rattle.vr_model.specs.moves.MoveTests.{is_move}
use Rattle.vr_model.specs.deciding.Testing.{and_left, and_right, and_both, or_left, range_list_all}
use Rattle.vr_model.specs.search.ChoosingLaws.{IsFirstLeast}
use Rattle.vr_model.specs.first.Choosing.{least_by}
use Rattle.vr_model.specs.first.Items.{items, items_at, pair_of, is_penalty_given, unplaced, empty_lists, first_node}
use Rattle.vr_model.specs.first.CheapestInsertion.{Insertion, inserted, insertions, insertion_key, next_inserted, places_for, rebuilt}
use Rattle.vr_model.specs.first.CheapestInsertion.{parallel_cheapest_insertion}
use Rattle.vr_model.specs.declared.records.Model.{Model}
use Rattle.vr_model.specs.declared.records.Group.{Group}
use Rattle.vr_model.specs.declared.neighbours.Move.TheVariants.{MakeActive}
use Rattle.vr_model.proofs.first.LeastChoice.{least_first}
use Rattle.vr_model.proofs.moves.KeptLists.{moves_keep_lists}
use Rattle.vr_model.proofs.routes.Lists.{is_active-none, route-none}
use Rattle.vr_model.proofs.tables.Tests.{clash, test_of_lt}
use Rattle.vr_model.proofs.tables.Members.{In, of_contains, from_each, from_map, of_filter, of_below}

-- lists of the model that are open
record AreOpenLists (model : Model) (lists : List (List ℕ)) : Type 0 where
  are : IsTrue (are_lists model lists)
  opened : IsTrue (is_open model lists)

-- an insertion is the move that makes its visit active
record IsActivation (model : Model) (lists : List (List ℕ)) (insertion : Insertion) : Type 0 where
  node : ℕ
  place : ℕ
  is_move : IsTrue (is_move model lists (MakeActive node insertion.vehicle place))
  lists_are : inserted lists insertion ≡ apply model lists (MakeActive node insertion.vehicle place)

-- a chosen entry stands in the list
chosen : {A : Type 0} (key : A → List ℤ) (xs : List A) (best : A) → least_by key xs ≡ Some best → In xs best
chosen key xs best e =
    let first : IsFirstLeast key xs best = subst (λ o. MatchOption o (xs ≡ []) (IsFirstLeast key xs)) e (least_first key xs) in
    of_contains xs best (first.place, first.in_list, first.stands_there best)

-- ---- no pairs

module _ (model : Model) (well : IsWellFormed model) (alone : model.pairs ≡ []) where
  single : (node : ℕ) (item : List ℕ) → In (items_at (pair_of model node) node) item → item ≡ node ∷ []
  single node item h =
      elim (subst (λ pairs. In (items_at (find (λ pair. (pair.pickup == node) || (pair.delivery == node)) pairs) node) item) alone h) [
        | inl e ↦ e
        | inr none ↦ absurd none
      ]

  activated : (lists : List (List ℕ)) (node v t : ℕ) → IsTrue (is_visit model node)
      → IsTrue (not (is_active lists node)) → v < length lists → t < suc (length (route lists v))
      → (insertion : Insertion) → insertion ≡ record { item = node ∷ []; vehicle = v; places = t ∷ [] } → IsActivation model lists insertion
  activated lists node v t visit idle low gap insertion is = subst (IsActivation model lists) (sym is) (record {
    node = node;
    place = t;
    is_move = and_both _ _ (and_both (is_visit model node) _ visit idle)
        (and_both (nat_lt v (length lists)) _ (test_of_lt v (length lists) low) (gap_test t (length (route lists v)) gap));
    lists_are = refl;
  })
    where
      gap_test : (t n : ℕ) → t < suc n → nat_le t n ≡ true
      gap_test t n h = Prim.grind arith

  activation : (lists : List (List ℕ)) (insertion : Insertion) → In (insertions model lists) insertion → IsActivation model lists insertion
  activation lists insertion h =
      from_each (λ item. each (vehicles lists) λ v. map (λ places. record { item = item; vehicle = v; places = places }) (places_for item (route lists v)))
      (unplaced model lists) insertion h λ item item_in h.
      from_each (λ v. map (λ places. record { item = item; vehicle = v; places = places }) (places_for item (route lists v)))
      (vehicles lists) insertion h λ v v_in h.
      from_map (λ places. record { item = item; vehicle = v; places = places }) (places_for item (route lists v)) insertion h λ places places_in is.
      (let kept = of_filter (λ item. not (is_active lists (first_node item))) (items model) item item_in in
      from_each (λ node. items_at (pair_of model node) node) (visits model) item kept.0 λ node node_in at.
      (let one = single node item at in
      from_map (λ t. t ∷ []) (gaps (route lists v)) places (subst (λ i. In (places_for i (route lists v)) places) one places_in) λ t t_in put.
      activated lists node v t (of_filter (is_visit model) (below model.nodes) node node_in).1
      (subst (λ i. IsTrue (not (is_active lists (first_node i)))) one kept.1)
      (of_below (length lists) v v_in) (of_below (suc (length (route lists v))) t t_in) insertion
      (is ∙ ap₂ (λ i p. record { item = i; vehicle = v; places = p }) one put)))

  insertion_open : (lists : List (List ℕ)) (insertion : Insertion) → AreOpenLists model lists
      → next_inserted model lists ≡ Some insertion → AreOpenLists model (inserted lists insertion)
  insertion_open lists insertion h e =
      let opens : Insertion → Bool = λ insertion. is_open model (inserted lists insertion) in
      let kept = of_filter opens (insertions model lists) insertion (chosen (insertion_key model lists) (filter opens (insertions model lists)) insertion e) in
      let a = activation lists insertion kept.0 in
      record {
        are = subst (λ after. IsTrue (are_lists model after)) (sym a.lists_are)
            (moves_keep_lists model well lists (MakeActive a.node insertion.vehicle a.place) h.are a.is_move);
        opened = kept.1;
      }

  rebuilt_open : (n : ℕ) (lists : List (List ℕ)) → AreOpenLists model lists → AreOpenLists model (rebuilt model n lists)
  rebuilt_open zero lists h = h
  rebuilt_open (suc n) lists h = by (next_inserted model lists) refl (rebuilt_open n)
    where
      by : (next : Option Insertion) → next_inserted model lists ≡ next
          → ((lists : List (List ℕ)) → AreOpenLists model lists → AreOpenLists model (rebuilt model n lists))
          → AreOpenLists model (elim next [ None ↦ lists | Some insertion ↦ rebuilt model n (inserted lists insertion) ])
      by None e more = h
      by (Some insertion) e more = more (inserted lists insertion) (insertion_open lists insertion h e)

-- ---- empty lists

none_joined : (n : ℕ) → concat (replicate {A = List ℕ} n []) ≡ []
none_joined zero = refl
none_joined (suc n) = none_joined n

none_active : (model : Model) (nodes : List ℕ) → count_by (is_active (empty_lists model)) nodes ≡ 0
none_active model nodes = sym (length-filter (is_active (empty_lists model)) nodes) ∙ ap length (filtered nodes)
  where
    filtered : (nodes : List ℕ) → filter (is_active (empty_lists model)) nodes ≡ []
    filtered [] = refl
    filtered (x ∷ xs) = ap₂ (λ b ys. cond b (x ∷ ys) ys) (is_active-none (length model.vehicles) x) (filtered xs)

none_fits : (count max : ℕ) → count ≡ 0 → nat_le count max ≡ true
none_fits count max e = Prim.grind arith

empty_open : (model : Model) → AreOpenLists model (empty_lists model)
unfolding is_open
empty_open model =
    let n = length model.vehicles in
    record {
      are = and_both (length (empty_lists model) == n) _ (eq-eqb (length (empty_lists model)) n (length-replicate {A = List ℕ} n []))
          (ap (λ xs. list_all (is_visit model) xs && is_distinct xs) (none_joined n));
      opened = and_both (list_all (λ v. is_route_open model v (route (empty_lists model) v)) (vehicles (empty_lists model))) _
          (range_list_all (λ v. is_route_open model v (route (empty_lists model) v)) 0
          (length (empty_lists model)) (λ v start end. ap (is_route_open model v) (route-none n v)))
          (every model.groups);
    }
  where
    every : (groups : List Group) → list_all (fits_group (empty_lists model)) groups ≡ true
    every [] = refl
    every (g ∷ gs) = and_both (fits_group (empty_lists model) g) _ (none_fits (active_in (empty_lists model) g) g.max (none_active model g.nodes)) (every gs)

-- ---- nothing must be served

-- each visit stands in a group, and each group has a penalty
pub record MayStayIdle (model : Model) : Type 0 where
  pub each_grouped : (node : ℕ) → IsTrue (is_visit model node) → IsTrue (is_grouped model node)
  pub each_penalty : IsTrue (list_all (λ group. is_penalty_given group.penalty) model.groups)

kept_pass : (p q : ℕ → Bool) (xs : List ℕ) → ((x : ℕ) → IsTrue (q x) → IsTrue (p x)) → IsTrue (list_all p (filter q xs))
kept_pass p q [] h = refl
kept_pass p q (x ∷ xs) h = by (q x) refl (kept_pass p q xs h)
  where
    by : (b : Bool) → q x ≡ b → IsTrue (list_all p (filter q xs)) → IsTrue (list_all p (cond b (x ∷ filter q xs) (filter q xs)))
    by true e rest = and_both (p x) _ (h x e) rest
    by false e rest = rest

enough_with_penalty : (lists : List (List ℕ)) (groups : List Group) → IsTrue (list_all (λ group. is_penalty_given group.penalty) groups)
    → IsTrue (list_all (λ group. has_enough group.penalty group.max (active_in lists group)) groups)
enough_with_penalty lists [] h = refl
enough_with_penalty lists (g ∷ gs) h = and_both _ _ (one g.penalty g.max (active_in lists g) (and_left (is_penalty_given g.penalty) _ h))
    (enough_with_penalty lists gs (and_right (is_penalty_given g.penalty) _ h))
  where
    one : (o : Option ℤ) (max active : ℕ) → IsTrue (is_penalty_given o) → IsTrue (has_enough o max active)
    one None max active h = absurd (clash false h refl)
    one (Some penalty) max active h = refl

pub insertion_valid : (model : Model) → IsWellFormed model → model.pairs ≡ [] → MayStayIdle model → is_valid model (parallel_cheapest_insertion model) ≡ true
unfolding is_valid
insertion_valid model well alone idle =
    let lists = parallel_cheapest_insertion model in
    let built = rebuilt_open model well alone (length (items model)) (empty_lists model) (empty_open model) in
    and_both (are_lists model lists) _ built.are
    (and_both (is_open model lists) _ built.opened
    (and_both (has_required model lists) _
    (kept_pass (λ node. is_grouped model node || is_active lists node) (is_visit model)
    (below model.nodes) (λ node visit. or_left (is_grouped model node) _ (idle.each_grouped node visit)))
    (enough_with_penalty lists model.groups idle.each_penalty)))

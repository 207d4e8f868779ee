-- An item put into a list that its vehicle may drive.
use Rattle.std.proofs.Common.{◌≡◌, ◌∙◌, ◌+◌, ◌<◌, ◌≤◌, ◌++◌, ℕ, suc, List, [], ◌∷◌, Bool, true, false, cond, Option, refl, ap, sym, subst, inl, inr, arith}
use Rattle.std.proofs.Common.{length, take, drop, append_assoc}
use Rattle.std.specs.Prelude.{◌&&◌, ◌||◌, fold, insert, map, slice_range}
use Rattle.std.specs.List.{list_all}
use Rattle.std.proofs.lemmas.List.{take-append-drop}
use Rattle.std.proofs.lemmas.List.Edits.{length-insert}
use Rattle.vr_model.specs.declared.records.Model.{Model}
use Rattle.vr_model.specs.declared.records.Pair.{Pair}
use Rattle.vr_model.specs.tables.Numbers.{from_to}
use Rattle.vr_model.specs.tables.Tables.{is_visit}
use Rattle.vr_model.specs.routes.Routes.{is_empty}
use Rattle.vr_model.specs.routes.Rules.{allows_vehicle, is_route_open, keeps_policy, serves_pair}
use Rattle.vr_model.specs.first.Choosing.{better}
use Rattle.vr_model.specs.deciding.Testing.{and_both, and_left, and_right}
use Rattle.vr_model.proofs.tables.Tests.{clash}
use Rattle.vr_model.proofs.tables.Members.{In, from_map, of_from_to}
use Rattle.vr_reach.specs.Lists.{IsUsed}
use Rattle.vr_reach.proofs.Transfer.{not_empty}
use Rattle.vr_rules.specs.RoutesOpen.{is_feasible_in_each}
use Rattle.vr_rules.specs.Placing.{item_nodes}
use Rattle.vr_rules.proofs.OpenLemmas.{inner_tell, last_fails}
use Rattle.vr_lists.proofs.VisitLists.{visits-few}
use Rattle.vr_rules.specs.declared.items.Item.{Item}
use Rattle.vr_rules.specs.declared.items.Item.TheVariants.{Visit, PickupAndDelivery}
use Rattle.vr_first_insert.specs.declared.probes.Probes.{Probes}
use Rattle.vr_first_insert.specs.Probes.{AreReachedAt, MayGoOn, ReachNoEnd}
use Rattle.vr_first_insert.proofs.InsertedLemmas.{pair_front, pair_long}
use Rattle.vr_first_insert.proofs.RowLemmas.{reached_in_each}
use Rattle.vr_first_insert.specs.declared.choice.Placing.{Placing}
use Rattle.vr_first_insert.specs.declared.choice.Placing.TheVariants.{One, Two}
use Rattle.vr_first_insert.specs.declared.choice.InsertionChoice.{InsertionChoice}
use Rattle.vr_first_insert.specs.declared.vehicle_list.LookedUpList.{LookedUpList}
use Rattle.vr_first_insert.specs.declared.vehicle_list.PairIn.{PairIn}
use Rattle.vr_first_insert.specs.Placings.{item_in, key_of, pair_choice, placed, weigh, AreWithin, MayHold}
use Rattle.vr_first_insert.proofs.PlacedLemmas.{placed-distinct, placed-visits, split-three}

long-placed : (list : List ℕ) (placing : Placing) → AreWithin list placing → 0 < length (placed list placing)
long-placed list (One n t) within = let long = length-insert list t n within in omega (arith, long)
long-placed list (Two p d s t) within = let long = pair_long (record { pickup = p; delivery = d }) list s t within.0 within.1 in omega (arith, long)

-- the list with the item is that of a used vehicle
pub used-placed : (model : Model) (list : List ℕ) (placing : Placing) → AreWithin list placing
    → MayHold model list (item_in placing) → IsUsed model (placed list placing)
used-placed model list placing within may = record {
  some = not_empty (placed list placing) (long-placed list placing within);
  tour = record { visits = placed-visits model list placing within may; distinct = placed-distinct model list placing within may };
}

first-only : (a b : Bool) → (a || false) ≡ true → (a || b) ≡ true
first-only true b h = refl
first-only false b h = absurd (clash false h refl)

-- a list that may hold a pair may hold its pickup
pub MayHold-pickup : (model : Model) (list : List ℕ) (p d : ℕ) → MayHold model list (PickupAndDelivery p d) → MayHold model list (Visit p)
MayHold-pickup model list p d may = record {
  visits = may.visits;
  distinct = may.distinct;
  nodes = record { visits = and_both (is_visit model p) true (and_left (is_visit model p) _ may.nodes.visits) refl; distinct = refl };
  absent = λ node there. may.absent node (first-only _ _ there);
}

-- a list that may hold an item is short
pub few-held : (list : LookedUpList) {item : Item} → MayHold list.lookups.now.closed.model.now list.nodes.now item → length list.nodes.now ≤ 1000
few-held list may =
    omega (arith, visits-few list.lookups.now.closed.model.now list.nodes.now may.visits may.distinct, list.lookups.now.closed.well_formed.number_of_nodes.1)

-- ---- a list with the pickup of a pair

pub half-used : (pair : PairIn) (s : ℕ) (half : List ℕ) → s ≤ length pair.list.nodes.now
    → half ≡ insert pair.list.nodes.now s pair.pickup → IsUsed pair.list.lookups.now.closed.model.now half
half-used pair s half within picked_up =
    subst (IsUsed pair.list.lookups.now.closed.model.now) (sym picked_up)
    (used-placed pair.list.lookups.now.closed.model.now pair.list.nodes.now (One pair.pickup s) within
    (MayHold-pickup pair.list.lookups.now.closed.model.now pair.list.nodes.now pair.pickup pair.delivery pair.may_hold))

-- a walk along it may go on
pub half-goes_on : (pair : PairIn) (s k : ℕ) (half : List ℕ) (probes : Probes) → s ≤ length pair.list.nodes.now
    → half ≡ insert pair.list.nodes.now s pair.pickup → k ≤ suc (length pair.list.nodes.now)
    → AreReachedAt pair.list.lookups.now.closed.model.now pair.list.vehicle half k probes
    → MayGoOn pair.list.lookups.now.closed.model.now pair.list.vehicle half k probes
half-goes_on pair s k half probes within picked_up low here =
    let long = ap length picked_up ∙ length-insert pair.list.nodes.now s pair.pickup within in
    record {
      vehicle = pair.list.there;
      used = half-used pair s half within picked_up;
      stop = omega (arith, long, low);
      here = here;
    }

-- ---- a test of all nodes

swap : (a b c : Bool) → (a && (b && c)) ≡ (b && (a && c))
swap true true c = refl
swap true false c = refl
swap false true c = refl
swap false false c = refl

one-each : (p : ℕ → Bool) (xs zs : List ℕ) (n : ℕ) → list_all p (xs ++ n ∷ zs) ≡ (p n && list_all p (xs ++ zs))
one-each p [] zs n = refl
one-each p (y ∷ ys) zs n = ap (λ b. p y && b) (one-each p ys zs n) ∙ swap (p y) (p n) (list_all p (ys ++ zs))

group-one : (a c : Bool) → (a && c) ≡ ((a && true) && c)
group-one true c = refl
group-one false c = refl

group-two : (a b c : Bool) → (a && (b && c)) ≡ ((a && (b && true)) && c)
group-two true true c = refl
group-two true false c = refl
group-two false b c = refl

all-placed : (p : ℕ → Bool) (list : List ℕ) (placing : Placing) → AreWithin list placing
    → list_all p (placed list placing) ≡ (list_all p (item_nodes (item_in placing)) && list_all p list)
all-placed q list (One n t) within = one-each q (take t list) (drop t list) n
    ∙ ap (λ l. q n && list_all q l) (take-append-drop t list) ∙ group-one (q n) (list_all q list)
all-placed q list (Two p d s t) within =
    one-each q (take s list) (slice_range list s t ++ d ∷ drop t list) p
    ∙ ap (λ b. q p && b) (ap (list_all q) (sym (append_assoc (take s list) (slice_range list s t) (d ∷ drop t list)))
    ∙ one-each q (take s list ++ slice_range list s t) (drop t list) d
    ∙ ap (λ l. q d && list_all q l) (append_assoc (take s list) (slice_range list s t) (drop t list) ∙ split-three list s t within.0))
    ∙ group-two (q p) (q d) (list_all q list)

-- ---- when the list with the item is open

allowed-so-far : (model : Model) (v : ℕ) (list : List ℕ) → is_route_open model v list ≡ true → list_all (allows_vehicle model v) list ≡ true
allowed-so-far model v [] h = refl
allowed-so-far model v (n ∷ ns) h = and_right (keeps_policy model v (n ∷ ns)) _
    (and_right (list_all (serves_pair (n ∷ ns)) model.pairs) _ (and_right (is_feasible_in_each model v (n ∷ ns)) _ h))

-- a list is not open where some line is not feasible
pub closed-by_lines : (model : Model) (v : ℕ) (new : List ℕ) → is_empty new ≡ false
    → is_feasible_in_each model v new ≡ false → is_route_open model v new ≡ false
closed-by_lines model v new some h =
    (λ i. some i || (h i && (list_all (serves_pair new) model.pairs && (keeps_policy model v new && list_all (allows_vehicle model v) new))))

module _ (model : Model) (v : ℕ) (list : List ℕ) (placing : Placing) (within : AreWithin list placing) (stands : is_route_open model v list ≡ true) where
  new : List ℕ
  new = placed list placing

  some : is_empty (placed list placing) ≡ false
  some = not_empty (placed list placing) (long-placed list placing within)

  allowed : list_all (allows_vehicle model v) (placed list placing) ≡ list_all (allows_vehicle model v) (item_nodes (item_in placing))
  allowed = all-placed (allows_vehicle model v) list placing within
      ∙ ap (λ b. list_all (allows_vehicle model v) (item_nodes (item_in placing)) && b) (allowed-so-far model v list stands)
      ∙ right (list_all (allows_vehicle model v) (item_nodes (item_in placing)))
    where
      right : (a : Bool) → (a && true) ≡ a
      right true = refl
      right false = refl

  pub closed-by_vehicle : list_all (allows_vehicle model v) (item_nodes (item_in placing)) ≡ false → is_route_open model v (placed list placing) ≡ false
  closed-by_vehicle h =
      (λ i. some i || (is_feasible_in_each model v (placed list placing)
      && (list_all (serves_pair (placed list placing)) model.pairs && (keeps_policy model v (placed list placing) && (allowed ∙ h) i))))
      ∙ last_fails (is_feasible_in_each model v (placed list placing))
      (list_all (serves_pair (placed list placing)) model.pairs) (keeps_policy model v (placed list placing))

  pub open-by_pairs : list_all (allows_vehicle model v) (item_nodes (item_in placing)) ≡ true → is_feasible_in_each model v (placed list placing) ≡ true
      → is_route_open model v (placed list placing) ≡ (list_all (serves_pair (placed list placing)) model.pairs && keeps_policy model v (placed list placing))
  open-by_pairs h g =
      (λ i. some i || (g i && (list_all (serves_pair (placed list placing)) model.pairs && (keeps_policy model v (placed list placing) && (allowed ∙ h) i))))
      ∙ inner_tell (list_all (serves_pair (placed list placing)) model.pairs) (keeps_policy model v (placed list placing))

-- ---- choices that are passed over

-- choices none of which is open
pub passed-closed : (model : Model) (list : List ℕ) (best : Option InsertionChoice) (choices : List InsertionChoice)
    → ((choice : InsertionChoice) → In choices choice → is_route_open model choice.vehicle (placed list choice.placing) ≡ false)
    → best ≡ fold (weigh model list) best choices
passed-closed model list best [] h = refl
passed-closed model list best (c ∷ cs) h =
    let here : best ≡ weigh model list best c = sym (ap (λ b. cond b (better key_of best c) best) (h c (inl refl))) in
    passed-closed model list best cs (λ d there. h d (inr there)) ∙ ap (λ b. fold (weigh model list) b cs) here

-- deliveries from a place on, where nothing is reached before it
pub deliveries-stuck : (model : Model) (v : ℕ) (list : List ℕ) (class p d s t : ℕ) (best : Option InsertionChoice) (probes : Probes)
    → v < length model.vehicles → MayHold model list (PickupAndDelivery p d) → s ≤ t → t ≤ length list
    → AreReachedAt model v (insert list s p) (t + 1) probes → ReachNoEnd model probes
    → best ≡ fold (weigh model list) best (map (pair_choice model v list class p d s) (from_to t (suc (length list))))
deliveries-stuck model v list class p d s t best probes low may order within at no_end =
    passed-closed model list best (map (pair_choice model v list class p d s) (from_to t (suc (length list)))) (λ choice there.
    from_map _ (from_to t (suc (length list))) choice there (λ u u_in is.
    let b = of_from_to t (suc (length list)) u u_in in
    let from = b.0 in
    let high = b.1 in
    let u_high : u ≤ length list = omega (arith, high) in
    let pair : Pair = record { pickup = p; delivery = d } in
    let used = used-placed model list (Two p d s u) (omega (arith, order, from), u_high) may in
    let long = pair_long pair list s u (omega (arith, order, from)) u_high in
    ap (λ c. is_route_open model c.vehicle (placed list c.placing)) is
    ∙ closed-by_lines model v (placed list (Two p d s u)) used.some
    (no_end v (placed list (Two p d s u)) (t + 1) low used (omega (arith, long, within))
    (reached_in_each model v (insert list s p) (placed list (Two p d s u)) (t + 1) probes (pair_front pair list s u t order (omega (arith, from)) u_high) at))))

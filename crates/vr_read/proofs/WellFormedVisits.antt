-- Groups, pairs and rows of allowed vehicles as they are read.
use Rattle.std.proofs.Common.{◌≡◌, ℕ, ◌<◌, false, ◌||◌, ◌==◌, List, [], ◌∷◌, ◌++◌, length, map, refl, ap, ap₂, subst, ◌∙◌, arith, append_assoc}
use Rattle.std.specs.Prelude.{pos, codes, flat_map, IsTrue}
use Rattle.std.specs.List.{All, list_any}
use Rattle.std.proofs.lemmas.Bool.{or_parts}
use Rattle.std.proofs.lemmas.List.Concat.{flat_map-append}
use Rattle.std.proofs.lemmas.List.Folds.{list_any-append}
use Rattle.std.proofs.lemmas.List.Elements.{All-nil, All-push}
use Rattle.std.proofs.lemmas.List.{append-nil}
use Rattle.std.proofs.Math.Bool.{or-false}
use Rattle.vr_json.specs.Reading.{array}
use Rattle.vr_model.specs.tables.Numbers.{each}
use Rattle.vr_model.specs.routes.Routes.{is_distinct, holds}
use Rattle.vr_model.specs.tables.Tables.{is_visit}
use Rattle.vr_model.specs.tables.Limits.{greatest_cost}
use Rattle.vr_model.specs.tables.WellFormed.{HasLength, IsGroup, IsPair, IsAllowed, pair_nodes}
use Rattle.vr_model.specs.declared.records.Model.{Model}
use Rattle.vr_model.specs.declared.records.Group.{Group}
use Rattle.vr_model.specs.declared.records.Pair.{Pair}
use Rattle.vr_read.specs.Vehicles.{visit}
use Rattle.vr_read.specs.Visits.{group_node, group, is_paired, pair, allowed_vehicle, allowed}
use Rattle.vr_json.proofs.Readings.{EachEnsures, EachFresh, gives, after, any_value, whole_ensures, count_ensures, below_ensures, required_ensures}
use Rattle.vr_json.proofs.Readings.{optional_ensures, maybe_ensures, refuse_if_ensures, array_keeps}
use Rattle.vr_read.proofs.Distinct.{is_distinct_push, numbered_array_ensures, list_any-flat_map, list_any_same}
use Rattle.vr_model.proofs.tables.Tests.{eq_turned}
use Rattle.vr_read.proofs.WellFormedVehicles.{visit_ensures}

-- what one thing more adds to the numbers of those before it
each_push : {A : Type 0} (f : A → List ℕ) (xs : List A) (x : A) → each (xs ++ x ∷ []) f ≡ each xs f ++ f x
each_push f xs x = flat_map-append f xs (x ∷ []) ∙ ap (λ ys. flat_map f xs ++ ys) (append-nil (f x))

module _ (model : Model) where
  -- ---- groups

  -- the nodes so far of a group behind these groups
  record AreGroupNodes (groups : List Group) (nodes : List ℕ) : Type 0 where
    each_is_visit : All (λ node. IsTrue (is_visit model node)) nodes
    no_node_twice : IsTrue (is_distinct (each groups (λ group. group.nodes) ++ nodes))

  group_nodes_push : (groups : List Group) (so_far : List ℕ) (node : ℕ) → AreGroupNodes groups so_far → IsTrue (is_visit model node)
      → (list_any (λ group. holds group.nodes node) groups || holds so_far node) ≡ false → AreGroupNodes groups (so_far ++ node ∷ [])
  group_nodes_push groups so_far node h visit fresh =
      let before : List ℕ = each groups (λ group. group.nodes) in
      let absent : holds (before ++ so_far) node ≡ false =
      list_any-append (λ y. node == y) before so_far
      ∙ ap (λ b. b || holds so_far node) (list_any-flat_map (λ y. node == y) (λ group. group.nodes) groups) ∙ fresh in
      record {
        each_is_visit = All-push (λ node. IsTrue (is_visit model node)) so_far node h.each_is_visit visit;
        no_node_twice =
            subst (λ xs. IsTrue (is_distinct xs)) (append_assoc before so_far (node ∷ [])) (is_distinct_push (before ++ so_far) node h.no_node_twice absent);
      }

  group_nodes_ensure : (groups : List Group) → IsTrue (is_distinct (each groups (λ group. group.nodes)))
      → EachEnsures (λ nodes. HasLength 1 1000 nodes × AreGroupNodes groups nodes) (array 1 1000 (group_node model.nodes model.vehicles groups))
  unfolding group_node
  group_nodes_ensure groups h = array_keeps (AreGroupNodes groups) (group_node model.nodes model.vehicles groups) (λ so_far so_far_ok path d.
      after (visit_ensures model path d) λ node node_ok.
      after (refuse_if_ensures (list_any (λ group. holds group.nodes node) groups || holds so_far node) _ _) λ fresh apart.
      gives (group_nodes_push groups so_far node so_far_ok node_ok apart))
      1 1000 (record { each_is_visit = All-nil (λ node. IsTrue (is_visit model node)); no_node_twice = rw append-nil h })

  pub record AreGroups (groups : List Group) : Type 0 where
    pub each_group : All (IsGroup model) groups
    pub no_node_twice : IsTrue (is_distinct (each groups (λ group. group.nodes)))

  group_ensures : (groups : List Group) → AreGroups groups → EachEnsures (λ group. AreGroups (groups ++ group ∷ [])) (group model.nodes model.vehicles groups)
  unfolding group
  group_ensures groups h path d =
      after (required_ensures (codes "nodes") (group_nodes_ensure groups h.no_node_twice) path d) λ nodes nodes_ok.
      after (maybe_ensures (codes "penalty") (whole_ensures (pos 0) greatest_cost) path d) λ penalty penalty_ok.
      after (optional_ensures (codes "max") 1 (omega arith, nodes_ok.0.at_least) (count_ensures 1 (length nodes)) path d) λ most most_ok.
      after any_value λ others _.
      gives (record {
        each_group = All-push (IsGroup model) groups _ h.each_group
            (record { number_of_nodes = nodes_ok.0; each_node_is_visit = nodes_ok.1.each_is_visit; penalty_in_range = penalty_ok; max_in_range = most_ok });
        no_node_twice = rw (each_push (λ group. group.nodes) groups _) nodes_ok.1.no_node_twice;
      })

  pub no_groups : AreGroups []
  no_groups = record { each_group = All-nil (IsGroup model); no_node_twice = refl }

  pub groups_ensure : (hi : ℕ) → EachEnsures (λ groups. HasLength 0 hi groups × AreGroups groups) (array 0 hi (group model.nodes model.vehicles))
  groups_ensure hi = array_keeps AreGroups (group model.nodes model.vehicles) group_ensures 0 hi no_groups

  -- ---- pairs

  pub record ArePairs (pairs : List Pair) : Type 0 where
    pub each_pair : All (IsPair model) pairs
    pub no_node_twice : IsTrue (is_distinct (each pairs pair_nodes))

  unpaired : (pairs : List Pair) (node : ℕ) → is_paired pairs node ≡ false → holds (each pairs pair_nodes) node ≡ false
  unpaired pairs node h = list_any-flat_map (λ y. node == y) pair_nodes pairs
      ∙ list_any_same (λ pair. (node == pair.pickup) || ((node == pair.delivery) || false)) (λ pair. (pair.pickup == node) || (pair.delivery == node))
      (λ pair. ap₂ (λ a b. a || b) (eq_turned node pair.pickup) (or-false _ ∙ eq_turned node pair.delivery)) pairs
      ∙ h

  pairs_push : (pairs : List Pair) (pickup delivery : ℕ) → ArePairs pairs → IsTrue (is_visit model pickup) → IsTrue (is_visit model delivery)
      → is_paired pairs pickup ≡ false → (is_paired pairs delivery || (pickup == delivery)) ≡ false
      → ArePairs (pairs ++ record { pickup = pickup; delivery = delivery } ∷ [])
  pairs_push pairs pickup delivery h p q first second =
      let before : List ℕ = each pairs pair_nodes in
      let apart = or_parts _ _ second in
      let absent : holds (before ++ pickup ∷ []) delivery ≡ false =
      list_any-append (λ y. delivery == y) before (pickup ∷ [])
      ∙ ap₂ (λ a b. a || (b || false)) (unpaired pairs delivery apart.0) (eq_turned delivery pickup ∙ apart.1) in
      let distinct = is_distinct_push (before ++ pickup ∷ []) delivery (is_distinct_push before pickup h.no_node_twice (unpaired pairs pickup first)) absent in
      record {
        each_pair = All-push (IsPair model) pairs _ h.each_pair (record { pickup_is_visit = p; delivery_is_visit = q });
        no_node_twice = rw (each_push pair_nodes pairs _) (subst (λ xs. IsTrue (is_distinct xs)) (append_assoc before (pickup ∷ []) (delivery ∷ [])) distinct);
      }

  pair_ensures : (pairs : List Pair) → ArePairs pairs → EachEnsures (λ read. ArePairs (pairs ++ read ∷ [])) (pair model.nodes model.vehicles pairs)
  unfolding pair
  pair_ensures pairs h path d =
      after (required_ensures (codes "pickup") (visit_ensures model) path d) λ pickup pickup_ok.
      after (refuse_if_ensures (is_paired pairs pickup) _ _) λ fresh_pickup pickup_apart.
      after (required_ensures (codes "delivery") (visit_ensures model) path d) λ delivery delivery_ok.
      after (refuse_if_ensures (is_paired pairs delivery || (pickup == delivery)) _ _) λ fresh_delivery delivery_apart.
      after any_value λ others _.
      gives (pairs_push pairs pickup delivery h pickup_ok delivery_ok pickup_apart delivery_apart)

  pub no_pairs : ArePairs []
  no_pairs = record { each_pair = All-nil (IsPair model); no_node_twice = refl }

  pub pairs_ensure : (hi : ℕ) → EachEnsures (λ pairs. HasLength 0 hi pairs × ArePairs pairs) (array 0 hi (pair model.nodes model.vehicles))
  pairs_ensure hi = array_keeps ArePairs (pair model.nodes model.vehicles) pair_ensures 0 hi no_pairs

  -- ---- allowed vehicles

  -- distinct vehicles of so many
  record AreAllowed (vehicles : ℕ) (allowed : List ℕ) : Type 0 where
    each_is_vehicle : All (λ v. v < vehicles) allowed
    no_vehicle_twice : IsTrue (is_distinct allowed)

  allowed_vehicles_ensure : (vehicles : ℕ)
      → EachEnsures (λ allowed. HasLength 1 vehicles allowed × AreAllowed vehicles allowed) (array 1 vehicles (allowed_vehicle vehicles))
  unfolding allowed_vehicle
  allowed_vehicles_ensure vehicles = array_keeps (AreAllowed vehicles) (allowed_vehicle vehicles) (λ so_far so_far_ok path d.
      after (below_ensures vehicles path d) λ vehicle low.
      after (refuse_if_ensures (holds so_far vehicle) _ _) λ fresh apart.
      gives (record {
        each_is_vehicle = All-push (λ v. v < vehicles) so_far vehicle so_far_ok.each_is_vehicle low;
        no_vehicle_twice = is_distinct_push so_far vehicle so_far_ok.no_vehicle_twice apart;
      }))
      1 vehicles (record { each_is_vehicle = All-nil (λ v. v < vehicles); no_vehicle_twice = refl })

  allowed_ensures : EachFresh (IsAllowed model) (λ other row. other.node == row.node) (allowed model.nodes (length model.vehicles) model.vehicles)
  unfolding allowed
  allowed_ensures earlier path d =
      after (required_ensures (codes "node") (visit_ensures model) path d) λ node node_ok.
      after (refuse_if_ensures (list_any (λ row. row.node == node) earlier) _ _) λ fresh apart.
      after (required_ensures (codes "vehicles") (allowed_vehicles_ensure (length model.vehicles)) path d) λ permitted permitted_ok.
      after any_value λ others _.
      gives (
        record {
          node_is_visit = node_ok;
          number_of_vehicles = permitted_ok.0;
          vehicles_in_range = permitted_ok.1.each_is_vehicle;
          no_vehicle_twice = permitted_ok.1.no_vehicle_twice;
        },
        apart,
      )

  pub allowed_rows_ensure : (hi : ℕ)
      → EachEnsures (λ rows. HasLength 0 hi rows × (All (IsAllowed model) rows × IsTrue (is_distinct (map (λ row. row.node) rows))))
      (array 0 hi (allowed model.nodes (length model.vehicles) model.vehicles))
  allowed_rows_ensure hi = numbered_array_ensures (λ row. row.node) 0 hi allowed_ensures

-- What moves of a run save at most, by what stands in the place of stretches of their lists.
use Rattle.std.proofs.Common.{◌≡◌, ◌≢◌, ◌∙◌, ℕ, zero, suc, ◌+◌, ◌-◌, ◌<◌, ◌≤◌, false, Option, Some, None, List, [], ◌∷◌, ◌++◌, length, take, drop, refl, sym}
use Rattle.std.proofs.Common.{ap, subst, arith}
use Rattle.std.specs.Prelude.{ℤ, ◌+ℤ◌, ◌-ℤ◌, ◌≤ℤ◌, All, IsTrue, insert, remove, slice_range, slice_set, slice_index_or}
use Rattle.std.proofs.lemmas.Int.{ints}
use Rattle.std.proofs.lemmas.List.Elements.{All-append, All-take, All-drop}
use Rattle.vr_model.specs.tables.Numbers.{number_at}
use Rattle.vr_model.specs.tables.Tables.{vehicle_at}
use Rattle.vr_model.specs.tables.WellFormed.{IsWellFormed}
use Rattle.vr_model.specs.moves.Moves.{node_at}
use Rattle.vr_model.specs.moves.MoveTests.{is_inactive}
use Rattle.vr_model.specs.deciding.Testing.{and_left}
use Rattle.vr_model.specs.routes.Routes.{route}
use Rattle.vr_model.specs.routes.Rules.{is_valid}
use Rattle.vr_model.specs.search.GuidedSearches.{Penalties, penalised}
use Rattle.vr_model.specs.declared.records.Model.{Model}
use Rattle.vr_known.specs.Touching.{AreFound}
use Rattle.vr_known.specs.declared.touched.Touched.{Touched}
use Rattle.vr_model.specs.declared.neighbours.Move.{Move}
use Rattle.vr_model.specs.declared.neighbours.Move.TheVariants.{Relocate, Exchange, Cross, MakeActive}
use Rattle.vr_routes.proofs.FactLemmas.{of_relocate, of_exchange, of_make_active}
use Rattle.vr_routes.proofs.PieceLemmas.{removed_is, inserted_is, replaced_is}
use Rattle.vr_routes.proofs.ChangeLemmas.{exchanged_between}
use Rattle.vr_guided.specs.Counts.{AtMost}
use Rattle.vr_guided.specs.RouteSums.{AreAllRouteSums, AreRouteSums, no_route_sums}
use Rattle.vr_guided.specs.Sums.{weight_by}
use Rattle.vr_guided.specs.Savings.{CutAtMost, SavesAtMost, TakesAtMost}
use Rattle.vr_guided.specs.Walks.{route_weight, stretch_weight}
use Rattle.vr_guided.specs.declared.route_sums.RouteSums.{RouteSums}
use Rattle.vr_balance.specs.Sums.{last_of, line_nodes}
use Rattle.vr_guided.proofs.BoundLemmas.{middle_saved}
use Rattle.vr_guided.proofs.KeptLemmas.{IsStretch, kept_stretch, forward_long}
use Rattle.vr_guided.proofs.ListLemmas.{list_below}
use Rattle.vr_guided.proofs.PartLemmas.{one_changed, two_changed}
use Rattle.vr_guided.proofs.SumLemmas.{sums-between}
use Rattle.vr_guided.proofs.WalkLemmas.{some_next}

module _ (model : Model) (well : IsWellFormed model) (p : Penalties) (few : AtMost 1000000000 p)
    (lists : List (List ℕ)) (valid : IsTrue (is_valid model lists)) (v : ℕ) (known : v < length model.vehicles) where
  abbrev list : List ℕ
  list = route lists v

  below : All (λ node. node < model.nodes) list
  below = list_below model lists valid v refl

  -- by what the arcs of the stretch add
  pub taken_most : (front behind : ℕ) (most : ℤ) → front ≤ behind
      → ((next : ℕ) (others : List ℕ) → drop behind list ++ (vehicle_at model v).end ∷ [] ≡ next ∷ others
      → stretch_weight model p v (last_of (vehicle_at model v).start (take front list)) (slice_range list front behind) next ≤ℤ most)
      → TakesAtMost model p v list front behind most
  taken_most front behind most order is middle nodes =
      let next = some_next (drop behind list) (vehicle_at model v).end in
      let all = All-append (λ node. node < model.nodes) (take front list) (middle ++ drop behind list) (All-take (λ node. node < model.nodes) front list below)
      (All-append (λ node. node < model.nodes) middle (drop behind list) nodes (All-drop (λ node. node < model.nodes) behind list below)) in
      let saved = middle_saved model well p few v known list middle front behind next.0 next.1.0 order next.1.1 all in
      let high = is next.0 next.1.0 next.1.1 in
      omega (arith, ints, saved, high)

  -- the arc at a gap
  pub cut_most : (t : ℕ) (most : ℤ)
      → ((next : ℕ) (others : List ℕ) → drop t list ++ (vehicle_at model v).end ∷ [] ≡ next ∷ others
      → stretch_weight model p v (last_of (vehicle_at model v).start (take t list)) (slice_range list t t) next ≤ℤ most)
      → CutAtMost model p v list t most
  cut_most t most is next others e =
      subst (λ xs. stretch_weight model p v (last_of (vehicle_at model v).start (take t list)) xs next ≤ℤ most)
      (ap (λ k. take k (drop t list)) (let none : t - t ≡ 0 = omega arith in none)) (is next others e)

  module _ {route_sums : List RouteSums} {both : RouteSums} (are : AreAllRouteSums model p lists route_sums)
      (of : both ≡ slice_index_or route_sums v no_route_sums) where
    summed : (front behind : ℕ) → front ≤ behind → behind ≤ length list
        → IsStretch model p v list front behind (number_at both.forward (behind + 1) -ℤ number_at both.forward front)
    summed front behind order high =
        let long = forward_long are v known of in
        kept_stretch are v known of well few valid front behind order high {total = number_at both.forward (behind + 1) -ℤ number_at both.forward front}
        (λ sums. sums-between (weight_by model p false) v (vehicle_at model v).start (line_nodes model v list)
        both.forward front (behind + 1) sums (omega (arith, order)) (omega (arith, high, long)))

    by_sums : (front behind : ℕ) (most : ℤ) → front ≤ behind → behind ≤ length list
        → (number_at both.forward (behind + 1) -ℤ number_at both.forward front) ≤ℤ most → TakesAtMost model p v list front behind most
    by_sums front behind most order high under = taken_most front behind most order
        (λ next others e. let value = (summed front behind order high).value next others e in omega (arith, ints, value, under))

    pub gap_cut : (t : ℕ) → t ≤ length list → CutAtMost model p v list t both.most_at_gap
    gap_cut t high = cut_most t both.most_at_gap (λ next others e.
        let long = forward_long are v known of in
        let value = (summed t t (omega arith) high).value next others e in
        let under = (subst (AreRouteSums model p v list) (sym of) (are.each v known)).gap t (omega (arith, high, long)) in
        omega (arith, ints, value, under))

    pub gap_most : (t : ℕ) → t ≤ length list → TakesAtMost model p v list t t both.most_at_gap
    gap_most t high =
        let long = forward_long are v known of in
        by_sums t t both.most_at_gap (omega arith) high ((here).gap t (omega (arith, high, long)))
      where
        here : AreRouteSums model p v list both
        here = subst (AreRouteSums model p v list) (sym of) (are.each v known)

    pub place_most : (b : ℕ) → b < length list → TakesAtMost model p v list b (b + 1) both.most_at_place
    place_most b low =
        let long = forward_long are v known of in
        let two : (b + 1) + 1 ≡ b + 2 = omega arith in
        by_sums b (b + 1) both.most_at_place (omega arith) (omega (arith, low))
        (subst (λ k. (number_at both.forward k -ℤ number_at both.forward b) ≤ℤ both.most_at_place) (sym two) (here.place b (omega (arith, low, long))))
      where
        here : AreRouteSums model p v list both
        here = subst (AreRouteSums model p v list) (sym of) (are.each v known)

inserted_as : (xs : List ℕ) (t x : ℕ) → take t xs ++ ((x ∷ []) ++ drop t xs) ≡ insert xs t x
inserted_as xs t x = ap (λ e. take t xs ++ x ∷ drop e xs) (let same : t ≡ t + 0 = omega arith in same) ∙ inserted_is xs t x

-- ---- by kinds

module _ (model : Model) (p : Penalties) (lists : List (List ℕ)) where
  -- two lists of which a stretch each is another one
  two_stretches : (v w : ℕ) (front behind from to : ℕ) (middle others : List ℕ) (most most_w : ℤ) (xs ys : List ℕ) → v < length lists → w < length lists → v ≢ w
      → All (λ node. node < model.nodes) middle → All (λ node. node < model.nodes) others
      → TakesAtMost model p v (route lists v) front behind most → TakesAtMost model p w (route lists w) from to most_w
      → take front (route lists v) ++ (middle ++ drop behind (route lists v)) ≡ xs → take from (route lists w) ++ (others ++ drop to (route lists w)) ≡ ys
      → (penalised model p lists -ℤ penalised model p (slice_set (slice_set lists v xs) w ys)) ≤ℤ (most +ℤ most_w)
  two_stretches v w front behind from to middle others most most_w xs ys low low_w apart nodes nodes_w is is_w e e_w =
      let both = two_changed model p lists v w xs ys low low_w apart in
      let first = subst (λ zs. (route_weight model p v (route lists v) -ℤ route_weight model p v zs) ≤ℤ most) e (is middle nodes) in
      let second = subst (λ zs. (route_weight model p w (route lists w) -ℤ route_weight model p w zs) ≤ℤ most_w) e_w (is_w others nodes_w) in
      omega (arith, ints, both, first, second)

  one_node : (x : ℕ) → x < model.nodes → All (λ node. node < model.nodes) (x ∷ [])
  one_node x low zero d under = low
  one_node x low (suc k) d under = absurd (omega (arith, under))

  no_node : All (λ node. node < model.nodes) []
  no_node k d under = absurd (omega (arith, under))

  module _ (valid : IsTrue (is_valid model lists)) where
    node_low : (v a : ℕ) → a < length (route lists v) → node_at (route lists v) a < model.nodes
    node_low v a low = list_below model lists valid v refl a 0 low

    pub relocating : (v a w : ℕ) (most most_w : ℤ) → (a < length (route lists v) → TakesAtMost model p v (route lists v) a (a + 1) most)
        → ((t : ℕ) → t ≤ length (route lists w) → TakesAtMost model p w (route lists w) t t most_w)
        → SavesAtMost model p lists (Relocate v a w 0) (most +ℤ most_w)
    relocating v a w most most_w is is_w t one =
        let f = of_relocate model lists v a w t one in
        two_stretches v w a (a + 1) t t [] (node_at (route lists v) a ∷ []) most most_w
        (remove (route lists v) a) (insert (route lists w) t (node_at (route lists v) a))
        f.vehicle f.other f.apart no_node (one_node (node_at (route lists v) a) (node_low v a f.place)) (is f.place) (is_w t f.gap)
        (removed_is (route lists v) a) (inserted_as (route lists w) t (node_at (route lists v) a))

    pub exchanging : (v a w : ℕ) (most most_w : ℤ) → v ≢ w → (a < length (route lists v) → TakesAtMost model p v (route lists v) a (a + 1) most)
        → ((b : ℕ) → b < length (route lists w) → TakesAtMost model p w (route lists w) b (b + 1) most_w)
        → SavesAtMost model p lists (Exchange v a w 0) (most +ℤ most_w)
    exchanging v a w most most_w apart is is_w b one =
        let f = of_exchange model lists v a w b one in
        let x : ℕ = node_at (route lists v) a in
        let y : ℕ = node_at (route lists w) b in
        subst (λ later. (penalised model p lists -ℤ penalised model p later) ≤ℤ (most +ℤ most_w))
        (exchanged_between lists v w b x (slice_set (route lists v) a y) apart)
        (two_stretches v w a (a + 1) b (b + 1) (y ∷ []) (x ∷ []) most most_w (slice_set (route lists v) a y) (slice_set (route lists w) b x)
        f.vehicle f.other apart (one_node y (node_low w b f.other_place)) (one_node x (node_low v a f.place)) (is f.place) (is_w b f.other_place)
        (replaced_is (route lists v) a y f.place) (replaced_is (route lists w) b x f.other_place))

    inactive_low : (u : ℕ) → IsTrue (is_inactive model lists u) → u < model.nodes
    inactive_low u h = Prim.grind arith

    pub making_active : (u w : ℕ) (most : ℤ) → ((t : ℕ) → t ≤ length (route lists w) → TakesAtMost model p w (route lists w) t t most)
        → SavesAtMost model p lists (MakeActive u w 0) most
    making_active u w most is t one =
        let f = of_make_active model lists u w t one in
        let changed = one_changed model p lists w (insert (route lists w) t u) f.vehicle in
        let saved = subst (λ zs. (route_weight model p w (route lists w) -ℤ route_weight model p w zs) ≤ℤ most)
        (inserted_as (route lists w) t u) (is t f.gap (u ∷ []) (one_node u (inactive_low u (and_left (is_inactive model lists u) _ one)))) in
        omega (arith, ints, changed, saved)

-- ---- the vehicles that a run names

module _ (model : Model) (p : Penalties) (lists : List (List ℕ)) (mv : Move) (touched : Touched) (z : ℤ) (found : AreFound model lists mv (Some touched)) where
  abbrev in_some : Option Touched → Touched
  in_some None = touched
  in_some (Some both) = both

  pub as_relocating : (v a w t : ℕ) → mv ≡ Relocate v a w t
      → SavesAtMost model p lists (Relocate touched.first a touched.second 0) z → SavesAtMost model p lists mv z
  as_relocating v a w t is saves =
      let same : touched ≡ record { first = v; second = w } = ap in_some (subst (λ m. AreFound model lists m (Some touched)) is found) in
      subst (λ m. SavesAtMost model p lists m z) (sym is)
      (subst (λ (both : Touched). SavesAtMost model p lists (Relocate both.first a both.second 0) z) same saves)

  pub as_exchanging : (v a w b : ℕ) → mv ≡ Exchange v a w b
      → SavesAtMost model p lists (Exchange touched.first a touched.second 0) z → SavesAtMost model p lists mv z
  as_exchanging v a w b is saves =
      let same : touched ≡ record { first = v; second = w } = ap in_some (subst (λ m. AreFound model lists m (Some touched)) is found) in
      subst (λ m. SavesAtMost model p lists m z) (sym is)
      (subst (λ (both : Touched). SavesAtMost model p lists (Exchange both.first a both.second 0) z) same saves)

  pub as_making_active : (u w t : ℕ) → mv ≡ MakeActive u w t → SavesAtMost model p lists (MakeActive u touched.first 0) z → SavesAtMost model p lists mv z
  as_making_active u w t is saves =
      let same : touched ≡ record { first = w; second = w } = ap in_some (subst (λ m. AreFound model lists m (Some touched)) is found) in
      subst (λ m. SavesAtMost model p lists m z) (sym is) (subst (λ (both : Touched). SavesAtMost model p lists (MakeActive u both.first 0) z) same saves)

  pub as_crossing : (v a w b : ℕ) → mv ≡ Cross v a w b → SavesAtMost model p lists (Cross touched.first a touched.second 0) z → SavesAtMost model p lists mv z
  as_crossing v a w b is saves =
      let same : touched ≡ record { first = v; second = w } = ap in_some (subst (λ m. AreFound model lists m (Some touched)) is found) in
      subst (λ m. SavesAtMost model p lists m z) (sym is)
      (subst (λ (both : Touched). SavesAtMost model p lists (Cross both.first a both.second 0) z) same saves)

-- Fronts of two lists that change vehicles: of vehicles that are alike, no more is saved than the arcs at both cuts.
use Rattle.std.proofs.Common.{◌≡◌, ◌∙◌, ℕ, ◌<◌, ◌≤◌, List, [], ◌∷◌, ◌++◌, length, take, drop, refl, sym, ap, arith, append_assoc}
use Rattle.std.specs.Prelude.{ℤ, ◌+ℤ◌, ◌-ℤ◌, ◌≤ℤ◌, All, IsTrue}
use Rattle.std.proofs.lemmas.Int.{ints}
use Rattle.std.proofs.lemmas.List.{take-append-drop}
use Rattle.std.proofs.lemmas.List.Elements.{All-append, All-take, All-drop}
use Rattle.vr_model.specs.tables.Tables.{vehicle_at}
use Rattle.vr_model.specs.tables.WellFormed.{IsWellFormed}
use Rattle.vr_model.specs.routes.Routes.{route}
use Rattle.vr_model.specs.routes.Rules.{is_valid}
use Rattle.vr_model.specs.search.GuidedSearches.{Penalties}
use Rattle.vr_model.specs.declared.records.Model.{Model}
use Rattle.vr_model.specs.declared.neighbours.Move.TheVariants.{Cross}
use Rattle.vr_routes.proofs.FactLemmas.{of_cross}
use Rattle.vr_guided.specs.Counts.{AtMost}
use Rattle.vr_guided.specs.Savings.{AreAlike, CutAtMost, SavesAtMost}
use Rattle.vr_guided.specs.Walks.{arc_weight, route_weight, stretch_weight, unused_weight}
use Rattle.vr_balance.specs.Sums.{last_of}
use Rattle.vr_guided.proofs.BoundLemmas.{unused_low, whole_low}
use Rattle.vr_guided.proofs.ChainLemmas.{along-same}
use Rattle.vr_guided.proofs.ListLemmas.{list_below}
use Rattle.vr_guided.proofs.LocalChanges.{along, along_split}
use Rattle.vr_guided.proofs.PartLemmas.{bare, two_changed}
use Rattle.vr_guided.proofs.WalkLemmas.{some_next}

module _ (model : Model) (p : Penalties) (v : ℕ) where
  abbrev start : ℕ
  start = (vehicle_at model v).start

  abbrev end : ℕ
  end = (vehicle_at model v).end

  -- the arcs of a list in front of a cut, at it, and behind it
  cut : (front rest others : List ℕ) (next : ℕ) → rest ++ end ∷ [] ≡ next ∷ others
      → route_weight model p v (front ++ rest)
      ≡ ((along (arc_weight model p) v start front +ℤ stretch_weight model p v (last_of start front) [] next) +ℤ along (arc_weight model p) v next others)
      -ℤ unused_weight model p v (length (front ++ rest))
  cut front rest others next e =
      let w = arc_weight model p in
      let whole = bare model p v (front ++ rest) in
      let joined : along (arc_weight model p) v start ((front ++ rest) ++ end ∷ []) ≡ along (arc_weight model p) v start (front ++ next ∷ others)
      = ap (along (arc_weight model p) v start) (append_assoc front rest (end ∷ []) ∙ ap (λ xs. front ++ xs) e) in
      let first = along_split (arc_weight model p) v start front (next ∷ others) in
      let second = along_split (arc_weight model p) v (last_of start front) (next ∷ []) others in
      omega (arith, ints, whole, joined, first, second)

module _ (model : Model) (well : IsWellFormed model) (p : Penalties) (few : AtMost 1000000000 p)
    (lists : List (List ℕ)) (valid : IsTrue (is_valid model lists)) (v w : ℕ)
    (known : v < length model.vehicles) (known_w : w < length model.vehicles) (alike : AreAlike model v w) where
  below : (u : ℕ) → All (λ node. node < model.nodes) (route lists u)
  below u = list_below model lists valid u refl

  mixed : (u x k l : ℕ) → All (λ node. node < model.nodes) (take k (route lists u) ++ drop l (route lists x))
  mixed u x k l = All-append (λ node. node < model.nodes) (take k (route lists u)) (drop l (route lists x))
      (All-take (λ node. node < model.nodes) k (route lists u) (below u)) (All-drop (λ node. node < model.nodes) l (route lists x) (below x))

  -- the front of one list costs the other vehicle the same
  same_front : (nodes : List ℕ) → along (arc_weight model p) v (vehicle_at model v).start nodes ≡ along (arc_weight model p) w (vehicle_at model w).start nodes
  same_front nodes = ap (λ x. along (arc_weight model p) v x nodes) alike.starts ∙ along-same model p v w alike.costs (vehicle_at model w).start nodes

  crossed : (a b : ℕ) (most most_w : ℤ) → CutAtMost model p v (route lists v) a most → CutAtMost model p w (route lists w) b most_w
      → ((route_weight model p v (route lists v) +ℤ route_weight model p w (route lists w))
      -ℤ (route_weight model p v (take b (route lists w) ++ drop a (route lists v))
      +ℤ route_weight model p w (take a (route lists v) ++ drop b (route lists w)))) ≤ℤ (most +ℤ most_w)
  crossed a b most most_w is is_w =
      let list : List ℕ = route lists v in
      let list_w : List ℕ = route lists w in
      let next = some_next (drop a list) (vehicle_at model v).end in
      let next_w = some_next (drop b list_w) (vehicle_at model w).end in
      let old = ap (route_weight model p v) (sym (take-append-drop a list)) ∙ cut model p v (take a list) (drop a list) next.1.0 next.0 next.1.1 in
      let old_w = ap (route_weight model p w) (sym (take-append-drop b list_w))
      ∙ cut model p w (take b list_w) (drop b list_w) next_w.1.0 next_w.0 next_w.1.1 in
      let new = cut model p v (take b list_w) (drop a list) next.1.0 next.0 next.1.1 in
      let new_w = cut model p w (take a list) (drop b list_w) next_w.1.0 next_w.0 next_w.1.1 in
      let low = whole_low model well p few v known (take b list_w) [] (drop a list) next.1.0 next.0 next.1.1 (mixed w v b a) in
      let low_w = whole_low model well p few w known_w (take a list) [] (drop b list_w) next_w.1.0 next_w.0 next_w.1.1 (mixed v w a b) in
      let free = unused_low model well p few v known (length (take a list ++ drop a list)) in
      let free_w = unused_low model well p few w known_w (length (take b list_w ++ drop b list_w)) in
      let front = same_front (take a list) in
      let front_w = same_front (take b list_w) in
      let cut_v = is next.0 next.1.0 next.1.1 in
      let cut_w = is_w next_w.0 next_w.1.0 next_w.1.1 in
      omega (arith, ints, old, old_w, new, new_w, low, low_w, free, free_w, front, front_w, cut_v, cut_w)

  pub crossing : (a : ℕ) (most most_w : ℤ) → (a ≤ length (route lists v) → CutAtMost model p v (route lists v) a most)
      → ((b : ℕ) → b ≤ length (route lists w) → CutAtMost model p w (route lists w) b most_w)
      → SavesAtMost model p lists (Cross v a w 0) (most +ℤ most_w)
  crossing a most most_w is is_w b one =
      let f = of_cross model lists v a w b one in
      let both = two_changed model p lists v w (take b (route lists w) ++ drop a (route lists v))
      (take a (route lists v) ++ drop b (route lists w)) f.vehicle f.other f.apart in
      let saved = crossed a b most most_w (is f.gap) (is_w b f.other_gap) in
      omega (arith, ints, both, saved)

-- What the arcs of a stretch of a list add up to, as a difference of two sums.
use Rattle.std.proofs.Common.{◌≡◌, ◌∙◌, ℕ, ◌+◌, ◌-◌, ◌*◌, ◌^◌, ◌<◌, ◌≤◌, false, List, [], ◌∷◌, ◌++◌, length, take, drop, sym, ap₂, subst, arith}
use Rattle.std.specs.Prelude.{ℤ, pos, All, slice_range}
use Rattle.std.proofs.lemmas.List.{length-append, length-drop, length-take-le, take-append-le}
use Rattle.std.proofs.lemmas.List.Elements.{All-take, All-drop}
use Rattle.vr_model.specs.tables.Numbers.{total_by}
use Rattle.vr_model.specs.tables.Tables.{no_vehicle, vehicle_at}
use Rattle.vr_model.specs.tables.WellFormed.{IsIn, IsWellFormed}
use Rattle.vr_model.specs.routes.Routes.{arcs_from}
use Rattle.vr_model.specs.search.GuidedSearches.{Penalties}
use Rattle.vr_model.specs.declared.records.Model.{Model}
use Rattle.vr_model.proofs.routes.Bounded.{up_to-more}
use Rattle.vr_guided.specs.Counts.{AtMost}
use Rattle.vr_guided.specs.Sums.{weight_by}
use Rattle.vr_guided.specs.Walks.{stretch_weight, arc_weight}
use Rattle.vr_balance.specs.Sums.{last_of, line_nodes}
use Rattle.vr_guided.proofs.BoundLemmas.{last_below, most, path-up_to}
use Rattle.vr_guided.proofs.LocalChanges.{along}
use Rattle.vr_guided.proofs.SumLemmas.{stretch-line_nodes}
use Rattle.vr_guided.proofs.WalkLemmas.{all_push}

module _ (model : Model) (well : IsWellFormed model) (p : Penalties) (few : AtMost 1000000000 p) (v : ℕ) (known : v < length model.vehicles)
    (list : List ℕ) (below : All (λ node. node < model.nodes) list) (short : length list ≤ 1000)
    (front behind : ℕ) (order : front ≤ behind) (high : behind ≤ length list) (z : ℤ)
    (is : z ≡ total_by (weight_by model p false)
    (arcs_from v (last_of (vehicle_at model v).start (take front (line_nodes model v list)))
    (slice_range (line_nodes model v list) front (behind + 1)))) where
  abbrev start : ℕ
  start = (vehicle_at model v).start

  abbrev end : ℕ
  end = (vehicle_at model v).end

  same_front : take front (list ++ end ∷ []) ≡ take front list
  same_front = take-append-le front list (end ∷ []) (omega (arith, order, high))

  -- the stretch from the node before it to the next one
  pub stretch-value : (next : ℕ) (others : List ℕ) → drop behind list ++ end ∷ [] ≡ next ∷ others
      → z ≡ stretch_weight model p v (last_of start (take front list)) (slice_range list front behind) next
  stretch-value next others first = is
      ∙ ap₂ (λ xs ys. along (arc_weight model p) v (last_of start xs) ys) same_front (stretch-line_nodes front behind end next list others order high first)

  pub stretch-range : IsIn (pos 0) (pos (1001 * 2 ^ 70)) z
  stretch-range =
      let vehicle = (well.each_vehicle v no_vehicle known) in
      let all : All (λ node. node < model.nodes) (list ++ end ∷ []) = all_push (λ node. node < model.nodes) list end below vehicle.end_in_range in
      let from : last_of start (take front (list ++ end ∷ [])) < model.nodes = last_below model well p few v known start
      (take front (list ++ end ∷ [])) vehicle.start_in_range (All-take (λ node. node < model.nodes) front (list ++ end ∷ []) all) in
      let nodes = All-take (λ node. node < model.nodes) (behind + 1 - front) (drop front (list ++ end ∷ []))
      (All-drop (λ node. node < model.nodes) front (list ++ end ∷ []) all) in
      let up = path-up_to model well p few v (last_of start (take front (list ++ end ∷ [])))
      (slice_range (list ++ end ∷ []) front (behind + 1)) known from nodes in
      let whole = length-append list (end ∷ []) in
      let rest = length-drop front (list ++ end ∷ []) in
      let len = length-take-le (behind + 1 - front) (drop front (list ++ end ∷ [])) (omega (arith, whole, rest, order, high)) in
      subst (IsIn (pos 0) (pos (1001 * 2 ^ 70))) (sym is)
      (up_to-more _ up (few_arcs (length (slice_range (list ++ end ∷ []) front (behind + 1))) (omega (arith, len, order, high, short))))
    where
      few_arcs : (n : ℕ) → n ≤ 1001 → n * most ≤ 1001 * 2 ^ 70
      few_arcs n h = omega (arith, h)

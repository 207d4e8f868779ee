-- Chains and stretches of the list of a vehicle, by its sums.
use Rattle.std.proofs.Common.{◌≡◌, ℕ, suc, ◌+◌, ◌-◌, ◌*◌, ◌^◌, ◌<◌, ◌≤◌, true, false, List, [], ◌∷◌, ◌++◌, length, take, drop, reverse, get_or, refl, sym}
use Rattle.std.proofs.Common.{subst, to_z, of_z, arith}
use Rattle.std.specs.Int.{w128}
use Rattle.std.specs.Prelude.{ℤ, pos, All, IsTrue, slice_index_or, slice_range}
use Rattle.std.proofs.lemmas.Int.{ints}
use Rattle.std.proofs.lemmas.List.{length-append}
use Rattle.std.proofs.lemmas.List.Elements.{All-take, All-drop}
use Rattle.vr_model.specs.tables.Numbers.{total_by}
use Rattle.vr_model.specs.tables.Tables.{vehicle_at}
use Rattle.vr_model.specs.tables.WellFormed.{IsIn, IsWellFormed}
use Rattle.vr_model.specs.routes.Routes.{UsedArc, arcs_from, route}
use Rattle.vr_model.specs.routes.Rules.{is_valid}
use Rattle.vr_model.specs.search.GuidedSearches.{Penalties}
use Rattle.vr_model.specs.declared.records.Model.{Model}
use Rattle.vr_guided.specs.Counts.{AtMost}
use Rattle.vr_guided.specs.RouteSums.{AreAllRouteSums, AreRouteSums, no_route_sums}
use Rattle.vr_guided.specs.Sums.{AreArcSums, weight_by}
use Rattle.vr_guided.specs.Walks.{stretch_weight}
use Rattle.vr_balance.specs.Sums.{last_of, line_nodes}
use Rattle.vr_guided.specs.declared.route_sums.RouteSums.{RouteSums}
use Rattle.vr_guided.proofs.ChainLemmas.{AreJump, all-reversed, jump-first, jump-last, jump-range, kept-back, kept-forward, total-read}
use Rattle.vr_guided.proofs.ListLemmas.{list_below, list_short}
use Rattle.vr_guided.proofs.StretchLemmas.{stretch-range, stretch-value}

-- a walk goes through nodes of a model at one go, and what their arcs add is read as it is
pub record IsKept (model : Model) (p : Penalties) (w : ℕ) (nodes : List ℕ) (first last arcs : ℕ) (total : ℤ) : Type 0 where
  pub jump : AreJump model p w nodes first last arcs total
  pub first_known : first < model.nodes
  pub last_known : last < model.nodes
  pub range : IsIn (pos 0) (pos (arcs * 2 ^ 70)) total
  pub read : to_z w128 (of_z w128 total) ≡ total

kept : (model : Model) → IsWellFormed model → (p : Penalties) → AtMost 1000000000 p
    → (w : ℕ) → w < length model.vehicles → (nodes : List ℕ) (first last arcs : ℕ) (total : ℤ)
    → AreJump model p w nodes first last arcs total → All (λ node. node < model.nodes) nodes → arcs ≤ 1000 → IsKept model p w nodes first last arcs total
kept model well p few w known nodes first last arcs total jump below short = record {
  jump = jump;
  first_known = jump-first model well p few w known nodes first last arcs total jump below;
  last_known = jump-last model well p few w known nodes first last arcs total jump below;
  range = range;
  read = total-read total arcs range short;
}
  where
    range : IsIn (pos 0) (pos (arcs * 2 ^ 70)) total
    range = jump-range model well p few w known nodes first last arcs total jump below

-- what a stretch of a list adds, from the node before it to the next one
pub record IsStretch (model : Model) (p : Penalties) (v : ℕ) (list : List ℕ) (front behind : ℕ) (total : ℤ) : Type 0 where
  pub range : IsIn (pos 0) (pos (1001 * 2 ^ 70)) total
  pub read : to_z w128 (of_z w128 total) ≡ total
  pub value : (next : ℕ) (others : List ℕ) → drop behind list ++ (vehicle_at model v).end ∷ [] ≡ next ∷ others
      → total ≡ stretch_weight model p v (last_of (vehicle_at model v).start (take front list)) (slice_range list front behind) next

-- a difference of sums of a vehicle along a path through others, from one place to another
abbrev pub IsBetween : (UsedArc → ℤ) → ℕ → ℕ → List ℕ → ℕ → ℕ → List ℤ → ℤ → Type 0
IsBetween f v start nodes from to sums total =
    AreArcSums f v start nodes sums → total ≡ total_by f (arcs_from v (last_of start (take from nodes)) (slice_range nodes from to))

module _ {model : Model} {p : Penalties} {lists : List (List ℕ)} {route_sums : List RouteSums} {both : RouteSums}
    (are : AreAllRouteSums model p lists route_sums) (v : ℕ) (owner : v < length model.vehicles) (of : both ≡ slice_index_or route_sums v no_route_sums) where
  abbrev start : ℕ
  start = (vehicle_at model v).start

  abbrev end : ℕ
  end = (vehicle_at model v).end

  here : AreRouteSums model p v (route lists v) both
  here = subst (AreRouteSums model p v (route lists v)) (sym of) (are.each v owner)

  -- there is a sum before each place of the list, before the end, and behind it
  long : (sums : List ℤ) → length sums ≡ suc (length (line_nodes model v (route lists v))) → length sums ≡ length (route lists v) + 2
  long sums many = let n = length-append (route lists v) (end ∷ []) in omega (arith, many, n)

  pub forward_long : length both.forward ≡ length (route lists v) + 2
  forward_long = long both.forward here.forward.many

  pub back_long : length both.back ≡ length (route lists v) + 2
  back_long = long both.back here.back.many

  -- a stretch of the list
  pub kept_stretch : IsWellFormed model → AtMost 1000000000 p → IsTrue (is_valid model lists)
      → (front behind : ℕ) → front ≤ behind → behind ≤ length (route lists v)
      → {total : ℤ} → IsBetween (weight_by model p false) v start (line_nodes model v (route lists v)) front (behind + 1) both.forward total
      → IsStretch model p v (route lists v) front behind total
  kept_stretch well few valid front behind order high {total} sum = record {
    range = range;
    read = (let low = range.at_least in let most = range.at_most in omega (arith, ints, low, most));
    value = stretch-value model well p few v owner (route lists v) below short front behind order high total (sum here.forward);
  }
    where
      below : All (λ node. node < model.nodes) (route lists v)
      below = list_below model lists valid v refl

      short : length (route lists v) ≤ 1000
      short = list_short model lists valid well v refl

      range : IsIn (pos 0) (pos (1001 * 2 ^ 70)) total
      range = stretch-range model well p few v owner (route lists v) below short front behind order high total (sum here.forward)

  module _ (well : IsWellFormed model) (few : AtMost 1000000000 p) (valid : IsTrue (is_valid model lists)) (w : ℕ) (known : w < length model.vehicles)
      (same : (vehicle_at model v).costs ≡ (vehicle_at model w).costs) {list : List ℕ}
      (is : list ≡ route lists v) (from to : ℕ) (order : from < to) (place : to ≤ length (route lists v)) where
    short : length list ≤ 1000
    short = list_short model lists valid well v is

    high : to ≤ length list
    high = subst (λ l. to ≤ length l) (sym is) place

    chain : All (λ node. node < model.nodes) (slice_range list from to)
    chain =
        All-take (λ node. node < model.nodes) (to - from) (drop from list) (All-drop (λ node. node < model.nodes) from list (list_below model lists valid v is))

    -- a chain of the list that is taken forward
    pub kept_forward : {total : ℤ} → IsBetween (weight_by model p false) v start (list ++ end ∷ []) (from + 1) to both.forward total
        → IsKept model p w (slice_range list from to) (get_or list from 0) (get_or list (to - 1) 0) (to - from - 1) total
    kept_forward {total} sum =
        let sums = subst (λ l. AreArcSums (weight_by model p false) v start (l ++ end ∷ []) both.forward) (sym is) here.forward in
        kept model well p few w known (slice_range list from to) (get_or list from 0) (get_or list (to - 1) 0) (to - from - 1) total
        (kept-forward model p v w same list from to order high total (sum sums)) chain (omega (arith, high, short))

    -- and one that is taken back
    pub kept_back : {total : ℤ} → IsBetween (weight_by model p true) v start (list ++ end ∷ []) (from + 1) to both.back total
        → IsKept model p w (reverse (slice_range list from to)) (get_or list (to - 1) 0) (get_or list from 0) (to - from - 1) total
    kept_back {total} sum =
        let sums = subst (λ l. AreArcSums (weight_by model p true) v start (l ++ end ∷ []) both.back) (sym is) here.back in
        kept model well p few w known (reverse (slice_range list from to)) (get_or list (to - 1) 0) (get_or list from 0) (to - from - 1) total
        (kept-back model p v w same list from to order high total (sum sums)) (all-reversed (λ node. node < model.nodes) (slice_range list from to) chain)
        (omega (arith, high, short))

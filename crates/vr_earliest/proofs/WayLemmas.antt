-- Ways and what is left behind them, and their numbers.
use Rattle.std.proofs.Common.{◌≡◌, ◌∙◌, ℕ, suc, ◌+◌, ◌<◌, ◌≤◌, Bool, true, false, cond, List, [], ◌∷◌, ◌++◌, ◌-◌, ◌*◌, length, length-append, reverse, take}
use Rattle.std.proofs.Common.{drop, refl, ap, ap₂, sym, subst, arith}
use Rattle.std.specs.Prelude.{ℤ, pos, ◌+ℤ◌, All}
use Rattle.std.specs.Int.{int_max}
use Rattle.std.proofs.lemmas.List.Sums.{fold-append}
use Rattle.std.proofs.lemmas.Int.{ints, int_max_is}
use Rattle.std.proofs.lemmas.List.{length-drop, length-reverse, length-take-le, take-append-drop}
use Rattle.std.proofs.lemmas.List.Elements.{All-drop, All-take}
use Rattle.vr_model.specs.tables.Numbers.{horizon}
use Rattle.vr_model.specs.tables.Tables.{dimension_at, no_vehicle, row_of, transit, vehicle_at}
use Rattle.vr_model.specs.tables.WellFormed.{IsIn, IsWellFormed}
use Rattle.vr_model.specs.routes.Routes.{route}
use Rattle.vr_model.specs.declared.records.Model.{Model}
use Rattle.vr_model.proofs.tables.Bounds.{transit_in_range}
use Rattle.vr_routes.specs.Pieces.{joined, nodes_of}
use Rattle.vr_routes.specs.declared.pieces.Piece.{Piece}
use Rattle.vr_routes.specs.declared.pieces.Piece.TheVariants.{Chain, Node}
use Rattle.vr_earliest.specs.declared.ways.Way.{Way}
use Rattle.vr_earliest.specs.declared.floors.Floors.{Floors}
use Rattle.vr_earliest.specs.declared.ways.Guide.{Guide}
use Rattle.vr_earliest.specs.declared.ways.Rest.{Rest}
use Rattle.vr_earliest.specs.Floors.{end_floor, floor_of, start_floor, visit_floor, AreFloors, HaveFloors}
use Rattle.vr_earliest.proofs.FloorLemmas.{floor-range}
use Rattle.vr_earliest.specs.Rests.{at_end, rest_with_visit, rest_of, way_through_rest, IsRestOf}
use Rattle.vr_earliest.specs.Ways.{arcs-more, to_visits, way_from_start, to_node, on_to_visit, way_along, whole_way, IsWayOf}

module _ (model : Model) (well : IsWellFormed model) (d v : ℕ) (dimension : d < length model.dimensions) (vehicle : v < length model.vehicles) where
  pub node-way : (n : ℕ) (way : Way) (node : ℕ) (floor : ℤ) → IsWayOf model n way → node < model.nodes
      → IsIn (pos 0) horizon floor → IsWayOf model (n + 1) (to_node model d v way node floor)
  node-way n way node floor h low range =
      let t = transit_in_range model well d v dimension vehicle way.at node h.at low in
      let m = int_max_is (way.time +ℤ transit model d v way.at node) floor in
      record {
        at = low;
        early = omega (arith, ints, m, range.at_least);
        late = omega (arith, ints, m, t.at_most, h.late, range.at_most);
        low = omega (arith, ints, h.low, t.at_least);
        high = omega (arith, ints, h.high, t.at_most);
      }

  pub along-way : (floors : List ℤ) → HaveFloors (dimension_at model d).nodes model.nodes floors
      → (nodes : List ℕ) → All (λ node. node < model.nodes) nodes → (n : ℕ) (way : Way) → IsWayOf model n way
      → IsWayOf model (n + length nodes) (to_visits model d v way nodes)
  along-way floors have [] all n way h = arcs-more n (n + 0) (omega arith) h
  along-way floors have (x ∷ xs) all n way h =
      let low : x < model.nodes = all 0 0 (omega arith) in
      let range = floor-range _ _ floors have x low in
      let next = node-way n way x (floor_of (row_of (dimension_at model d).nodes x)) h low range in
      let rest = along-way floors have xs (λ k d low. all (suc k) d (omega (arith, low))) (n + 1) (on_to_visit model d v way x) next in
      arcs-more (n + 1 + length xs) (n + suc (length xs)) (omega arith) rest

  pub along-part : (floors : List ℤ) → HaveFloors (dimension_at model d).nodes model.nodes floors → (nodes : List ℕ)
      → All (λ node. node < model.nodes) nodes → (n : ℕ) (way : Way) → IsWayOf model n way → (k : ℕ) → k ≤ length nodes
      → IsWayOf model (n + k) (to_visits model d v way (take k nodes))
  along-part floors have nodes all n way h k le =
      arcs-more (n + length (take k nodes)) (n + k) (let l = length-take-le k nodes le in omega (arith, l))
      (along-way floors have (take k nodes) (All-take (λ node. node < model.nodes) k nodes all) n way h)

  pub start-way : IsIn (pos 0) horizon (start_floor model d v) → IsWayOf model 0 (way_from_start model d v)
  start-way range = record {
    at = (well.each_vehicle v no_vehicle vehicle).start_in_range;
    early = range.at_least;
    late = omega (arith, ints, range.at_most);
    low = omega (arith, ints);
    high = omega (arith, ints);
  }

  -- what is left from the end on
  pub end-rest : IsIn (pos 0) horizon (end_floor model d v) → IsRestOf model 0 (at_end model d v)
  end-rest range = record {
    at = (well.each_vehicle v no_vehicle vehicle).end_in_range;
    low = omega (arith, ints);
    high = omega (arith, ints);
    early = range.at_least;
    late = omega (arith, ints, range.at_most);
  }

  -- what is left of one arc more
  pub rest-before : (n : ℕ) (rest : Rest) (node : ℕ) → IsRestOf model n rest → node < model.nodes
      → IsIn (pos 0) horizon (visit_floor model d node) → IsRestOf model (n + 1) (rest_with_visit model d v node rest)
  rest-before n rest node h low range =
      let t = transit_in_range model well d v dimension vehicle node rest.at low h.at in
      let m = int_max_is (visit_floor model d node +ℤ (transit model d v node rest.at +ℤ rest.transits)) rest.least_end in
      record {
        at = low;
        low = omega (arith, ints, h.low, t.at_least);
        high = omega (arith, ints, h.high, t.at_most);
        early = omega (arith, ints, m, h.early);
        late = omega (arith, ints, m, t.at_most, h.late, range.at_most, h.high);
      }

  -- a way through what is left
  pub end-way : (n m : ℕ) (way : Way) (rest : Rest) → IsWayOf model n way
      → IsRestOf model m rest → IsWayOf model (n + 1 + m) (way_through_rest model d v way rest)
  end-way n m way rest h r =
      let t = transit_in_range model well d v dimension vehicle way.at rest.at h.at r.at in
      let x = int_max_is (way.time +ℤ (transit model d v way.at rest.at +ℤ rest.transits)) rest.least_end in
      record {
        at = (well.each_vehicle v no_vehicle vehicle).end_in_range;
        early = omega (arith, ints, x, r.early);
        late = omega (arith, ints, x, t.at_most, h.late, r.high, r.late);
        low = omega (arith, ints, t.at_least, h.low, r.low);
        high = omega (arith, ints, t.at_most, h.high, r.high);
      }

  -- what is left from visits on
  pub rest-range : (floors ends : List ℤ) → HaveFloors (dimension_at model d).nodes model.nodes floors
      → HaveFloors (dimension_at model d).ends (length model.vehicles) ends
      → (nodes : List ℕ) → All (λ node. node < model.nodes) nodes → IsRestOf model (length nodes) (rest_of model d v nodes)
  rest-range floors ends have last [] all = end-rest (floor-range _ _ ends last v vehicle)
  rest-range floors ends have last (x ∷ xs) all =
      let low : x < model.nodes = all 0 0 (omega arith) in
      let range = floor-range _ _ floors have x low in
      let rest = rest-range floors ends have last xs (λ k d low. all (suc k) d (omega (arith, low))) in
      subst (λ n. IsRestOf model n (rest_of model d v (x ∷ xs))) (let e : length xs + 1 ≡ suc (length xs) = omega arith in e)
      (rest-before (length xs) (rest_of model d v xs) x rest low range)

  module _ (floors : Floors) (have : AreFloors model d floors) (list : List ℕ) (few : length list ≤ 1000) (nodes : All (λ node. node < model.nodes) list) where
    -- the way along the first visits of a list
    pub way-front : (k : ℕ) → k ≤ length list → IsWayOf model 1000 (way_along model d v (take k list))
    way-front k low =
        arcs-more (0 + k) 1000 (omega (arith, few, low))
        (along-part floors.visits.items have.visits list nodes 0 (way_from_start model d v)
        (start-way (floor-range _ _ floors.starts.items have.starts v vehicle)) k low)

    -- what is left behind a place of it
    pub rest-behind : (k : ℕ) → IsRestOf model 1000 (rest_of model d v (drop k list))
    rest-behind k =
        arcs-more (length (drop k list)) 1000 (let l = length-drop k list in omega (arith, few, l))
        (rest-range floors.visits.items floors.ends.items have.visits have.ends (drop k list) (All-drop (λ node. node < model.nodes) k list nodes))

module _ (model : Model) (d v : ℕ) where
  -- through a visit and what is left behind it
  through-visit : (way : Way) (x : ℕ) (rest : Rest)
      → way_through_rest model d v way (rest_with_visit model d v x rest) ≡ way_through_rest model d v (on_to_visit model d v way x) rest
  through-visit way x rest =
      let t = transit model d v way.at x in
      let u = transit model d v x rest.at in
      let a = int_max_is (way.time +ℤ (t +ℤ (u +ℤ rest.transits))) (int_max (visit_floor model d x +ℤ (u +ℤ rest.transits)) rest.least_end) in
      let b = int_max_is (visit_floor model d x +ℤ (u +ℤ rest.transits)) rest.least_end in
      let p = int_max_is (int_max (way.time +ℤ t) (visit_floor model d x) +ℤ (u +ℤ rest.transits)) rest.least_end in
      let q = int_max_is (way.time +ℤ t) (visit_floor model d x) in
      let time : int_max (way.time +ℤ (t +ℤ (u +ℤ rest.transits))) (int_max (visit_floor model d x +ℤ (u +ℤ rest.transits)) rest.least_end)
      ≡ int_max (int_max (way.time +ℤ t) (visit_floor model d x) +ℤ (u +ℤ rest.transits)) rest.least_end = omega (arith, ints, a, b, p, q) in
      let transits : way.transits +ℤ (t +ℤ (u +ℤ rest.transits)) ≡ (way.transits +ℤ t) +ℤ (u +ℤ rest.transits) = omega (arith, ints) in
      ap₂ (λ (x y : ℤ). (let w : Way = record { at = (vehicle_at model v).end; time = x; transits = y } in w)) time transits

  through-end : (way : Way) → way_through_rest model d v way (at_end model d v) ≡ to_node model d v way (vehicle_at model v).end (end_floor model d v)
  through-end way =
      let t = transit model d v way.at (vehicle_at model v).end in
      let left : t +ℤ pos 0 ≡ t = omega (arith, ints) in
      ap (λ (x : ℤ).
      (let w : Way = record { at = (vehicle_at model v).end; time = int_max (way.time +ℤ x) (end_floor model d v); transits = way.transits +ℤ x } in w))
      left

  -- what is left from visits on is the way along them to the end
  pub through-rest : (nodes : List ℕ) (way : Way) → way_through_rest model d v way (rest_of model d v nodes)
      ≡ to_node model d v (to_visits model d v way nodes) (vehicle_at model v).end (end_floor model d v)
  through-rest [] way = through-end way
  through-rest (x ∷ xs) way = through-visit way x (rest_of model d v xs) ∙ through-rest xs (on_to_visit model d v way x)

  -- the whole way is a way along the front of a list, on along others, and through what is left
  pub whole-way : (front middle behind list : List ℕ) → list ≡ front ++ (middle ++ behind)
      → way_through_rest model d v (to_visits model d v (way_along model d v front) middle) (rest_of model d v behind) ≡ whole_way model d v list
  whole-way front middle behind list is =
      through-rest behind (to_visits model d v (way_along model d v front) middle)
      ∙ sym (ap (whole_way model d v) is
      ∙ ap (λ w. to_node model d v w (vehicle_at model v).end (end_floor model d v))
      (fold-append (on_to_visit model d v) (way_from_start model d v) front (middle ++ behind)
      ∙ fold-append (on_to_visit model d v) (way_along model d v front) middle behind))

pub ordered-long : (back : Bool) (xs : List ℕ) → length (cond back (reverse xs) xs) ≡ length xs
ordered-long false xs = refl
ordered-long true xs = length-reverse xs

-- what is so of a guide is so of what it is of
pub by-guide : (guide : Guide) {model : Model} {d v : ℕ} → guide.model.now ≡ model → guide.d ≡ d
    → guide.v ≡ v → (P : Model → ℕ → ℕ → Type 0) → P guide.model.now guide.d guide.v → P model d v
by-guide guide {model} {d} {v} m n w P is = subst (P model d) w (subst (λ e. P model e guide.v) n (subst (λ x. P x guide.d guide.v) m is))

-- what a guide tells is of its model, its dimension and its vehicle
pub guided : {A : Type 0} (f : Model → ℕ → ℕ → A) (guide : Guide) (model : Model) (d v : ℕ)
    → guide.model.now ≡ model → guide.d ≡ d → guide.v ≡ v → f guide.model.now guide.d guide.v ≡ f model d v
guided f guide model d v m n w = ap (λ x. f x guide.d guide.v) m ∙ (ap (λ x. f model x guide.v) n ∙ ap (f model d) w)

-- ---- how many nodes pieces have

-- at most 1000 each, where each list has no more
piece-few : (lists : List (List ℕ)) → ((v : ℕ) → length (route lists v) ≤ 1000) → (piece : Piece) → length (nodes_of lists piece) ≤ 1000
piece-few lists few (Node node) = omega arith
piece-few lists few (Chain v from to reversed) =
    let left : List ℕ = drop from (route lists v) in
    let long = ordered-long reversed (take (to - from) left) in
    let two = length-append (take (to - from) left) (drop (to - from) left) in
    let all = ap length (take-append-drop (to - from) left) in
    let behind = length-drop from (route lists v) in
    let most = few v in
    omega (arith, long, two, all, behind, most)

pub joined-few : (lists : List (List ℕ)) → ((v : ℕ) → length (route lists v) ≤ 1000)
    → (pieces : List Piece) → length (joined lists pieces) ≤ 1000 * length pieces
joined-few lists few [] = omega arith
joined-few lists few (x ∷ xs) =
    let two = length-append (nodes_of lists x) (joined lists xs) in
    let one = piece-few lists few x in
    let rest = joined-few lists few xs in
    omega (arith, two, one, rest)

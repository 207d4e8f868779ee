-- A changed list, of which what stays at its ends is not walked.
use Rattle.std.proofs.Common.{◌≡◌, ◌∙◌, ℕ, ◌<◌, ◌≤◌, List, [], ◌++◌, ◌-◌, length, take, drop, ap, ap₂, sym, subst, arith}
use Rattle.std.specs.Prelude.{All, slice_index_or}
use Rattle.std.proofs.lemmas.List.{get_or_default}
use Rattle.vr_model.specs.routes.Routes.{route}
use Rattle.vr_model.specs.tables.WellFormed.{IsWellFormed}
use Rattle.vr_routes.specs.Pieces.{ListAfter, joined, no_part, part_at, IsSplice}
use Rattle.vr_routes.specs.declared.pieces.Piece.{Piece}
use Rattle.vr_routes.proofs.JoinedPieces.{all_left, all_right}
use Rattle.vr_parts.proofs.PartLemmas.{small}
use Rattle.vr_earliest.specs.declared.ways.Guide.{Guide}
use Rattle.vr_earliest.specs.declared.ways.Rest.{Rest}
use Rattle.vr_earliest.specs.declared.ways.Way.{Way}
use Rattle.vr_earliest.specs.Earlies.{MayTell}
use Rattle.vr_earliest.specs.Kept.{HasWays, HaveWays, KeptEarly, KeptWays}
use Rattle.vr_earliest.specs.Rests.{rest_of, way_through_rest, IsRestOf}
use Rattle.vr_earliest.specs.Ways.{to_visits, way_along, whole_way, IsWayOf}
use Rattle.vr_earliest.proofs.KeptLemmas.{kept-one, rest-at, way-at}
use Rattle.vr_earliest.proofs.WayLemmas.{joined-few, rest-behind, way-front, whole-way}

-- ---- a changed list and what is kept of the one before it

-- a changed list of the vehicle of a guide is a splice of the list of which this is kept
pub record IsKeptAround (g : Guide) (lists : List (List ℕ)) (pieces : List Piece) (front behind : ℕ) (middle : List Piece) (kept : KeptWays) : Type 0 where
  pub splice : IsSplice lists g.v pieces front behind middle
  pub has : HasWays g.model.now g.d g.v (route lists g.v) kept
  pub few : (v : ℕ) → length (route lists v) ≤ 1000
  pub before : All (λ node. node < g.model.now.nodes) (route lists g.v)
  pub below : All (λ node. node < g.model.now.nodes) (joined lists pieces)

module _ {g : Guide} {lists : List (List ℕ)} {pieces : List Piece} {front behind : ℕ}
    {middle : List Piece} {kept : KeptWays} (it : IsKeptAround g lists pieces front behind middle kept) where
  low : front ≤ length (route lists g.v)
  low = omega (arith, it.splice.order, it.splice.high)

  -- its ends are kept
  pub front-kept : front < length kept.ways.items
  front-kept = let l = low in omega (arith, it.has.ways.many, l)

  pub behind-kept : behind < length kept.rests.items
  behind-kept = omega (arith, it.has.rests.many, it.splice.high)

  -- what comes between
  pub middle-few : length pieces ≤ 8 → length (joined lists middle) ≤ 8000
  middle-few eight = let n = joined-few lists it.few middle in omega (arith, n, it.splice.few, eight)

  pub middle-below : All (λ node. node < g.model.now.nodes) (joined lists middle)
  middle-below =
      let Below : ℕ → Type 0 = λ node. node < g.model.now.nodes in
      all_left Below (joined lists middle) (drop behind (route lists g.v))
      (all_right Below (take front (route lists g.v)) (joined lists middle ++ drop behind (route lists g.v)) (subst (All Below) it.splice.joins it.below))

  -- the way that is kept in front
  way-is : (way : Way) → ((other : Way) → way ≡ slice_index_or kept.ways.items front other) → way ≡ way_along g.model.now g.d g.v (take front (route lists g.v))
  way-is way read = way-at g.model.now g.d g.v (route lists g.v) kept front way it.has low read

  pub way-small : (way : Way) → ((other : Way) → way ≡ slice_index_or kept.ways.items front other) → IsWayOf g.model.now 1000 way
  way-small way read =
      subst (IsWayOf g.model.now 1000) (sym (way-is way read))
      (way-front g.model.now g.sound.well_formed g.d g.v g.sound.dimension g.sound.vehicle
      g.floors.now g.sound.floors_are (route lists g.v) it.has.few it.before front low)

  -- what is kept behind
  rest-is : (rest : Rest) → ((other : Rest) → rest ≡ slice_index_or kept.rests.items (length kept.rests.items - 1 - behind) other)
      → rest ≡ rest_of g.model.now g.d g.v (drop behind (route lists g.v))
  rest-is rest read = rest-at g.model.now g.d g.v (route lists g.v) kept behind rest it.has it.splice.high read

  pub rest-small : (rest : Rest) → ((other : Rest) → rest ≡ slice_index_or kept.rests.items (length kept.rests.items - 1 - behind) other)
      → IsRestOf g.model.now 1000 rest
  rest-small rest read =
      subst (IsRestOf g.model.now 1000) (sym (rest-is rest read))
      (rest-behind g.model.now g.sound.well_formed g.d g.v g.sound.dimension g.sound.vehicle
      g.floors.now g.sound.floors_are (route lists g.v) it.has.few it.before behind)

  -- the way along the front, on along the middle and through what is left is the whole one
  pub whole-is : (first way whole : Way) (rest : Rest) → ((other : Way) → first ≡ slice_index_or kept.ways.items front other)
      → ((other : Rest) → rest ≡ slice_index_or kept.rests.items (length kept.rests.items - 1 - behind) other)
      → way ≡ to_visits g.model.now g.d g.v first (joined lists middle)
      → whole ≡ way_through_rest g.model.now g.d g.v way rest → whole ≡ whole_way g.model.now g.d g.v (joined lists pieces)
  whole-is first way whole rest first_read rest_read way_is is =
      is
      ∙ ap₂ (λ (w : Way) (r : Rest). way_through_rest g.model.now g.d g.v w r)
      (way_is ∙ ap (λ (w : Way). to_visits g.model.now g.d g.v w (joined lists middle)) (way-is first first_read)) (rest-is rest rest_read)
      ∙ whole-way g.model.now g.d g.v (take front (route lists g.v)) (joined lists middle) (drop behind (route lists g.v)) (joined lists pieces) it.splice.joins

-- ---- a part of a change

module _ {early : KeptEarly} {lists : List (List ℕ)} {parts : List ListAfter} {d : ℕ} (may : MayTell early lists parts d) where
  here : d < length early.kept
  here = omega (arith, may.dimension, may.stands.ways.many)

  -- ways are kept of all lists
  pub kept-of-all : (ones : List KeptWays) → ones ≡ slice_index_or early.kept d ones → length ones ≡ length lists
  kept-of-all ones is = ap (λ (l : List KeptWays). length l) (is ∙ get_or_default early.kept d ones [] here) ∙ may.of_all

  module _ (k : ℕ) (part : k < length parts) {v : ℕ} (is : v ≡ (part_at parts k).vehicle) where
    -- the vehicle of a part has a list
    pub vehicle-known : v < length lists
    vehicle-known = let known = may.parts_are.each_vehicle k no_part part in omega (arith, known, is)

    -- the list that a part gives the vehicle of a guide
    pub kept-around : (g : Guide) (ones : List KeptWays) (one : KeptWays) {front behind : ℕ} {middle : List Piece}
        → g.model.now ≡ early.model → g.d ≡ d → g.v ≡ v → ones ≡ slice_index_or early.kept d ones → one ≡ slice_index_or ones v one
        → IsSplice lists (part_at parts k).vehicle (part_at parts k).pieces front behind middle
        → IsKeptAround g lists (part_at parts k).pieces front behind middle one
    kept-around g ones one {front} {behind} {middle} same_model same_dimension same_vehicle ones_are one_is splice =
        let s = small early.model (subst IsWellFormed same_model g.sound.well_formed) lists may.stands.valid in
        let many = kept-of-all ones ones_are in
        let known = vehicle-known in
        let has = kept-one early.model d lists ones v one
        (subst (HaveWays early.model d lists) (sym ones_are) (may.stands.ways.each d ones here)) (omega (arith, many, known)) one_is in
        record {
          splice = subst (λ w. IsSplice lists w (part_at parts k).pieces front behind middle) (sym (same_vehicle ∙ is)) splice;
          has = subst (λ w. HasWays g.model.now g.d w (route lists w) one) (sym same_vehicle)
              (subst (λ e. HasWays g.model.now e v (route lists v) one) (sym same_dimension)
              (subst (λ m. HasWays m d v (route lists v) one) (sym same_model) has));
          few = s.few;
          before = subst (λ m. All (λ node. node < m.nodes) (route lists g.v)) (sym same_model) (s.below g.v);
          below = subst (λ m. All (λ node. node < m.nodes) (joined lists (part_at parts k).pieces)) (sym same_model) (may.below k part);
        }

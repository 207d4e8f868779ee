-- The matrix of a file is read as a matrix without negative entries.
use Rattle.std.proofs.Common.{◌≡◌, ◌∙◌, ◌⊎◌, inl, inr, ℕ, zero, suc, ◌+◌, ◌-◌, ◌*◌, ◌/◌, ◌<◌, ◌≤◌, ◌==◌, Bool, true, false, List, [], ◌∷◌, map, length, get_or}
use Rattle.std.proofs.Common.{Ok, refl, arith}
use Rattle.std.specs.Prelude.{ℤ, pos, ◌≤ℤ◌, flat_map, nat_lt, max, min, if◌then◌else◌}
use Rattle.std.specs.List.{All}
use Rattle.std.proofs.lemmas.Bool.{cases_order}
use Rattle.std.proofs.lemmas.Int.{ints}
use Rattle.std.proofs.lemmas.Nat.{mul-le}
use Rattle.std.proofs.lemmas.List.{length-map}
use Rattle.std.proofs.lemmas.List.FromFn.{length-range_with_len}
use Rattle.std.proofs.lemmas.List.Elements.{All-nil, All-head, All-tail, All-append, All-map, All-weaker}
use Rattle.serde_json.specs.Data.{Data}
use Rattle.vr_json.specs.Reading.{ReaderOf, and_then, array as array_of}
use Rattle.vr_json.specs.Kinds.{whole}
use Rattle.vr_model.specs.tables.Limits.{least_value, greatest_cost}
use Rattle.vr_model.specs.tables.Numbers.{below}
use Rattle.vr_model.specs.declared.records.Matrix.{Matrix}
use Rattle.vr_read.specs.Vehicles.{matrix as matrix_of}
use Rattle.vr_gen.proofs.ExactReadings.{All-below, ReadsAs, step, whole_reads, array_each}
use Rattle.vr_tsplib.specs.declared.section_rows.SiteRow.{SiteRow}
use Rattle.vr_tsplib.specs.declared.files.State.{State}
use Rattle.vr_tsplib.specs.declared.summaries.Distances.{Distances}
use Rattle.vr_tsplib.specs.declared.summaries.Distances.TheVariants.{Plane, Full, Lower}
use Rattle.vr_tsplib.specs.Ranges.{IsLight, IsSiteInRange, AreLinesInRange}
use Rattle.vr_tsplib.specs.Roots.{floor_root, nearest}
use Rattle.vr_tsplib.specs.Trees.{axis_gap, distance, file_nodes, matrix, sites, weight, weight_at}
use Rattle.vr_json.specs.Trees.{count, listed}
use Rattle.vr_tsplib.proofs.RootLemmas.{floor_root_is}
use Rattle.vr_tsplib.proofs.TreeLemmas.{apart_low, squares_low, sites_near}

-- a tree is read, at any path, as a matrix for n nodes that has no negative entry
pub record IsCostMatrix (n : ℕ) (d : Data) : Type 0 where
  pub matrix : Matrix
  pub is_read : (path : List ℕ) → matrix_of n path d ≡ Ok matrix
  pub not_negative : All (λ z. pos 0 ≤ℤ z) matrix.entries

all_joined : (P : ℤ → Type 0) (rows : List (List ℤ)) → All (All P) rows → All P (flat_map (λ row. row) rows)
all_joined P [] h = All-nil P
all_joined P (row ∷ rows) h = All-append P row (flat_map (λ row. row) rows) (All-head (All P) row rows h) (all_joined P rows (All-tail (All P) row rows h))

-- ---- what each of n things weighs to each of them

module _ {A : Type 0} (n : ℕ) (weigh : A → A → ℕ) (xs : List A) (all : length xs ≡ n) where
  abbrev row_of : A → Data
  row_of a = listed (λ b. count (weigh a b)) xs

  abbrev row_read : A → List ℤ
  row_read a = map (λ b. pos (weigh a b)) xs

  -- what the first weighs to all is within the limits
  abbrev IsLightTo : A → Type 0
  IsLightTo a = All (λ b. IsLight (weigh a b)) xs

  abbrev entry_reader : List ℤ → ReaderOf ℤ
  entry_reader so_far = whole least_value greatest_cost

  abbrev row_reader : List (List ℤ) → ReaderOf (List ℤ)
  row_reader earlier = array_of n n entry_reader

  row_reads : (a : A) → IsLightTo a → ReadsAs row_reader row_of row_read a
  row_reads a h earlier path =
      array_each entry_reader (λ b. count (weigh a b)) (λ b. pos (weigh a b)) n n path xs (omega (arith, all)) (omega (arith, all))
      (All-weaker (λ b. IsLight (weigh a b)) (ReadsAs entry_reader (λ b. count (weigh a b)) (λ b. pos (weigh a b))) each xs h)
    where
      each : (b : A) → IsLight (weigh a b) → ReadsAs entry_reader (λ b. count (weigh a b)) (λ b. pos (weigh a b)) b
      each b k so_far path = whole_reads (weigh a b) (omega (arith, k)) least_value greatest_cost path (omega (arith, ints)) (omega (arith, ints, k))

  rows_up : All (All (λ z. pos 0 ≤ℤ z)) (map row_read xs)
  rows_up = All-map (All (λ z. pos 0 ≤ℤ z)) row_read xs
      (λ i a low. All-map (λ z. pos 0 ≤ℤ z) (λ b. pos (weigh (get_or xs i a) b)) xs (λ j b near. omega (arith, ints)))

  weights_read : All IsLightTo xs → IsCostMatrix n (listed row_of xs)
  unfolding matrix_of and_then
  weights_read light = record {
    matrix = record { entries = flat_map (λ row. row) (map row_read xs) };
    is_read = λ path. step _
        (array_each row_reader row_of row_read n n path xs (omega (arith, all)) (omega (arith, all))
        (All-weaker IsLightTo (ReadsAs row_reader row_of row_read) row_reads xs light)) refl;
    not_negative = all_joined (λ z. pos 0 ≤ℤ z) (map row_read xs) rows_up;
  }

-- ---- distances in the plane

one_more : (b : Bool) (r : ℕ) → (if b then r + 1 else r) ≤ r + 1
one_more true r = omega arith
one_more false r = omega arith

root_few : (n r : ℕ) → r * r ≤ n → n ≤ 8000000000000 → r ≤ 3000000
root_few n r square high = by (cases_order r 3000000)
  where
    by : (r ≡ 3000000) ⊎ ((r < 3000000) ⊎ (3000000 < r)) → r ≤ 3000000
    by (inl e) = omega (arith, e)
    by (inr (inl low)) = omega (arith, low)
    by (inr (inr large)) =
        let p : 3000000 * 3000000 ≤ r * r = mul-le 3000000 3000000 r r (omega (arith, large)) (omega (arith, large)) in
        absurd (omega (arith, p, square, high))

nearest_light : (n : ℕ) → n ≤ 8000000000000 → IsLight (nearest n)
unfolding nearest
nearest_light n high =
    let r = floor_root n in
    omega (arith, one_more (nat_lt r (n - r * r)) r, root_few n r (floor_root_is n).square_low high)

distance_light : (a b : SiteRow) → IsSiteInRange a → IsSiteInRange b → IsLight (distance a b)
distance_light a b h k =
    nearest_light _
    (squares_low (axis_gap a.x b.x) (axis_gap a.y b.y) (apart_low a.x b.x h.x_least h.x_most k.x_least k.x_most)
    (apart_low a.y b.y h.y_least h.y_most k.y_least k.y_most))

distances_light : (places : List SiteRow) → All IsSiteInRange places → All (λ a. All (λ b. IsLight (distance a b)) places) places
distances_light places near =
    All-weaker IsSiteInRange (λ a. All (λ b. IsLight (distance a b)) places)
    (λ a h. All-weaker IsSiteInRange (λ b. IsLight (distance a b)) (λ b k. distance_light a b h k) places near) places near

-- ---- weights that stand in the file

weight_light : (weights : List ℕ) (k : ℕ) → All IsLight weights → IsLight (weight_at weights k)
weight_light [] k h = omega arith
weight_light (w ∷ weights) zero h = All-head IsLight w weights h
weight_light (w ∷ weights) (suc k) h = weight_light weights k (All-tail IsLight w weights h)

none_or : (b : Bool) (w : ℕ) → IsLight w → IsLight (if b then 0 else w)
none_or true w h = omega arith
none_or false w h = h

each_light : (lower : Bool) (n : ℕ) (weights : List ℕ) (i j : ℕ) → All IsLight weights → IsLight (weight lower n weights i j)
each_light true n weights i j h =
    let hi = max i j in
    none_or (i == j) (weight_at weights (hi * (hi - 1) / 2 + min i j)) (weight_light weights (hi * (hi - 1) / 2 + min i j) h)
each_light false n weights i j h = weight_light weights (i * n + j) h

weights_light : (lower : Bool) (n : ℕ) (weights : List ℕ) → All IsLight weights → All (λ i. All (λ j. IsLight (weight lower n weights i j)) (below n)) (below n)
weights_light lower n weights h =
    All-below (λ i. All (λ j. IsLight (weight lower n weights i j)) (below n)) n λ i first.
    All-below (λ j. IsLight (weight lower n weights i j)) n λ j second. each_light lower n weights i j h

-- ---- the matrix of a file

pub matrix_read : (distances : Distances) (n : ℕ) (state : State) → AreLinesInRange state → IsCostMatrix n (matrix distances n state)
matrix_read Plane n state sound =
    let places = sites n state.sites in
    weights_read n distance places (length-map (file_nodes n) _ ∙ length-range_with_len 1 n) (distances_light places (sites_near n state.sites sound.sites))
matrix_read Full n state sound =
    weights_read n (weight false n state.weights) (below n) (length-range_with_len 0 n) (weights_light false n state.weights sound.weights)
matrix_read Lower n state sound =
    weights_read n (weight true n state.weights) (below n) (length-range_with_len 0 n) (weights_light true n state.weights sound.weights)

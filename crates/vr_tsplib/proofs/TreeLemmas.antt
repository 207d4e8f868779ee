-- The numbers of a tree: nodes in order, and coordinates that lie in their range.
use Rattle.std.proofs.Common.{◌≡◌, ◌∙◌, ℕ, zero, suc, ◌+◌, ◌*◌, ◌≤◌, Bool, true, false, cond, ◌==◌, List, [], ◌∷◌, ◌++◌, map, find, Option, Some, None}
use Rattle.std.proofs.Common.{unwrap_or, refl, sym, ap, arith, add-zero}
use Rattle.std.specs.Prelude.{ℤ, pos, negsuc, ◌-ℤ◌, ◌≤ℤ◌, nat_abs}
use Rattle.std.specs.List.{All, range_with_len}
use Rattle.std.proofs.lemmas.Int.{ints}
use Rattle.std.proofs.lemmas.Nat.{mul-le}
use Rattle.std.proofs.lemmas.List.Elements.{All-head, All-tail, All-map}
use Rattle.vr_tsplib.specs.declared.section_rows.SiteRow.{SiteRow}
use Rattle.vr_tsplib.specs.Ranges.{IsSiteInRange}
use Rattle.vr_tsplib.specs.Rows.{site_of}
use Rattle.vr_tsplib.specs.Trees.{file_nodes, sites}

-- ---- nodes in order

map_more : {A : Type 0} (f : ℕ → A) (a n : ℕ) → map f (range_with_len a (suc n)) ≡ map f (range_with_len a n) ++ f (a + n) ∷ []
map_more f a zero = ap (λ k. f k ∷ []) (sym (add-zero a))
map_more f a (suc n) = ap (λ ks. f a ∷ ks) (map_more f (a + 1) n ∙ ap (λ k. map f (range_with_len (a + 1) n) ++ f k ∷ []) (omega arith))

-- one node more
pub one_node_more : {A : Type 0} (f : ℕ → A) (n : ℕ) → map f (file_nodes (n + 1)) ≡ map f (file_nodes n) ++ f (n + 1) ∷ []
one_node_more f n =
    let next : n + 1 ≡ suc n = omega arith in
    let same : 1 + n ≡ n + 1 = omega arith in
    ap (λ m. map f (range_with_len 1 m)) next ∙ map_more f 1 n ∙ ap (λ k. map f (range_with_len 1 n) ++ f k ∷ []) same

-- ---- coordinates

abs_low : (z : ℤ) → negsuc 1999999 ≤ℤ z → z ≤ℤ pos 2000000 → nat_abs z ≤ 2000000
abs_low (pos n) h k = omega (arith, ints, k)
abs_low (negsuc n) h k = omega (arith, ints, h)

-- two coordinates are not far apart
pub apart_low : (x y : ℤ) → negsuc 999999 ≤ℤ x → x ≤ℤ pos 1000000 → negsuc 999999 ≤ℤ y → y ≤ℤ pos 1000000 → nat_abs (x -ℤ y) ≤ 2000000
apart_low x y a b c d = abs_low (x -ℤ y) (omega (arith, ints, a, b, c, d)) (omega (arith, ints, a, b, c, d))

pub squares_low : (a b : ℕ) → a ≤ 2000000 → b ≤ 2000000 → a * a + b * b ≤ 8000000000000
squares_low a b h k =
    let p : a * a ≤ 4000000000000 = mul-le a a 2000000 2000000 h h in
    let q : b * b ≤ 4000000000000 = mul-le b b 2000000 2000000 k k in
    omega (arith, p, q)

-- a row that is found lies in range, and so does the origin
found_near : (t : Bool) (row other : SiteRow) (rest : Option SiteRow) → IsSiteInRange row
    → IsSiteInRange (unwrap_or rest other) → IsSiteInRange (unwrap_or (cond t (Some row) rest) other)
found_near true row other rest h k = h
found_near false row other rest h k = k

pub row_near : (rows : List SiteRow) (node : ℕ) → All IsSiteInRange rows → IsSiteInRange (site_of rows node)
row_near [] node h = record { x_least = omega (arith, ints); x_most = omega (arith, ints); y_least = omega (arith, ints); y_most = omega (arith, ints) }
row_near (row ∷ rows) node h =
    found_near (row.node == node) row (record { node = node; x = pos 0; y = pos 0 }) (find (λ row. row.node == node) rows)
    (All-head IsSiteInRange row rows h) (row_near rows node (All-tail IsSiteInRange row rows h))

pub sites_near : (n : ℕ) (rows : List SiteRow) → All IsSiteInRange rows → All IsSiteInRange (sites n rows)
sites_near n rows h = All-map IsSiteInRange (site_of rows) (file_nodes n) (λ k d low. row_near rows _ h)

-- Sums along paths, taken apart.
use Rattle.std.proofs.Common.{◌≡◌, ◌∙◌, ◌⊎◌, inl, inr, ℕ, zero, suc, ◌+◌, ◌-◌, ◌<◌, ◌≤◌, List, [], ◌∷◌, ◌++◌, length, take, drop, refl, sym, ap, subst, arith}
use Rattle.std.proofs.Common.{length-append, to_z, of_z, w64}
use Rattle.std.specs.Prelude.{ℤ, pos, ◌+ℤ◌, ◌-ℤ◌, slice_range, slice_index_or}
use Rattle.std.proofs.lemmas.Int.{ints}
use Rattle.std.proofs.lemmas.Bool.{cases_lt}
use Rattle.std.proofs.lemmas.List.{get_or_append_left, get_or_push}
use Rattle.vr_model.specs.tables.Numbers.{number_at}
use Rattle.vr_balance.specs.Sums.{last_of, path_sum, AreSums, AreSumsTo, HaveRange, IsUpTo}

pub last-append : (at : ℕ) (xs ys : List ℕ) → last_of at (xs ++ ys) ≡ last_of (last_of at xs) ys
last-append at [] ys = refl
last-append at (x ∷ xs) ys = last-append x xs ys

pub path-append : (f : ℕ → ℕ → ℤ) (at : ℕ) (xs ys : List ℕ) → path_sum f at (xs ++ ys) ≡ path_sum f at xs +ℤ path_sum f (last_of at xs) ys
path-append f at [] ys = omega (arith, ints)
path-append f at (x ∷ xs) ys = let i = path-append f x xs ys in omega (arith, ints, i)

-- one arc more
pub path-more : (f : ℕ → ℕ → ℤ) (at : ℕ) (xs : List ℕ) (k : ℕ) → k < length xs
    → path_sum f at (take (suc k) xs) ≡ path_sum f at (take k xs) +ℤ f (last_of at (take k xs)) (slice_index_or xs k 0)
path-more f at [] k low = absurd (omega (arith, low))
path-more f at (x ∷ xs) zero low = omega (arith, ints)
path-more f at (x ∷ xs) (suc k) low = let i = path-more f x xs k (omega (arith, low)) in omega (arith, ints, i)

-- the arcs up to a place, and those from there on
pub path-between : (f : ℕ → ℕ → ℤ) (at : ℕ) (xs : List ℕ) (a b : ℕ) → a ≤ b → b ≤ length xs
    → path_sum f at (take b xs) ≡ path_sum f at (take a xs) +ℤ path_sum f (last_of at (take a xs)) (slice_range xs a b)
path-between f at xs zero b order low =
    let e : b - 0 ≡ b = omega arith in
    let same : path_sum f at (slice_range xs 0 b) ≡ path_sum f at (take b xs) = ap (λ n. path_sum f at (take n xs)) e in
    omega (arith, ints, same)
path-between f at [] (suc a) b order low = absurd (omega (arith, order, low))
path-between f at (x ∷ xs) (suc a) zero order low = absurd (omega (arith, order))
path-between f at (x ∷ xs) (suc a) (suc b) order low =
    let i = path-between f x xs a b (omega (arith, order)) (omega (arith, low)) in
    let e : suc b - suc a ≡ b - a = omega arith in
    let same : path_sum f (last_of x (take a xs)) (slice_range (x ∷ xs) (suc a) (suc b)) ≡ path_sum f (last_of x (take a xs)) (slice_range xs a b) =
    ap (λ n. path_sum f (last_of x (take a xs)) (take n (drop a xs))) e in
    omega (arith, ints, i, same)

-- ---- sums that are kept

-- a sum is read as it is
pub read-up : (n : ℕ) (x : ℤ) → IsUpTo n x → n ≤ 1002 → to_z w64 (of_z w64 x) ≡ x
read-up n x h few = omega (arith, ints, h.low, h.high, few)

range-one : HaveRange (pos 0 ∷ [])
range-one = record { few = omega arith; each = range }
  where
    range : (k : ℕ) → k < 1 → IsUpTo k (number_at (pos 0 ∷ []) k)
    range zero low = record { low = omega (arith, ints); high = omega (arith, ints) }
    range (suc k) low = absurd (omega (arith, low))

-- those of a path of one node
pub sums-one : (f : ℕ → ℕ → ℤ) (first : ℕ) (nodes : List ℕ) (sums : List ℤ) → sums ≡ pos 0 ∷ [] → AreSumsTo f first nodes 0 sums
sums-one f first nodes sums e = subst (AreSumsTo f first nodes 0) (sym e) (record { many = refl; each = each; range = range-one })
  where
    each : (k : ℕ) → k ≤ 0 → number_at (pos 0 ∷ []) k ≡ path_sum f first (take k nodes)
    each zero low = refl
    each (suc k) low = absurd (omega (arith, low))

module _ (sums more : List ℤ) (x : ℤ) (is : more ≡ sums ++ x ∷ []) where
  before : (k : ℕ) → k < length sums → number_at more k ≡ number_at sums k
  before k low = ap (λ l. number_at l k) is ∙ get_or_append_left sums (x ∷ []) (pos 0) k low

  at : (k : ℕ) → k ≡ length sums → number_at more k ≡ x
  at k same = ap (λ l. number_at l k) is ∙ get_or_push sums x (pos 0) k (sym same)

  long : length more ≡ length sums + 1
  long = ap length is ∙ length-append sums (x ∷ [])

  range-more : HaveRange sums → length sums < 1002 → IsUpTo (length sums) x → HaveRange more
  range-more h room up = record { few = omega (arith, long, room); each = λ k low. each k (cases_lt k (length sums)) low }
    where
      each : (k : ℕ) → (k < length sums) ⊎ (length sums ≤ k) → k < length more → IsUpTo k (number_at more k)
      each k (inl low) _ = subst (IsUpTo k) (sym (before k low)) (h.each k low)
      each k (inr high) low =
          let same : k ≡ length sums = omega (arith, high, low, long) in
          subst (IsUpTo k) (sym (at k same)) (subst (λ n. IsUpTo n x) (sym same) up)

  -- those of one arc more
  pub sums-more : (f : ℕ → ℕ → ℤ) (first : ℕ) (nodes : List ℕ) (n : ℕ) (value : ℤ)
      → AreSumsTo f first nodes n sums → n < length nodes → length sums < 1002 → IsUpTo 1 value
      → value ≡ f (last_of first (take n nodes)) (slice_index_or nodes n 0) → x ≡ number_at sums n +ℤ value → AreSumsTo f first nodes (n + 1) more
  sums-more f first nodes n value h low room up arc sum = record {
    many = (let m = h.many in omega (arith, long, m));
    each = λ k high. each k (cases_lt k (suc n)) high;
    range = range-more h.range room (let m = h.many in let u = h.range.each n (omega (arith, m)) in
        record { low = omega (arith, ints, u.low, up.low, sum); high = omega (arith, ints, u.high, up.high, sum, m) });
  }
    where
      each : (k : ℕ) → (k < suc n) ⊎ (suc n ≤ k) → k ≤ n + 1 → number_at more k ≡ path_sum f first (take k nodes)
      each k (inl less) _ = let m = h.many in before k (omega (arith, less, m)) ∙ h.each k (omega (arith, less))
      each k (inr above) high =
          let m = h.many in
          let same : k ≡ suc n = omega (arith, above, high) in
          let here = h.each n (omega arith) in
          let next = path-more f first nodes n low in
          at k (omega (arith, same, m)) ∙ omega (arith, ints, sum, here, arc, next, ap (λ j. path_sum f first (take j nodes)) same)

-- the arcs between two places, from the sums there
pub sums-between : (f : ℕ → ℕ → ℤ) (first : ℕ) (nodes : List ℕ) (sums : List ℤ) (a b : ℕ) → AreSums f first nodes sums → a ≤ b → b < length sums
    → number_at sums b -ℤ number_at sums a ≡ path_sum f (last_of first (take a nodes)) (slice_range nodes a b)
sums-between f first nodes sums a b h order low =
    let many = h.many in
    let high : b ≤ length nodes = omega (arith, low, many) in
    let x = h.each b high in
    let y = h.each a (omega (arith, order, high)) in
    let t = path-between f first nodes a b order high in
    omega (arith, ints, x, y, t)
